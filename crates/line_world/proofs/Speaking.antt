-- The slots of the stations, the samples of a tick, and moments that were cut short among others.
use Rattle.std.proofs.Common.{◌≡◌, ℕ, ◌+◌, ◌<◌, Bool, true, false, List, [], ◌∷◌, ◌++◌, length, map, take, drop, get_or, Option, sym, ap, ◌∙◌, refl, subst, append_assoc}
use Rattle.std.specs.Prelude.{◌-◌, ◌%◌, ◌==◌, nat_lt, if◌then◌else◌, OnErr, OnOk, Result, Ok, Err}
use Rattle.std.specs.List.{flat_map}
use Rattle.std.proofs.lemmas.List.{append-nil, map-append, take_more, take-append-drop, flat_map_more}
use Rattle.std.proofs.lemmas.List.Concat.{flat_map-append}
use Rattle.ld_base.specs.Script.{Script}
use Rattle.ld_base.specs.declared.fields.Fields.{Fields}
use Rattle.pingpong.specs.declared.journal.Entry.{Entry}
use Rattle.pingpong.specs.declared.journal.What.TheVariants.{Took}
use Rattle.relay_core.specs.Log.{peers}
use Rattle.waveform_reader.specs.Scenario.{Setup}
use Rattle.waveform_reader.specs.Shapes.{value_at}
use Rattle.line_world.specs.Terminals.{Terminals}
use Rattle.line_world.specs.Occasions.{Moment, Occasion, arrivals, at_tick, moments_at, samplings, slot_of}
use Rattle.line_journal.specs.Stations.{stations}
use Rattle.line_world.specs.Occasions.Occasion.{departure, sampling, slot}
use Rattle.line_world.specs.Passes.{Passes, Scene, Told, failures, scene_of}
use Rattle.line_world.specs.Tick.{CutShort}
use Rattle.line_world.specs.World.{Event, entries_of, entry_of, frames_at, journal_with, number_of, sampled, slot_with}
use Rattle.line_world.specs.World.Outcome.{nothing}
use Rattle.line_world.specs.declared.cable.Cable.{Cable}
use Rattle.line_world.proofs.Passing.{joined, none_passed, unasked}

abbrev moment_of : ℕ → Occasion → Moment
moment_of t o = record { time = t; occasion = o }

-- moments that were cut short, behind some that went by and before others
pub cut_within : (s : Setup) (before these behind whole : List Moment) (x y z : Scene) → whole ≡ before ++ these ++ behind
    → Passes s before x y → CutShort s these y z → CutShort s whole x z
cut_within s before these behind whole x y z is passes cut =
    let one = record { time = cut.time; occasion = departure cut.sender cut.receiver } ∷ cut.left in
    record {
      done = before ++ cut.done;
      time = cut.time;
      sender = cut.sender;
      receiver = cut.receiver;
      left = cut.left ++ behind;
      are =
          is ∙ ap (λ (all : List Moment). before ++ all ++ behind) cut.are
          ∙ ap (λ (all : List Moment). all ++ behind) (sym (append_assoc before cut.done one))
          ∙ append_assoc (before ++ cut.done) one behind;
      passes = joined s before cut.done x y z passes cut.passes;
    }

module _ {W : Type 0} (faults : W → ℕ) (script : W → Option Script) (s : Setup) (t i station : ℕ) (these : List ℕ) (start : Scene) (terminals mid new : Terminals) (cables after : List (Cable W))
    (inside : i < length these) (is : station ≡ get_or these i station)
    (so_far : Passes s (at_tick t (flat_map (slot_of s.settings) (take i these))) start (scene_of faults script terminals cables))
    (entry : mid.journal ≡ terminals.journal ++ entry_of s t (slot_with station (frames_at s terminals.journal t station)) ∷ []) where
  abbrev front : List Moment
  front = at_tick t (flat_map (slot_of s.settings) (take i these))

  abbrev one : Moment
  one = record { time = t; occasion = slot station }

  abbrev frames : List Moment
  frames = at_tick t (map (departure station) (peers s.settings station))

  abbrev behind : List Moment
  behind = at_tick t (flat_map (slot_of s.settings) (drop (i + 1) these))

  -- a station has its slot
  slot_passes : Passes s (one ∷ []) (scene_of faults script terminals cables) (scene_of faults script mid cables)
  slot_passes =
      unasked s one terminals.journal mid.journal (entry_of s t (slot_with station (frames_at s terminals.journal t station)) ∷ []) (scene_of faults script terminals cables).wires
      (record { events = record { moment = one; outcome = nothing } ∷ []; moments = refl; journal = entry })
      entry (λ from to. refl) (λ lines. ap (λ (journal : List Entry). record { journal = journal; lines = lines }) (sym entry))

  to_slot : Passes s (front ++ one ∷ []) start (scene_of faults script mid cables)
  to_slot = joined s front (one ∷ []) start (scene_of faults script terminals cables) (scene_of faults script mid cables) so_far slot_passes

  next_is : at_tick t (flat_map (slot_of s.settings) (take (i + 1) these)) ≡ front ++ one ∷ [] ++ frames
  next_is =
      ap (λ (all : List ℕ). at_tick t (flat_map (slot_of s.settings) all)) (take_more these i station inside)
      ∙ ap (λ (x : ℕ). at_tick t (flat_map (slot_of s.settings) (take i these ++ x ∷ []))) (sym is)
      ∙ ap (λ (all : List Occasion). at_tick t all) (sym (flat_map_more (slot_of s.settings) [] (take i these) station))
      ∙ map-append (λ o. record { time = t; occasion = o }) (flat_map (slot_of s.settings) (take i these)) (slot_of s.settings station)
      ∙ sym (append_assoc front (one ∷ []) frames)

  whole_is : at_tick t (flat_map (slot_of s.settings) these) ≡ front ++ one ∷ [] ++ frames ++ behind
  whole_is =
      ap (λ (all : List ℕ). at_tick t (flat_map (slot_of s.settings) all)) (sym (take-append-drop (i + 1) these))
      ∙ ap (λ (all : List Occasion). at_tick t all) (flat_map-append (slot_of s.settings) (take (i + 1) these) (drop (i + 1) these))
      ∙ map-append (λ o. record { time = t; occasion = o }) (flat_map (slot_of s.settings) (take (i + 1) these)) (flat_map (slot_of s.settings) (drop (i + 1) these))
      ∙ ap (λ (all : List Moment). all ++ behind) next_is

  pub spoken : Passes s frames (scene_of faults script mid cables) (scene_of faults script new after)
      → Passes s (at_tick t (flat_map (slot_of s.settings) (take (i + 1) these))) start (scene_of faults script new after)
  spoken passes =
      subst (λ (all : List Moment). Passes s all start (scene_of faults script new after)) (sym next_is)
      (joined s (front ++ one ∷ []) frames start (scene_of faults script mid cables) (scene_of faults script new after) to_slot passes)

  pub cut_slot : CutShort s frames (scene_of faults script mid cables) (scene_of faults script new after)
      → CutShort s (at_tick t (flat_map (slot_of s.settings) these)) start (scene_of faults script new after)
  cut_slot cut =
      cut_within s (front ++ one ∷ []) frames behind (at_tick t (flat_map (slot_of s.settings) these)) start (scene_of faults script mid cables) (scene_of faults script new after)
      whole_is to_slot cut

-- a station takes its sample, or takes none
module _ (s : Setup) (t station : ℕ) where
  abbrev its : Bool → List Entry
  its b = map (entry_of s t) (if b then Took station (value_at s.settings s.shapes station t) ∷ [] else [])

  no_failures : (b : Bool) (from to : ℕ) → failures from to (its b) ≡ 0
  no_failures true from to = refl
  no_failures false from to = refl

  one_sampled : (old : List Entry) (wires : List Told)
      → Passes s (record { time = t; occasion = sampling station } ∷ []) (record { journal = old; wires = wires })
      (record { journal = old ++ map (entry_of s t) (sampled s station t); wires = wires })
  one_sampled old wires =
      let gained = map (entry_of s t) (sampled s station t) in
      unasked s (record { time = t; occasion = sampling station }) old (old ++ gained) gained wires
      (record { events = record { moment = record { time = t; occasion = sampling station }; outcome = nothing } ∷ []; moments = refl; journal = refl })
      refl (no_failures (nat_lt (number_of s station (t - 1)) (number_of s station t))) (λ lines. refl)

-- the samples of a tick leave the wires as they are
pub all_sampled : (s : Setup) (t : ℕ) (these : List ℕ) (events : List Event) (old new : List Entry) (wires : List Told)
    → map (λ event. event.moment) events ≡ at_tick t (map sampling these) → new ≡ journal_with s old events
    → Passes s (at_tick t (map sampling these)) (record { journal = old; wires = wires }) (record { journal = new; wires = wires })
all_sampled s t [] [] old new wires moments journal =
    subst (λ (x : List Entry). Passes s [] (record { journal = old; wires = wires }) (record { journal = x; wires = wires })) (sym journal)
    (none_passed s (record { journal = old; wires = wires }))
all_sampled s t [] (e ∷ events) old new wires moments journal = absurd (cc)
all_sampled s t (station ∷ these) [] old new wires moments journal = absurd (cc)
all_sampled s t (station ∷ these) (e ∷ events) old new wires moments journal =
    let same : e.moment ≡ record { time = t; occasion = sampling station } = cc in
    let rest : map (λ event. event.moment) events ≡ at_tick t (map sampling these) = cc in
    let middle = old ++ map (entry_of s t) (sampled s station t) in
    let is = journal ∙ ap (λ (m : Moment). journal_with s (old ++ entries_of s old (record { moment = m; outcome = e.outcome })) events) same in
    joined s (record { time = t; occasion = sampling station } ∷ []) (at_tick t (map sampling these)) (record { journal = old; wires = wires })
    (record { journal = middle; wires = wires }) (record { journal = new; wires = wires })
    (one_sampled s t station old wires) (all_sampled s t these events middle new wires rest is)

-- the moments of a tick, by whether it has slots
pub tick_is : (f : Fields) (t : ℕ) (b : Bool) → (t % 125 == 0) ≡ b
    → moments_at f t ≡ at_tick t (arrivals f) ++ at_tick t (samplings f) ++ at_tick t (if b then flat_map (slot_of f) (stations f) else [])
tick_is f t b is =
    let at = λ (o : Occasion). moment_of t o in
    let last = if b then flat_map (slot_of f) (stations f) else [] in
    ap (λ (b : Bool). at_tick t (arrivals f ++ samplings f ++ (if b then flat_map (slot_of f) (stations f) else []))) is
    ∙ map-append at (arrivals f ++ samplings f) last
    ∙ ap (λ (all : List Moment). all ++ at_tick t last) (map-append at (arrivals f) (samplings f))

-- the slots behind what went by before them in a tick
module _ {T E : Type 0} (s x : Setup) (t : ℕ) (before whole : List Moment) (start middle new : Scene) (same : x ≡ s)
    (is : whole ≡ before ++ at_tick t (flat_map (slot_of s.settings) (stations s.settings))) (passes : Passes s before start middle) where
  pub slots_pass : (r : Result T E) → OnOk r (Passes x (at_tick t (flat_map (slot_of x.settings) (stations x.settings))) middle new) → OnOk r (Passes s whole start new)
  slots_pass (Ok v) spoken =
      let these = at_tick t (flat_map (slot_of s.settings) (stations s.settings)) in
      subst (λ (all : List Moment). Passes s all start new) (sym is)
      (joined s before these start middle new passes
      (subst (λ (x : Setup). Passes x (at_tick t (flat_map (slot_of x.settings) (stations x.settings))) middle new) same spoken))
  slots_pass (Err e) spoken = tt

  pub slots_cut : (r : Result T E) → OnErr r (CutShort x (at_tick t (flat_map (slot_of x.settings) (stations x.settings))) middle new) → OnErr r (CutShort s whole start new)
  slots_cut (Ok v) cut = tt
  slots_cut (Err e) cut =
      let these = at_tick t (flat_map (slot_of s.settings) (stations s.settings)) in
      cut_within s before these [] whole start middle new (is ∙ sym (append-nil (before ++ these))) passes
      (subst (λ (x : Setup). CutShort x (at_tick t (flat_map (slot_of x.settings) (stations x.settings))) middle new) same cut)
