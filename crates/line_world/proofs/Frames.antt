-- The frames of a station, one line after the other.
use Rattle.std.proofs.Common.{◌≡◌, ◌≢◌, ℕ, ◌+◌, ◌<◌, ◌≤◌, Bool, true, false, ◌||◌, cond, List, [], ◌∷◌, ◌++◌, length, map, take, drop, get_or, set, Option, None, Some, sym, ap, ◌∙◌, refl, subst, arith, length-append}
use Rattle.std.specs.Prelude.{◌==◌, find, if◌then◌else◌, option_map}
use Rattle.std.specs.List.{All, flat_map, list_any}
use Rattle.std.proofs.lemmas.Bool.{eq-eqb, eqb-true, ne_eqb}
use Rattle.std.proofs.lemmas.List.{append-nil, append_assoc, length-map, set-get_or}
use Rattle.std.proofs.lemmas.List.Elements.{All-head, All-tail}
use Rattle.ld_base.specs.Script.{Script}
use Rattle.relay_core.specs.Log.{peers}
use Rattle.relay_core.specs.declared.answers.Outgoing.{Outgoing}
use Rattle.waveform_reader.specs.Scenario.{Setup}
use Rattle.line_world.specs.Terminals.{Terminals}
use Rattle.line_world.specs.Occasions.{Moment, Occasion, at_tick}
use Rattle.line_journal.specs.Stations.{ways}
use Rattle.line_world.specs.Occasions.Occasion.{departure}
use Rattle.line_world.specs.Passes.{Passes, Scene, scene_of}
use Rattle.line_world.specs.Tick.{AreLines, CutShort, way_of}
use Rattle.line_world.specs.declared.cable.Cable.{Cable}
use Rattle.line_world.proofs.Cabling.{about, departure_at, sent_all, sent_at, unsent_at, with_next}
use Rattle.line_world.proofs.Passing.{joined}
use Rattle.line_world.proofs.Ways.{peers_few, ways_send}

abbrev moment_at : ℕ → Occasion → Moment
moment_at t o = record { time = t; occasion = o }

-- a frame that is among some is found
pub none_found : (p : Outgoing → Bool) (frames : List Outgoing) → list_any p frames ≡ true → find p frames ≡ None → ⊥
none_found p [] there none = absurd (cc)
none_found p (o ∷ frames) there none = by_test (p o) there none (none_found p frames)
  where
    by_test : (b : Bool) → (b || list_any p frames) ≡ true → cond b (Some o) (find p frames) ≡ None → (list_any p frames ≡ true → find p frames ≡ None → ⊥) → ⊥
    by_test true there none rest = absurd (cc)
    by_test false there none rest = rest there none

-- what is so of all frames, by where they go, is so of the one that is found
pub found_has : (Q : ℕ → List ℕ → Type 0) (to : ℕ) (frames : List Outgoing) (bytes : List ℕ) → All (λ o. Q o.to o.bytes) frames
    → Some bytes ≡ option_map (λ o. o.bytes) (find (λ o. o.to == to) frames) → Q to bytes
found_has Q to [] bytes all is = absurd (cc)
found_has Q to (o ∷ frames) bytes all is =
    by_test (o.to == to) refl is (found_has Q to frames bytes (All-tail (λ (o : Outgoing). Q o.to o.bytes) o frames all))
  where
    by_test : (b : Bool) → (o.to == to) ≡ b → Some bytes ≡ option_map (λ o. o.bytes) (cond b (Some o) (find (λ o. o.to == to) frames))
        → (Some bytes ≡ option_map (λ o. o.bytes) (find (λ o. o.to == to) frames) → Q to bytes) → Q to bytes
    by_test true same is rest =
        let bytes_are : o.bytes ≡ bytes = cc in
        subst (λ (to : ℕ). Q to bytes) (eqb-true o.to to same)
        (subst (λ (bytes : List ℕ). Q o.to bytes) bytes_are (All-head (λ (o : Outgoing). Q o.to o.bytes) o frames all))
    by_test false other is rest = rest is

-- there is a frame to each peer
pub has_frame : (to : ℕ) (frames : List Outgoing) (stations : List ℕ) → map (λ o. o.to) frames ≡ stations → list_any (λ station. station == to) stations ≡ true
    → list_any (λ o. o.to == to) frames ≡ true
has_frame to frames stations are there = any_mapped frames ∙ ap (λ (stations : List ℕ). list_any (λ station. station == to) stations) are ∙ there
  where
    any_mapped : (frames : List Outgoing) → list_any (λ o. o.to == to) frames ≡ list_any (λ station. station == to) (map (λ o. o.to) frames)
    any_mapped [] = refl
    any_mapped (o ∷ frames) = ap (λ (b : Bool). (o.to == to) || b) (any_mapped frames)

module _ {W : Type 0} (faults : W → ℕ) (script : W → Option Script) (s : Setup) (t sender i : ℕ) (start : Scene) (terminals : Terminals) (cables : List (Cable W)) (c : Cable W)
    (inside : i < length cables) (is : c ≡ get_or cables i c) (lines : AreLines s.settings cables)
    (so_far : Passes s (flat_map (sent_at t sender) (take i (ways s.settings))) start (scene_of faults script terminals cables)) where
  abbrev front : List Moment
  front = flat_map (sent_at t sender) (take i (ways s.settings))

  abbrev one : Moment
  one = record { time = t; occasion = departure c.from c.to }

  -- a line of another station
  pub skipped_is : c.from ≢ sender → flat_map (sent_at t sender) (take (i + 1) (ways s.settings)) ≡ front
  skipped_is other =
      let none = ap (λ (b : Bool). if b then record { time = t; occasion = departure sender c.to } ∷ [] else []) (ne_eqb c.from sender other) in
      with_next faults script s.settings cables i c inside is lines (sent_at t sender) ∙ ap (λ (these : List Moment). front ++ these) none ∙ append-nil front

  pub skipped : c.from ≢ sender → Passes s (flat_map (sent_at t sender) (take (i + 1) (ways s.settings))) start (scene_of faults script terminals (set cables i c))
  skipped other =
      let same = ap (λ (x : Cable W). set cables i x) is ∙ set-get_or cables i c in
      subst (λ (these : List Moment). Passes s these start (scene_of faults script terminals (set cables i c))) (sym (skipped_is other))
      (subst (λ (all : List (Cable W)). Passes s front start (scene_of faults script terminals all)) (sym same) so_far)

  module _ (own : c.from ≡ sender) where
    here : sent_at t sender (way_of c) ≡ one ∷ []
    here =
        ap (λ (b : Bool). if b then record { time = t; occasion = departure sender c.to } ∷ [] else []) (eq-eqb c.from sender own)
        ∙ ap (λ (from : ℕ). record { time = t; occasion = departure from c.to } ∷ []) (sym own)

    next_is : flat_map (sent_at t sender) (take (i + 1) (ways s.settings)) ≡ front ++ one ∷ []
    next_is = with_next faults script s.settings cables i c inside is lines (sent_at t sender) ∙ ap (λ (these : List Moment). front ++ these) here

    whole_is : flat_map (sent_at t sender) (ways s.settings) ≡ front ++ one ∷ flat_map (sent_at t sender) (drop (i + 1) (ways s.settings))
    whole_is =
        let behind = flat_map (sent_at t sender) (drop (i + 1) (ways s.settings)) in
        about faults script s.settings cables i c inside is lines (sent_at t sender)
        ∙ ap (λ (these : List Moment). front ++ these ++ behind) here ∙ append_assoc front (one ∷ []) behind

    -- its frame goes out
    pub sent_next : (new : Terminals) (d : Cable W) → Passes s (one ∷ []) (scene_of faults script terminals (c ∷ [])) (scene_of faults script new (d ∷ []))
        → Passes s (flat_map (sent_at t sender) (take (i + 1) (ways s.settings))) start (scene_of faults script new (set cables i d))
    sent_next new d passes =
        subst (λ (these : List Moment). Passes s these start (scene_of faults script new (set cables i d))) (sym next_is)
        (joined s front (one ∷ []) start (scene_of faults script terminals cables) (scene_of faults script new (set cables i d)) so_far
        (departure_at faults script s.settings cables i c inside is lines s t terminals new d passes))

    module _ (small : sender ≤ 3) (large : 1 ≤ sender) (there : sender ≤ s.settings.stations) where
      all_is : at_tick t (map (departure sender) (peers s.settings sender)) ≡ front ++ one ∷ flat_map (sent_at t sender) (drop (i + 1) (ways s.settings))
      all_is =
          ap (λ (these : List Occasion). at_tick t these) (sym (ways_send s.settings sender small large there))
          ∙ sym (sent_all t sender (ways s.settings)) ∙ whole_is

      -- it is one of at most two
      pub one_left : length front ≤ 1
      one_left =
          let at = moment_at t in
          let behind = flat_map (sent_at t sender) (drop (i + 1) (ways s.settings)) in
          let few = peers_few s.settings sender small large in
          let as_many = ap (λ (these : List Moment). length these) all_is in
          omega (
            arith,
            few,
            as_many,
            length-append front (one ∷ behind),
            length-map (peers s.settings sender) (departure sender),
            length-map (map (departure sender) (peers s.settings sender)) at,
          )

      pub next_long : length (flat_map (sent_at t sender) (take (i + 1) (ways s.settings))) ≡ length front + 1
      next_long = ap (λ (these : List Moment). length these) next_is ∙ length-append front (one ∷ [])

      -- memory is refused for it
      pub cut_here : (new : Terminals) (d : Cable W) → Passes s [] (scene_of faults script terminals (c ∷ [])) (scene_of faults script new (d ∷ []))
          → CutShort s (at_tick t (map (departure sender) (peers s.settings sender))) start (scene_of faults script new (set cables i d))
      cut_here new d passes = record {
        done = front ++ [];
        time = t;
        sender = c.from;
        receiver = c.to;
        left = flat_map (sent_at t sender) (drop (i + 1) (ways s.settings));
        are =
            all_is ∙ ap (λ (these : List Moment). these ++ one ∷ flat_map (sent_at t sender) (drop (i + 1) (ways s.settings))) (sym (append-nil front));
        passes =
            joined s front [] start (scene_of faults script terminals cables) (scene_of faults script new (set cables i d)) so_far
            (unsent_at faults script s.settings cables i c inside is lines s t terminals new d passes);
      }
