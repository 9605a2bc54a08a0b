-- An idle tick adds nothing.
use Rattle.std.specs.List.{All, find, flat_map}
use Rattle.std.proofs.Common.{◌≡◌, ℕ, zero, suc, ◌+◌, ◌-◌, ◌%◌, ◌<◌, ◌≤◌, Bool, true, false, nat_eq, nat_le, nat_lt, if◌then◌else◌, List, [], ◌∷◌, ◌++◌, map, map-id, get_or, fold, option_map, unwrap_or, Option, Some, arith, sym, ap, ◌∙◌, refl, subst}
use Rattle.std.proofs.lemmas.Bool.Decides.{nat_tests}
use Rattle.std.proofs.lemmas.List.{append-nil}
use Rattle.std.proofs.lemmas.List.Elements.{All-append, All-cons, All-filter, All-head, All-map, All-nil, All-tail, filter_passes}
use Rattle.std.proofs.lemmas.Simd.{map-map}
use Rattle.std.proofs.lemmas.List.Sums.{fold-append}
use Rattle.ld_base.specs.Script.{Due, Script, after_take, first_due, next_tick}
use Rattle.ld_base.specs.declared.fields.Fields.{Fields}
use Rattle.pingpong.specs.declared.journal.Entry.{Entry}
use Rattle.pingpong.specs.declared.journal.What.{What}
use Rattle.pingpong.specs.declared.journal.What.TheVariants.{Took}
use Rattle.waveform_reader.specs.Scenario.{Setup}
use Rattle.waveform_reader.specs.Shapes.{value_at}
use Rattle.line_world.specs.Occasions.{Moment, Occasion, arrivals, moments, moments_at, occasions, samplings, slot_of, slots}
use Rattle.line_journal.specs.Stations.{Way, stations, ways}
use Rattle.line_world.specs.Occasions.Occasion.{arrival, sampling}
use Rattle.line_world.specs.Run.{Directed, State, after, asked, given, goes, run_through, script_on, start, with_script}
use Rattle.line_world.specs.Tick.{IsSample}
use Rattle.line_world.specs.World.{Event, Leads, Outcome, arrived, entries_of, entry_of, number_of, sampled}
use Rattle.line_world.specs.World.Outcome.{nothing, gives, fails}
use Rattle.script_wire.proofs.NextTicks.{none_fails, nothing_due}
use Rattle.line_world.proofs.Passing.{led}

-- a fold over what leaves a value leaves it
fold_still : {A B : Type 0} (f : B → A → B) (b : B) (xs : List A) → All (λ x. f b x ≡ b) xs → fold f b xs ≡ b
fold_still f b [] h = refl
fold_still f b (x ∷ xs) h =
    ap (λ y. fold f y xs) (All-head (λ x. f b x ≡ b) x xs h) ∙ fold_still f b xs (All-tail (λ x. f b x ≡ b) x xs h)

-- a script before its next tick gives nothing and stays
module _ (script : Script) (from tick : ℕ) (later : from ≤ tick) (early : tick < next_tick script from) where
  pub gives_nothing : given tick script ≡ nothing
  gives_nothing =
      ap (λ (b : Bool). if b then fails else unwrap_or (option_map (λ bits. gives bits) (first_due script.queue tick)) nothing) (none_fails script from tick later early)
      ∙ ap (λ (bits : Option (List ℕ)). unwrap_or (option_map (λ bits. gives bits) bits) nothing) (nothing_due script from tick later early).0

  pub stays_as_it_is : asked tick script ≡ script
  stays_as_it_is =
      ap (λ (b : Bool). if b then script else after_take script tick) (none_fails script from tick later early)
      ∙ ap (λ (queue : List Due). record { rules = script.rules; queue = queue }) (nothing_due script from tick later early).1

-- lines whose scripts give nothing and stay
abbrev pub IsQuiet : ℕ → Directed → Type 0
IsQuiet tick line = (given tick line.script ≡ nothing) × (asked tick line.script ≡ line.script)

abbrev pub AreQuiet : ℕ → List Directed → Type 0
AreQuiet tick lines = All (IsQuiet tick) lines

quiet_script : (tick from to : ℕ) (lines : List Directed) → AreQuiet tick lines → given tick (script_on from to lines) ≡ nothing
quiet_script tick from to [] quiet = refl
quiet_script tick from to (line ∷ lines) quiet =
    by_test (goes from to line) (quiet_script tick from to lines (All-tail (IsQuiet tick) line lines quiet))
  where
    by_test : (b : Bool) → given tick (script_on from to lines) ≡ nothing
        → given tick (unwrap_or (option_map (λ (line : Directed). line.script) (if b then Some line else find (goes from to) lines)) (record { rules = []; queue = [] })) ≡ nothing
    by_test true rest = (All-head (IsQuiet tick) line lines quiet).0
    by_test false rest = rest

quiet_lines : (tick from to : ℕ) (lines : List Directed) → AreQuiet tick lines → with_script from to (asked tick) lines ≡ lines
quiet_lines tick from to [] quiet = refl
quiet_lines tick from to (line ∷ lines) quiet =
    ap (λ (first : Directed). first ∷ with_script from to (asked tick) lines) (by_test (goes from to line))
    ∙ ap (λ (rest : List Directed). line ∷ rest) (quiet_lines tick from to lines (All-tail (IsQuiet tick) line lines quiet))
  where
    by_test : (b : Bool) → (if b then record line { script = asked tick line.script } else line) ≡ line
    by_test true = ap (λ (script : Script). record line { script = script }) (All-head (IsQuiet tick) line lines quiet).1
    by_test false = refl

-- a tick without a slot and without samples
pub record IsStill (s : Setup) (tick : ℕ) : Type 0 where
  pub no_slot : nat_eq (tick % 125) 0 ≡ false
  pub no_sample : (station : ℕ) → 1 ≤ station → station ≤ s.settings.stations → IsSample s station tick → ⊥

module _ (s : Setup) (tick : ℕ) (is : IsStill s tick) where
  -- no station takes one
  none_sampled : (station : ℕ) → 1 ≤ station → nat_le station s.settings.stations ≡ true → sampled s station tick ≡ []
  none_sampled station low high = by_test (nat_lt (number_of s station (tick - 1)) (number_of s station tick)) refl
    where
      there : station ≤ s.settings.stations
      there = grind (arith, nat_tests)

      by_test : (b : Bool) → nat_lt (number_of s station (tick - 1)) (number_of s station tick) ≡ b → sampled s station tick ≡ []
      by_test false e = ap (λ (b : Bool). if b then Took station (value_at s.settings s.shapes station tick) ∷ [] else []) e
      by_test true e = let more : IsSample s station tick = grind (arith, nat_tests) in absurd (is.no_sample station low there more)

  -- its moments are those of the lines and of the samples
  all_moments : (P : Moment → Type 0) → ((receiver sender : ℕ) → P (record { time = tick; occasion = arrival receiver sender }))
      → ((station : ℕ) → 1 ≤ station → nat_le station s.settings.stations ≡ true → P (record { time = tick; occasion = sampling station }))
      → All P (moments_at s.settings tick)
  all_moments P lines samples =
      All-map P (λ o. record { time = tick; occasion = o }) (occasions s.settings tick)
      (All-append (λ o. P (record { time = tick; occasion = o })) (arrivals s.settings ++ samplings s.settings) (slots s.settings tick)
      (All-append (λ o. P (record { time = tick; occasion = o })) (arrivals s.settings) (samplings s.settings) asked_ones taken_ones) no_slots)
    where
      asked_ones : All (λ o. P (record { time = tick; occasion = o })) (arrivals s.settings)
      asked_ones =
          All-map (λ o. P (record { time = tick; occasion = o })) (λ (way : Way). arrival way.to way.from) (ways s.settings)
          (λ k d h. lines (get_or (ways s.settings) k d).to (get_or (ways s.settings) k d).from)

      low : All (λ n. 1 ≤ n) (1 ∷ 2 ∷ 3 ∷ [])
      low = All-cons (λ n. 1 ≤ n) 1 (2 ∷ 3 ∷ []) (omega arith) (All-cons (λ n. 1 ≤ n) 2 (3 ∷ []) (omega arith) (All-cons (λ n. 1 ≤ n) 3 [] (omega arith) (All-nil (λ n. 1 ≤ n))))

      taken_ones : All (λ o. P (record { time = tick; occasion = o })) (samplings s.settings)
      taken_ones =
          All-map (λ o. P (record { time = tick; occasion = o })) sampling (stations s.settings)
          (λ k d h. samples (get_or (stations s.settings) k d) (All-filter (λ n. nat_le n s.settings.stations) (λ n. 1 ≤ n) (1 ∷ 2 ∷ 3 ∷ []) low k d h)
          (filter_passes (λ n. nat_le n s.settings.stations) (1 ∷ 2 ∷ 3 ∷ []) k d h))

      no_slots : All (λ o. P (record { time = tick; occasion = o })) (slots s.settings tick)
      no_slots =
          subst (λ (all : List Occasion). All (λ o. P (record { time = tick; occasion = o })) all)
          (sym (ap (λ (b : Bool). if b then flat_map (slot_of s.settings) (stations s.settings) else []) is.no_slot)) (All-nil (λ o. P (record { time = tick; occasion = o })))

  -- so it leads from a journal to itself
  pub stays : (journal : List Entry) → Leads s (moments_at s.settings tick) journal journal
  stays journal = record {
    events = map quiet (moments_at s.settings tick);
    moments = map-map (λ (event : Event). event.moment) quiet (moments_at s.settings tick) ∙ map-id (moments_at s.settings tick);
    journal = sym (fold_still (λ (so_far : List Entry) (event : Event). so_far ++ entries_of s so_far event) journal (map quiet (moments_at s.settings tick)) still);
  }
    where
      quiet : Moment → Event
      quiet moment = record { moment = moment; outcome = nothing }

      still : All (λ event. journal ++ entries_of s journal event ≡ journal) (map quiet (moments_at s.settings tick))
      still =
          All-map (λ event. journal ++ entries_of s journal event ≡ journal) quiet (moments_at s.settings tick)
          (all_moments (λ moment. journal ++ entries_of s journal (quiet moment) ≡ journal) (λ receiver sender. append-nil journal)
          (λ station low high. ap (λ (whats : List What). journal ++ map (entry_of s tick) whats) (none_sampled station low high) ∙ append-nil journal))

  -- and over scripts that give nothing and stay, a run too
  pub rests : (state : State) → AreQuiet tick state.lines
      → fold (after s) state (moments_at s.settings tick) ≡ state
  rests state quiet =
      fold_still (after s) state (moments_at s.settings tick) (all_moments (λ moment. after s state moment ≡ state) line_asked sample_taken)
    where
      line_asked : (receiver sender : ℕ) → after s state (record { time = tick; occasion = arrival receiver sender }) ≡ state
      line_asked receiver sender =
          ap (λ (outcome : Outcome). record { journal = state.journal ++ map (entry_of s tick) (arrived receiver sender outcome); lines = with_script sender receiver (asked tick) state.lines })
          (quiet_script tick sender receiver state.lines quiet)
          ∙ ap (λ (j : List Entry). record { journal = j; lines = with_script sender receiver (asked tick) state.lines }) (append-nil state.journal)
          ∙ ap (λ (lines : List Directed). record { journal = state.journal; lines = lines }) (quiet_lines tick sender receiver state.lines quiet)

      sample_taken : (station : ℕ) → 1 ≤ station → nat_le station s.settings.stations ≡ true
          → after s state (record { time = tick; occasion = sampling station }) ≡ state
      sample_taken station low high = ap (λ (whats : List What). record { journal = state.journal ++ map (entry_of s tick) whats; lines = state.lines })
          (none_sampled station low high) ∙ ap (λ (j : List Entry). record { journal = j; lines = state.lines }) (append-nil state.journal)

-- the moments with those of one tick more
pub moments_more : (f : Fields) (tick : ℕ) → moments f (suc tick) ≡ moments f tick ++ moments_at f tick
unfolding moments
moments_more f tick = refl

pub moments_none : (f : Fields) → moments f zero ≡ []
unfolding moments
moments_none f = refl

-- with a tick more
pub tick_leads : (s : Setup) (tick : ℕ) (old new : List Entry) → Leads s (moments s.settings tick) [] old → Leads s (moments_at s.settings tick) old new
    → Leads s (moments s.settings (suc tick)) [] new
tick_leads s tick old new so_far leads =
    subst (λ (these : List Moment). Leads s these [] new) (sym (moments_more s.settings tick))
    (led s (moments s.settings tick) (moments_at s.settings tick) [] old new so_far leads)

pub tick_runs : (s : Setup) (tick : ℕ) (old new : State) → run_through s (moments s.settings tick) ≡ old → fold (after s) old (moments_at s.settings tick) ≡ new
    → run_through s (moments s.settings (suc tick)) ≡ new
tick_runs s tick old new so_far runs =
    ap (λ (these : List Moment). run_through s these) (moments_more s.settings tick)
    ∙ fold-append (after s) (start s) (moments s.settings tick) (moments_at s.settings tick)
    ∙ ap (λ (state : State). fold (after s) state (moments_at s.settings tick)) so_far ∙ runs

-- with some idle ticks more
pub idle_leads : (s : Setup) (from ticks : ℕ) (journal : List Entry) → ((t : ℕ) → from ≤ t → t < from + ticks → IsStill s t)
    → Leads s (moments s.settings from) [] journal → Leads s (moments s.settings (from + ticks)) [] journal
idle_leads s from zero journal still leads = subst (λ (n : ℕ). Leads s (moments s.settings n) [] journal) (omega arith) leads
idle_leads s from (suc ticks) journal still leads =
    subst (λ (n : ℕ). Leads s (moments s.settings n) [] journal) (omega arith)
    (tick_leads s (from + ticks) journal journal (idle_leads s from ticks journal (λ t low high. still t low (omega arith)) leads)
    (stays s (from + ticks) (still (from + ticks) (omega arith) (omega arith)) journal))

pub idle_runs : (s : Setup) (from ticks : ℕ) (state : State) → ((t : ℕ) → from ≤ t → t < from + ticks → IsStill s t)
    → ((t : ℕ) → from ≤ t → t < from + ticks → AreQuiet t state.lines)
    → run_through s (moments s.settings from) ≡ state → run_through s (moments s.settings (from + ticks)) ≡ state
idle_runs s from zero state still quiet runs = ap (λ (n : ℕ). run_through s (moments s.settings n)) (omega arith) ∙ runs
idle_runs s from (suc ticks) state still quiet runs =
    ap (λ (n : ℕ). run_through s (moments s.settings n)) (omega arith)
    ∙ tick_runs s (from + ticks) state state (idle_runs s from ticks state (λ t low high. still t low (omega arith)) (λ t low high. quiet t low (omega arith)) runs)
    (rests s (from + ticks) (still (from + ticks) (omega arith) (omega arith)) state (quiet (from + ticks) (omega arith) (omega arith)))
