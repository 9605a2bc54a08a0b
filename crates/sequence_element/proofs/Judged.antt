-- What a sequence element keeps and answers after one set more.
use Rattle.std.specs.Prelude.{ℕ, ◌≡◌, ◌+◌, ◌≤◌, Bool, false, if◌then◌else◌, List, [], ◌∷◌, ◌++◌, Option, Some, None, option_map, unwrap_or, is_none, slice_index, slice_index_or}
use Rattle.std.proofs.Common.{refl}
use Rattle.ld_base.specs.declared.phases.SampleSet.{SampleSet}
use Rattle.ld_base.specs.declared.fields.Fields.{Fields}
use Rattle.ld_base.specs.Settings.{AreInRange}
use Rattle.phasor.specs.Point.{Point}
use Rattle.phasor.specs.Sum.{sums_before}
use Rattle.phasor.specs.Window as window
use Rattle.trip_logic.specs.Counting.{run_after, verdict_of}
use Rattle.trip_logic.specs.TripAt.{passes_where_known}
use Rattle.trip_logic.specs.declared.verdict.Verdict.{Verdict}
use Rattle.trip_logic.specs.declared.verdict.Verdict.TheVariants.{Waiting}
use Rattle.trip_logic.proofs.Counted.{run_counted, verdict_counted}
use Rattle.sequence_element.specs.Progress.{Progress, StandsFor}
use Rattle.sequence_element.specs.SequenceOut.{is_zero_outside, is_negative_outside, verdicts}

-- whether both sequences lie outside, where there are sums
abbrev pub sequences_outside : Fields → ℕ → ℕ → Option (List (List Point)) → Option (List Bool)
sequences_outside f zero_pickup negative_pickup sums =
    option_map (λ sums. is_zero_outside f zero_pickup sums ∷ is_negative_outside f negative_pickup sums ∷ []) sums

-- whether one of the two is known to be outside
abbrev pub is_known_outside : Option (List Bool) → ℕ → Bool
is_known_outside outside at = unwrap_or (option_map (λ flags. slice_index_or flags at false) outside) false

-- the runs after one set more, and the verdicts by them
abbrev pub runs_after : List ℕ → Option (List Bool) → ℕ → List ℕ
runs_after runs outside count =
    run_after (slice_index runs 0) (is_known_outside outside 0) count ∷ run_after (slice_index runs 1) (is_known_outside outside 1) count ∷ []

abbrev pub verdicts_of : List ℕ → Option (List Bool) → ℕ → List Verdict
verdicts_of runs outside count =
    (if is_none outside then Waiting else verdict_of (slice_index runs 0) count) ∷ (if is_none outside then Waiting else verdict_of (slice_index runs 1) count) ∷ []

-- what is known by the sums
module _ (f : Fields) (zero_pickup negative_pickup : ℕ) where
  zero_known : (sums : Option (List (List Point))) → is_known_outside (sequences_outside f zero_pickup negative_pickup sums) 0 ≡ passes_where_known (is_zero_outside f zero_pickup) sums
  zero_known None = refl
  zero_known (Some sums) = refl

  negative_known : (sums : Option (List (List Point)))
      → is_known_outside (sequences_outside f zero_pickup negative_pickup sums) 1 ≡ passes_where_known (is_negative_outside f negative_pickup) sums
  negative_known None = refl
  negative_known (Some sums) = refl

  is_none-sequences : (sums : Option (List (List Point))) → is_none (sequences_outside f zero_pickup negative_pickup sums) ≡ is_none sums
  is_none-sequences None = refl
  is_none-sequences (Some sums) = refl

-- an element goes on with one set more: the sums of its window, which sequences are outside by them, and the runs after that
module _ (old : Progress) (kept : window.Kept) (judged : List SampleSet) (set : SampleSet) (sums : Option (List (List Point)))
    (stands : StandsFor old judged) (in_range : AreInRange old.settings) (later : old.window.next ≤ set.number)
    (cycle : kept.cycle ≡ old.settings.cycle) (next : kept.next ≡ set.number + 1)
    (pushed : window.StandsFor kept (judged ++ set ∷ [])) (sums_is : sums ≡ sums_before kept.cycle (judged ++ set ∷ []) kept.next) where
  abbrev f : Fields
  f = old.settings

  abbrev outside : Option (List Bool)
  outside = sequences_outside f old.zero_pickup old.negative_pickup sums

  -- the element after the set
  abbrev new : Progress
  new = record { settings = f; zero_pickup = old.zero_pickup; negative_pickup = old.negative_pickup; window = kept; runs = runs_after old.runs outside f.count }

  StandsFor-push : StandsFor new (judged ++ set ∷ [])
  StandsFor-push = record {
    window = pushed;
    zero_run = rw (zero_known f old.zero_pickup old.negative_pickup sums)
        (run_counted f.cycle judged set old.window kept sums stands.window in_range.cycle later cycle next sums_is
        (is_zero_outside f old.zero_pickup) f.count (slice_index old.runs 0) stands.zero_run);
    negative_run = rw (negative_known f old.zero_pickup old.negative_pickup sums)
        (run_counted f.cycle judged set old.window kept sums stands.window in_range.cycle later cycle next sums_is
        (is_negative_outside f old.negative_pickup) f.count (slice_index old.runs 1) stands.negative_run);
  }

  verdicts_now : verdicts_of new.runs outside f.count ≡ verdicts f old.zero_pickup old.negative_pickup (judged ++ set ∷ []) set.number
  verdicts_now = λ i. zero_is i ∷ negative_is i ∷ []
    where
      zero_is : (if is_none outside then Waiting else verdict_of (slice_index new.runs 0) f.count)
          ≡ slice_index_or (verdicts f old.zero_pickup old.negative_pickup (judged ++ set ∷ []) set.number) 0 Waiting
      zero_is = rw (is_none-sequences f old.zero_pickup old.negative_pickup sums, zero_known f old.zero_pickup old.negative_pickup sums)
          (verdict_counted f.cycle judged set old.window kept sums stands.window in_range.cycle later cycle next sums_is
          (is_zero_outside f old.zero_pickup) f.count (slice_index old.runs 0) stands.zero_run)

      negative_is : (if is_none outside then Waiting else verdict_of (slice_index new.runs 1) f.count)
          ≡ slice_index_or (verdicts f old.zero_pickup old.negative_pickup (judged ++ set ∷ []) set.number) 1 Waiting
      negative_is = rw (is_none-sequences f old.zero_pickup old.negative_pickup sums, negative_known f old.zero_pickup old.negative_pickup sums)
          (verdict_counted f.cycle judged set old.window kept sums stands.window in_range.cycle later cycle next sums_is
          (is_negative_outside f old.negative_pickup) f.count (slice_index old.runs 1) stands.negative_run)

  -- so both hold after the set, of what the code has
  pub judged_push : (flags : Option (List Bool)) (runs : List ℕ) → flags ≡ outside → runs ≡ runs_after old.runs flags f.count
      → StandsFor (record { settings = f; zero_pickup = old.zero_pickup; negative_pickup = old.negative_pickup; window = kept; runs = runs }) (judged ++ set ∷ [])
      × (verdicts_of runs flags f.count ≡ verdicts f old.zero_pickup old.negative_pickup (judged ++ set ∷ []) set.number)
  judged_push flags runs flags_is runs_is = rw (runs_is, flags_is) (StandsFor-push, verdicts_now)
