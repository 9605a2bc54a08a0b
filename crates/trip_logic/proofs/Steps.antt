-- How the trip rule goes on from set to set, as its private functions answer: which phases are outside, the runs of consecutive sets outside, and the verdicts.
use Rattle.std.specs.Prelude.{ℕ, Bool, false, if◌then◌else◌, List, Option, option_map, unwrap_or, is_none, slice_index, slice_index_or}
use Rattle.ld_base.specs.declared.fields.Fields.{Fields}
use Rattle.phasor.specs.Point.{Point}
use Rattle.phasor.specs.Sum.{of_three}
use Rattle.trip_logic.specs.Counting.{run_after, verdict_of}
use Rattle.trip_logic.specs.TripAt.{is_outside}
use Rattle.trip_logic.specs.declared.verdict.Verdict.{Verdict}
use Rattle.trip_logic.specs.declared.verdict.Verdict.TheVariants.{Waiting}

-- for each phase whether its sums lie outside, where there are sums
abbrev pub phases_outside : Fields → Option (List (List Point)) → Option (List Bool)
phases_outside f sums = option_map (λ sums. of_three (λ phase. is_outside f phase sums)) sums

-- whether a phase is known to be outside
abbrev pub is_known_outside : Option (List Bool) → ℕ → Bool
is_known_outside outside phase = unwrap_or (option_map (λ flags. slice_index_or flags phase false) outside) false

-- the run of each phase after one set more
abbrev pub runs_after : List ℕ → Option (List Bool) → ℕ → List ℕ
runs_after runs outside count = of_three (λ phase. run_after (slice_index runs phase) (is_known_outside outside phase) count)

-- the verdicts of the phases, which wait where it isn't known who is outside
abbrev pub verdicts_of : List ℕ → Option (List Bool) → ℕ → List Verdict
verdicts_of runs outside count = of_three (λ phase. if is_none outside then Waiting else verdict_of (slice_index runs phase) count)
