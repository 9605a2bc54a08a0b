-- SequenceOut: Out of the zero and of the negative sequence, two more cases of Out by a test, and their verdicts. (This project's own.)
use Rattle.std.specs.Prelude.{ℕ, ◌*◌, List, [], ◌∷◌, map, take}
use Rattle.ld_base.specs.declared.fields.Fields.{Fields}
use Rattle.ld_base.specs.declared.phases.SampleSet.{SampleSet}
use Rattle.phasor.specs.Point.{Point}
use Rattle.alpha_plane.specs.Outside.{OutsideBeyond, pickup_limit}
use Rattle.trip_logic.specs.TripAt.{Test, sector_of, verdict_by}
use Rattle.trip_logic.specs.declared.verdict.Verdict.{Verdict}
use Rattle.sequence_element.specs.Sequences.{zero_sequence, negative_sequence}

-- a sequence of each of the first stations
abbrev pub of_stations : (List Point → Point) → ℕ → List (List Point) → List Point
of_stations sequence stations sums = map sequence (take stations sums)

-- whether the zero sequences lie outside, and their total is above the pickup
abbrev pub is_zero_outside : Fields → ℕ → Test
is_zero_outside f pickup sums = OutsideBeyond (sector_of f) (pickup_limit pickup f.cycle) (of_stations zero_sequence f.stations sums)

-- the same of the negative sequences, which are 1024 times as large
abbrev pub is_negative_outside : Fields → ℕ → Test
is_negative_outside f pickup sums =
    OutsideBeyond (sector_of f) (pickup_limit pickup f.cycle * 1024) (of_stations negative_sequence f.stations sums)

-- the verdicts at set n, of the zero and of the negative sequence
abbrev pub verdicts : Fields → ℕ → ℕ → List SampleSet → ℕ → List Verdict
verdicts f zero_pickup negative_pickup judged n =
    verdict_by (is_zero_outside f zero_pickup) f.cycle f.count judged n ∷
    verdict_by (is_negative_outside f negative_pickup) f.cycle f.count judged n ∷ []
