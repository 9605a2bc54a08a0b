-- Out, TripAt and the verdict, over the sets judged: by any test of the sums of a set, and by the test of a phase, which is one case
-- of it. (Trip rule of this project's own.)
use Rattle.std.specs.Prelude.{ℕ, zero, suc, Bool, true, false, ◌&&◌, if◌then◌else◌, List, map, take, Option, Some, None, is_none, slice_index_or}
use Rattle.ld_base.specs.declared.fields.Fields.{Fields}
use Rattle.ld_base.specs.declared.phases.SampleSet.{SampleSet}
use Rattle.phasor.specs.Point.{Point, origin}
use Rattle.phasor.specs.Sum.{of_three, Sums}
use Rattle.alpha_plane.specs.Inside.{Sector}
use Rattle.alpha_plane.specs.Outside.{OutsideAll}
use Rattle.trip_logic.specs.declared.verdict.Verdict.{Verdict}
use Rattle.trip_logic.specs.declared.verdict.Verdict.TheVariants.{Waiting, Restrain, Outside, Trip}

-- the restraint region of the settings
abbrev pub sector_of : Fields → Sector
sector_of f = record { rn = f.rn; rd = f.rd; p = f.p; q = f.q }

-- a test of the sums of a set, by station and then by phase
abbrev pub Test : Type 0
Test = List (List Point) → Bool

-- whether sums that may be missing are there and pass the test
abbrev pub passes_where_known : Test → Option (List (List Point)) → Bool
passes_where_known test None = false
passes_where_known test (Some sums) = test sums

-- Out by a test: the sums of set n over a cycle of c are defined and pass it
abbrev pub OutBy : Test → ℕ → List SampleSet → ℕ → Bool
OutBy test c judged n = passes_where_known test (Sums c judged n)

-- Out holds for each of the `count` numbers below `stop`
abbrev pub outs_before_by : Test → ℕ → List SampleSet → ℕ → ℕ → Bool
outs_before_by test c judged zero stop = true
outs_before_by test c judged (suc count) zero = false
outs_before_by test c judged (suc count) (suc stop) = OutBy test c judged stop && outs_before_by test c judged count stop

-- TripAt by a test: Out holds for each number from n - count + 1 to n
abbrev pub TripBy : Test → ℕ → ℕ → List SampleSet → ℕ → Bool
TripBy test c count judged n = outs_before_by test c judged count (suc n)

-- the verdict at set n by a test
abbrev pub verdict_by : Test → ℕ → ℕ → List SampleSet → ℕ → Verdict
verdict_by test c count judged n =
    if is_none (Sums c judged n) then Waiting
    else if TripBy test c count judged n then Trip
    else if OutBy test c judged n then Outside
    else Restrain

-- one phase of the sums of the first stations
abbrev pub column : ℕ → ℕ → List (List Point) → List Point
column stations phase sums = map (λ station. slice_index_or station phase origin) (take stations sums)

-- the test of a phase: whether its sums lie outside
abbrev pub is_outside : Fields → ℕ → Test
is_outside f phase sums = OutsideAll (sector_of f) f.pickup f.cycle (column f.stations phase sums)

-- Out: the sums of set n are defined and the phase lies outside
abbrev pub Out : Fields → List SampleSet → ℕ → ℕ → Bool
Out f judged phase n = OutBy (is_outside f phase) f.cycle judged n

-- TripAt: Out holds for each number from n - count + 1 to n
abbrev pub TripAt : Fields → List SampleSet → ℕ → ℕ → Bool
TripAt f judged phase n = TripBy (is_outside f phase) f.cycle f.count judged n

-- the verdict of a phase at set n
abbrev pub verdict : Fields → List SampleSet → ℕ → ℕ → Verdict
verdict f judged n phase = verdict_by (is_outside f phase) f.cycle f.count judged n

-- the verdicts at set n of the phases a, b and c
abbrev pub verdicts : Fields → List SampleSet → ℕ → List Verdict
verdicts f judged n = of_three (verdict f judged n)
