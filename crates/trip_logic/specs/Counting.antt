-- The counter of consecutive sets outside, and the verdict by it.
use Rattle.std.specs.Prelude.{ℕ, ◌+◌, min, nat_lt, ◌==◌, Bool, if◌then◌else◌}
use Rattle.trip_logic.specs.declared.verdict.Verdict.{Verdict}
use Rattle.trip_logic.specs.declared.verdict.Verdict.TheVariants.{Restrain, Outside, Trip}

-- how many consecutive sets were outside, up to `count`, after one more
abbrev pub run_after : ℕ → Bool → ℕ → ℕ
run_after run outside count = if outside then min count (run + 1) else 0

-- the verdict where the last sets of that many were outside
abbrev pub verdict_of : ℕ → ℕ → Verdict
verdict_of run count = if run == count then Trip else if nat_lt 0 run then Outside else Restrain
