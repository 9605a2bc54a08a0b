-- The two ends of a run: where input comes from, and where output goes.
use Rattle.std.specs.Prelude.{ℕ, List, Option}

-- a source or a sink at a moment: the bytes that it has left or that were written to it, where it tells them, and how many
-- of its calls have failed
pub record End : Type 0 where
  pub bytes : Option (List ℕ)
  pub faults : ℕ
