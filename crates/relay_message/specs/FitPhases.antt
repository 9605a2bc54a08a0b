-- Phases of sixteen bits.
use Rattle.std.specs.Prelude.{FitsSigned}
use Rattle.std.specs.Int.{w16}
use Rattle.ld_base.specs.declared.phases.Phases.{Phases}

-- each value is within -32768 to 32767
pub record FitPhases (phases : Phases) : Type 0 where
  pub a : FitsSigned w16 phases.a
  pub b : FitsSigned w16 phases.b
  pub c : FitsSigned w16 phases.c
