-- The currents of three phases.
use Rattle.std.specs.Prelude.{pos}
use Rattle.ld_base.specs.declared.phases.Phases.{Phases}

-- no current in any phase
abbrev pub no_current : Phases
no_current = record { a = pos 0; b = pos 0; c = pos 0 }
