use Rattle.std.proofs.Common.{take}
use Rattle.line_world.proofs.Stationing.{AreFresh}
use Rattle.line_world.proofs.terminals.terminals_of.Given as goal

abbrev pub invariant-loop-station : goal.invariant-loop-station
invariant-loop-station l = AreFresh l.s (take l.station-index l.station-items) l.terminals.items
