use Rattle.std.proofs.Common.{◌≡◌, drop}
use Rattle.ld_base.specs.Script.{slip_of}
use Rattle.script_wire.proofs.chunks.slip.Given as goal

-- no act so far is a slip
abbrev pub invariant-loop-act : goal.invariant-loop-act
invariant-loop-act l = slip_of l.acts ≡ slip_of (drop l.act-index l.acts)
