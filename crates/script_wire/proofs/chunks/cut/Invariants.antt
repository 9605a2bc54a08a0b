use Rattle.std.proofs.Common.{◌≡◌, drop}
use Rattle.ld_base.specs.Script.{cut_of}
use Rattle.script_wire.proofs.chunks.cut.Given as goal

-- no act so far is a cut
abbrev pub invariant-loop-act : goal.invariant-loop-act
invariant-loop-act l = cut_of l.acts ≡ cut_of (drop l.act-index l.acts)
