use Rattle.std.proofs.Common.{◌≡◌, fold, take}
use Rattle.ld_base.specs.Bits.{line_bits}
use Rattle.ld_base.specs.Script.{flipped}
use Rattle.script_wire.proofs.chunks.with_flips.Given as goal

-- the bits after the acts so far
abbrev pub invariant-loop-act : goal.invariant-loop-act
invariant-loop-act l = line_bits 256 l.bytes ≡ fold flipped (line_bits 256 l.frame) (take l.act-index l.acts)
