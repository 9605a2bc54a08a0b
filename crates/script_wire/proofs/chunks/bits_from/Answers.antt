use Rattle.script_wire.proofs.Acts.{unwrapped}
use Rattle.script_wire.proofs.FrameBits.{bits_from}
use Rattle.std.proofs.Common.{◌≤◌, ◌∙◌, arith}
use Rattle.ld_base.specs.Bits.{line_bits}
use Rattle.script_wire.proofs.chunks.bits_from.Goals as goal

pub returns : goal.returns
returns c =
    let few : c.args.count ≤ 256 = omega arith in
    unwrapped _ c.new.result (line_bits c.args.count c.moved.result) c.unwrap_or_default.result few c.new.ensures c.unwrap_or_default.ensures
    ∙ bits_from c.args.frame.now c.moved.result c.args.from c.args.count c.requires c.moved.ensures
