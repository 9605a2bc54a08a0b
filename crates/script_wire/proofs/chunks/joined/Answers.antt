use Rattle.std.proofs.Common.{arith}
use Rattle.script_wire.proofs.FrameBits.{joined_bits}
use Rattle.script_wire.proofs.chunks.joined.Goals as goal

pub returns : goal.returns
returns c = joined_bits c.args.first c.args.second c.args.from c.from_be_bytes.result c.requires (omega arith) (omega (arith, c.from_be_bytes.ensures))
