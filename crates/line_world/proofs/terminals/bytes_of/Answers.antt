use Rattle.std.proofs.Common.{arith, rules, sym}
use Rattle.line_world.proofs.Slotting.{bytes-of_bits}
use Rattle.line_world.proofs.terminals.bytes_of.Goals as goal

pub returns : goal.returns
returns c = sym (bytes-of_bits c.args.frame.bytes (omega arith) (search rules))
