use Rattle.std.proofs.Common.{arith}
use Rattle.message_check.proofs.Bytes.{IsRemainder-times_x_8}
use Rattle.message_check.proofs.fast.times_x_8.Goals as goal

pub returns : goal.returns
returns c = IsRemainder-times_x_8 c.args.remainder c.remainder_of.result (omega arith) c.remainder_of.ensures
