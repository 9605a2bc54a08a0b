use Rattle.std.proofs.Common.{arith}
use Rattle.message_check.proofs.Dividends.{IsRemainder-times_x_low, IsRemainder-times_x_high}
use Rattle.message_check.proofs.slow.times_x.Goals as goal

pub returns-then-remainder-lt2147483648 : goal.returns-then-remainder-lt2147483648
returns-then-remainder-lt2147483648 c = IsRemainder-times_x_low c.args.remainder c.if-remainder-lt2147483648.true

pub returns-else-remainder-lt2147483648 : goal.returns-else-remainder-lt2147483648
returns-else-remainder-lt2147483648 c = IsRemainder-times_x_high c.args.remainder c.if-remainder-lt2147483648.false (omega arith)
