use Rattle.std.proofs.Common.{rules}
use Rattle.row_reader.proofs.Digits.{number_plain}
use Rattle.row_reader.proofs.numbers.number.Goals as goal

pub returns-in_ok-digits-in_default : goal.returns-in_ok-digits-in_default
returns-in_ok-digits-in_default c = number_plain c.args.text.now _ (search rules) c.in_ok-digits-in_default.ensures
