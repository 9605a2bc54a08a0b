use Rattle.std.proofs.Common.{◌≡◌, ◌+◌, true, false, rules, arith}
use Rattle.row_reader.specs.RowNumbers.{number_at}
use Rattle.bench_cmd.specs.Judge.{is_value}
use Rattle.bench_cmd.proofs.judge.phases_at.Goals as goal

pub returns-in_err-ok-3 : goal.returns-in_err-ok-3
returns-in_err-ok-3 c =
    let third : is_value (number_at c.args.numbers.now (c.args.place + 2)) ≡ false = search rules in
    rw (c.from_residual-in_err-ok-3.ensures, third) (grind arith)

pub returns : goal.returns
returns c =
    let first : is_value (number_at c.args.numbers.now c.args.place) ≡ true = search rules in
    let second : is_value (number_at c.args.numbers.now (c.args.place + 1)) ≡ true = search rules in
    let third : is_value (number_at c.args.numbers.now (c.args.place + 2)) ≡ true = search rules in
    (rw (first, second, third), search rules)
