use Rattle.std.proofs.Common.{◌≡◌, true, rules, arith, pos}
use Rattle.row_reader.specs.RowNumbers.{is_between, number_at}
use Rattle.bench_cmd.proofs.RowNumbers.{is_in_range-seven}
use Rattle.bench_cmd.proofs.judge.set_in_range.Goals as goal

pub returns : goal.returns
returns c =
    let number : is_between (pos 0, pos 4294967295) (number_at c.args.numbers.now 0) ≡ true = search rules in
    (rw (is_in_range-seven _ c.requires) (grind arith), search rules)
