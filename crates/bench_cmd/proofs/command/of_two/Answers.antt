use Rattle.bench_cmd.proofs.WordNumbers.{word_below}
use Rattle.bench_cmd.proofs.command.of_two.Goals as goal

pub gen_of-requires : goal.gen_of-requires
gen_of-requires c = word_below c.args.first.now _ c.in_ok-word_number.ensures
