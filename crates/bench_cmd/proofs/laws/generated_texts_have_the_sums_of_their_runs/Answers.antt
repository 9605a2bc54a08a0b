use Rattle.bench_cmd.proofs.Generating.{generated-bench, generated-sums}
use Rattle.bench_cmd.proofs.laws.generated_texts_have_the_sums_of_their_runs.Goals as goal

pub returns : goal.returns
returns c = λ number ticks some limit.
    let is = c.every_number_gives_a_scenario.ensures number ticks some limit in
    (is.0, generated-sums number ticks is.0 is.1, generated-bench number ticks is.0 is.1 is.2)
