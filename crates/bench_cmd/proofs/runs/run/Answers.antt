use Rattle.std.proofs.Common.{◌≡◌, subst}
use Rattle.bench_cmd.specs.Answers.{Completes, Written, outcome}
use Rattle.bench_cmd.specs.declared.command.Command.{Command}
use Rattle.bench_cmd.specs.declared.command.Command.TheVariants.{Bench}
use Rattle.bench_cmd.proofs.Completeness.{whole_written}
use Rattle.bench_cmd.proofs.TrueRuns.{reports-true-time, run-calm}
use Rattle.bench_cmd.proofs.runs.run.Goals as goal

pub returns-in-Ok-outcome_of-clause-complete : goal.returns-in-Ok-outcome_of-clause-complete
returns-in-Ok-outcome_of-clause-complete g c = λ command input of reads tells few calm quiet.
    let same : c.in-Some.command ≡ command = cc (c.in-Some.ensures.shape) in
    let before = g.K.Sink.end c.args.sink.now in
    let after = g.K.Sink.end c.finish.new.sink in
    let written = rw c.deref.ensures.value at (c.finish.ensures _ c.in-Ok-outcome_of.ensures) in
    subst (λ (k : Command). Completes (outcome k input) before after c.finish.result) same
    (whole_written (outcome c.in-Some.command) _ _ before after _ input c.in-Ok.input.items tells quiet c.in-Ok.ensures.read written)

pub returns-in-Ok-outcome_of-clause-true_time : goal.returns-in-Ok-outcome_of-clause-true_time
returns-in-Ok-outcome_of-clause-true_time g c = λ bench done.
    let same : c.in-Some.command ≡ Bench = cc (c.in-Some.ensures.shape) in
    let sink = g.K.Sink.end c.args.sink.now in
    let written = rw c.deref.ensures.value at (c.finish.ensures _ c.in-Ok-outcome_of.ensures) in
    reports-true-time c.accepted_rows_make_a_scenario.ensures c.a_run_keeps_true_time.ensures
    (λ s of_setup calm. run-calm s (c.a_calm_run_is_honest.ensures.run s of_setup calm) (c.every_message_comes_at_its_tick.ensures.ticks s of_setup calm)
    (λ these me peer first pair allows. c.an_exchange_is_in_force_from_a_tick_on.ensures.moments s these me peer of_setup calm first pair allows)
    (λ me peer pair allows. c.no_alarm_unaligned_turns_on_from_a_tick_on.ensures.run s me peer of_setup calm pair allows))
    _ _ sink (g.K.Sink.end c.finish.new.sink) c.in-Ok.input.items c.finish.result done c.in-Ok.ensures.read
    (subst (λ (k : Command). Written (outcome k c.in-Ok.input.items) sink (g.K.Sink.end c.finish.new.sink) c.finish.result) same written)
