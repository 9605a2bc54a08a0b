use Rattle.std.proofs.Common.{◌∙◌, ap, Ok, arith}
use Rattle.waveform_reader.specs.Scenario.{Setup}
use Rattle.line_world.proofs.Passing.{grown}
use Rattle.bench_cmd.proofs.reports.run_to_end.Goals as goal

pub running-smaller : goal.running-smaller
running-smaller g c =
    let went = c.in_ok-step.ensures.went c.in-Went.field-0 (ap (λ s. Ok s) c.in-Went.is) in
    omega (arith, went.next, went.later, went.early, ap (λ (s : Setup). s.end) went.setup)

pub running-preserved : goal.running-preserved
running-preserved g c =
    let went = c.in_ok-step.ensures.went c.in-Went.field-0 (ap (λ s. Ok s) c.in-Went.is) in (
      went.setup ∙ c.running.invariant.0,
      λ follows. c.in_ok-step.ensures.follows (c.running.invariant.1 follows),
      grown c.args.world.now c.running.world c.step.new.self c.running.invariant.2 c.in_ok-step.ensures.grows,
    )
