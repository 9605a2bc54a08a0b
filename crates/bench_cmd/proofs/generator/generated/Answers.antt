use Rattle.bench_cmd.proofs.Generating.{generated-written}
use Rattle.bench_cmd.proofs.generator.generated.Goals as goal

pub returns : goal.returns
returns c =
    generated-written c.args.number c.args.ticks c.in_ok-scenario.scenario c.in_ok-world.world.setup c.in_ok-world.world.journal c.in_ok-totals.totals.items
    c.forged.result c.in_ok-text.text.items c.write_sums.new.text.items c.in_ok-scenario.ensures c.in_ok-text.ensures c.in_ok-world.ensures.setup
    c.in_ok-world.ensures.run c.in_ok-totals.ensures c.forged.ensures
    (rw (c.deref-2.ensures.value) at c.in_ok-write_sums.ensures)
