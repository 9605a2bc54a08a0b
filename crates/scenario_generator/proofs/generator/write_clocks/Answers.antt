use Rattle.std.proofs.Common.{arith}
use Rattle.scenario_generator.specs.Rows.{clock_rows}
use Rattle.scenario_generator.proofs.Texts.{rows_more}
use Rattle.scenario_generator.proofs.generator.write_clocks.Goals as goal

pub loop-station-preserved : goal.loop-station-preserved
loop-station-preserved c =
    λ done count. rows_more (clock_rows c.args.words.now) _ done _ _ _ c.loop-station.invariant (omega arith) c.in_ok-write_clock.ensures count
