use Rattle.scenario_generator.specs.Rows.{delay_row}
use Rattle.scenario_generator.proofs.Texts.{row_more}
use Rattle.scenario_generator.proofs.generator.write_delays.Goals as goal

pub loop-number-preserved : goal.loop-number-preserved
loop-number-preserved c = row_more (delay_row c.args.words.now c.args.stations) _ _ _ _ c.loop-number.invariant c.in_ok-write_delay.ensures
