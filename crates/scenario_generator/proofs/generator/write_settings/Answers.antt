use Rattle.std.proofs.Common.{◌+◌, ◌%◌}
use Rattle.std.specs.Prelude.{codes}
use Rattle.std.proofs.lemmas.Result.{on_ok_weaker}
use Rattle.scenario_generator.specs.Rows.{set_row}
use Rattle.scenario_generator.specs.Words.{word}
use Rattle.scenario_generator.proofs.Texts.{four_rows}
use Rattle.scenario_generator.proofs.generator.write_settings.Goals as goal

pub returns : goal.returns
returns c =
    on_ok_weaker c.write_set-4.result
    (four_rows (set_row (codes "stations") c.args.stations) (set_row (codes "channels") (5 + word c.args.words.now 1 % 8))
    (set_row (codes "drift") 50) (set_row (codes "end") c.args.ticks)
    c.args.text.now.items c.write_set.new.text.items c.write_set-2.new.text.items c.write_set-3.new.text.items c.write_set-4.new.text.items
    c.in_ok-write_set.ensures (rw (c.from-channels.ensures) at c.in_ok-write_set-2.ensures) c.in_ok-write_set-3.ensures)
    c.write_set-4.ensures
