use Rattle.std.proofs.Common.{◌+◌, ◌*◌, ◌/◌, ◌%◌}
use Rattle.std.proofs.lemmas.Result.{on_ok_weaker}
use Rattle.scenario_generator.specs.Rows.{wave_place, wave_row}
use Rattle.scenario_generator.specs.Words.{word}
use Rattle.scenario_generator.proofs.Texts.{four_rows}
use Rattle.scenario_generator.proofs.generator.write_waves.Goals as goal

pub returns : goal.returns
returns c =
    let words = c.args.words.now in
    let place = wave_place c.args.stations in
    let amplitude = 500 + word words place % 4500 in
    let step = word words (place + 1) % 20 in
    let half = c.args.ticks / 2 in
    on_ok_weaker c.write_wave-4.result
    (four_rows (wave_row 0 1 amplitude step) (wave_row 0 2 amplitude (step + 10)) (wave_row half 1 (3 * amplitude) step) (wave_row half 2 (3 * amplitude) step)
    c.args.text.now.items c.write_wave.new.text.items c.write_wave-2.new.text.items c.write_wave-3.new.text.items c.write_wave-4.new.text.items
    (rw (c.wave_place-place.ensures.place) at c.in_ok-write_wave.ensures) (rw (c.wave_place-place.ensures.place) at c.in_ok-write_wave-2.ensures)
    (rw (c.wave_place-place.ensures.place) at c.in_ok-write_wave-3.ensures))
    (rw (c.wave_place-place.ensures.place) at c.write_wave-4.ensures)
