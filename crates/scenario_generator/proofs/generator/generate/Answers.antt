use Rattle.std.proofs.Common.{◌≡◌, List, ℕ, subst}
use Rattle.row_reader.specs.PlainRows.{text_of}
use Rattle.scenario_generator.specs.Rows.{all_clock_rows, delay_rows, flip_rows, rows_by, scenario_rows, scenario_text, set_rows, wave_rows}
use Rattle.scenario_generator.proofs.Texts.{five_parts}
use Rattle.scenario_generator.proofs.generator.generate.Goals as goal

pub returns : goal.returns
unfolding scenario_text
returns c =
    let words = c.words_of-words.result in
    let stations = c.stations_of-stations.result in
    let ticks = c.args.ticks in
    let text = c.write_flips.new.text.items in
    subst (λ (w : List ℕ). text ≡ text_of (scenario_rows w ticks)) c.words_of-words.ensures
    (subst (λ (n : ℕ). text ≡ text_of (rows_by words n ticks)) c.stations_of-stations.ensures.count
    (five_parts (set_rows words stations ticks) (all_clock_rows words stations) (delay_rows words stations) (wave_rows words stations ticks)
    (flip_rows words stations ticks)
    c.new-text.result.items c.write_settings.new.text.items c.write_clocks.new.text.items c.write_delays.new.text.items c.write_waves.new.text.items
    c.write_flips.new.text.items c.new-text.ensures.items c.in_ok-write_settings.ensures c.in_ok-write_clocks.ensures c.in_ok-write_delays.ensures
    c.in_ok-write_waves.ensures c.in_ok-write_flips.ensures))
