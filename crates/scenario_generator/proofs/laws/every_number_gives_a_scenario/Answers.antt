use Rattle.std.proofs.Common.{◌∙◌, ◌++◌, ap, sym, ℕ, List, [], ◌∷◌, arith}
use Rattle.std.proofs.lemmas.List.Elements.{recursion_from_All}
use Rattle.row_reader.specs.Rows.{Row, rows_of}
use Rattle.waveform_reader.specs.Scenario.{scenario_of}
use Rattle.scenario_generator.specs.Rows.{remark_row, scenario_rows, scenario_text, stations_of}
use Rattle.scenario_generator.specs.Words.{words_of}
use Rattle.row_reader.proofs.NumberTexts.{IsLong}
use Rattle.scenario_generator.proofs.Scenarios.{scenario, setup_by, text_of-remark}
use Rattle.scenario_generator.proofs.laws.every_number_gives_a_scenario.Goals as goal

pub returns : goal.returns
unfolding scenario_text
returns c = λ number ticks some limit.
    let words = words_of number in
    let rows = scenario_rows words ticks in
    let s = setup_by words (stations_of words) ticks in
    let is = scenario words ticks some limit (stations_of words) (omega arith) (omega arith) in (
      s,
      ap (λ (r : List Row). scenario_of r) (c.plain_rows_are_read.ensures rows is.plain) ∙ is.says,
      λ numbers long.
          let behind = is.remark numbers (recursion_from_All IsLong numbers long) in
          ap (λ (t : List ℕ). scenario_of (rows_of t)) (sym (text_of-remark rows numbers))
          ∙ ap (λ (r : List Row). scenario_of r) (c.plain_rows_are_read.ensures (rows ++ remark_row numbers ∷ []) behind.0) ∙ behind.1,
    )
