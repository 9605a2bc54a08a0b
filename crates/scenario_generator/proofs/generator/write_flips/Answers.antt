use Rattle.std.proofs.Common.{◌≡◌, ◌++◌, ℕ, arith, map, subst}
use Rattle.std.specs.List.{range_with_len}
use Rattle.row_reader.specs.PlainRows.{text_of}
use Rattle.scenario_generator.specs.Rows.{flip_row}
use Rattle.scenario_generator.proofs.Texts.{row_more}
use Rattle.scenario_generator.proofs.generator.write_flips.Goals as goal

pub loop-number-preserved : goal.loop-number-preserved
loop-number-preserved c = row_more (flip_row c.args.words.now c.args.stations c.args.ticks) _ _ _ _ c.loop-number.invariant c.in_ok-write_flip.ensures

pub returns : goal.returns
returns c =
    let ended : c.loop-number.number ≡ 10 = omega arith in
    subst (λ (n : ℕ). c.loop-number.text.items ≡ c.args.text.now.items ++ text_of (map (flip_row c.args.words.now c.args.stations c.args.ticks) (range_with_len 0 n))) ended
    c.loop-number.invariant
