use Rattle.std.proofs.Common.{◌≡◌, ◌∙◌, sym, ap, ℕ, List, Ok}
use Rattle.row_reader.specs.Rows.{rows_of}
use Rattle.waveform_reader.specs.Scenario.{scenario_of}
use Rattle.bench_cmd.proofs.generator.read_generated.Goals as goal

pub unreachable-requires : goal.unreachable-requires
unreachable-requires c =
    let is = c.every_number_gives_a_scenario.ensures c.args.number c.args.ticks c.requires.ticks.0 c.requires.ticks.1 in
    let refused = rw c.in-Err-Bad.field-0-is at c.in-Err-Bad.ensures.refused in
    let read : scenario_of (rows_of c.args.text.now) ≡ Ok is.0 = ap (λ (t : List ℕ). scenario_of (rows_of t)) c.requires.text ∙ is.1 in
    cc (refused, read)
