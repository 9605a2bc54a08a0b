use Rattle.std.proofs.Common.{◌≡◌, ◌++◌, map}
use Rattle.std.specs.List.{range_with_len}
use Rattle.row_reader.specs.PlainRows.{text_of}
use Rattle.scenario_generator.specs.Rows.{delay_row}
use Rattle.scenario_generator.proofs.generator.write_delays.Given as goal

-- the delays so far are written
abbrev pub invariant-loop-number : goal.invariant-loop-number
invariant-loop-number l = l.text.items ≡ l.fn.text.items ++ text_of (map (delay_row l.words l.stations) (range_with_len 0 l.number))
