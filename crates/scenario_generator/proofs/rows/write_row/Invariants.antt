use Rattle.std.proofs.Common.{◌≡◌, ◌++◌, map, take}
use Rattle.std.specs.Fmt.{signed_decimal}
use Rattle.row_reader.specs.PlainRows.{behind_commas}
use Rattle.scenario_generator.proofs.rows.write_row.Given as goal

-- the name and the numbers so far are written
abbrev pub invariant-loop-number : goal.invariant-loop-number
invariant-loop-number l = l.text.items ≡ l.fn.text.items ++ l.fn.name ++ behind_commas (map signed_decimal (take l.number-index l.numbers))
