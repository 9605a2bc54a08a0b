use Rattle.std.proofs.Common.{◌≡◌, ◌++◌, ◌+◌, ℕ}
use Rattle.std.specs.List.{flat_map, range_with_len}
use Rattle.row_reader.specs.PlainRows.{text_of}
use Rattle.scenario_generator.specs.Rows.{clock_rows}
use Rattle.scenario_generator.proofs.generator.write_clocks.Given as goal

-- the clocks so far are written
abbrev pub invariant-loop-station : goal.invariant-loop-station
invariant-loop-station l =
    (done : ℕ) → l.station ≡ done + 1 → l.text.items ≡ l.fn.text.items ++ text_of (flat_map (clock_rows l.words) (range_with_len 1 done))
