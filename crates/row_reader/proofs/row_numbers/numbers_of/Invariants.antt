use Rattle.std.proofs.Common.{◌≡◌, ◌+◌, drop, length}
use Rattle.csv.specs.Records.{fields_of}
use Rattle.row_reader.specs.RowNumbers.{numbers_of}
use Rattle.row_reader.proofs.RowNumberFacts.{joined}
use Rattle.row_reader.proofs.row_numbers.numbers_of.Given as goal

-- the numbers so far and those that are left are all
abbrev pub invariant-loop-place : goal.invariant-loop-place
invariant-loop-place g l = record {
  all : numbers_of (drop l.from (fields_of l.row)) ≡ joined l.numbers.items (numbers_of (drop l.place (fields_of l.row)));
  count : l.from + length l.numbers.items ≡ l.place;
}
