-- What a command hands on to be written.
use Rattle.std.specs.Prelude.{◌≡◌, ℕ, List, Result, Ok, Err}
use Rattle.row_reader.specs.declared.fault.Fault.{Fault}
use Rattle.bench_cmd.specs.declared.output.Outcome.{Outcome}
use Rattle.bench_cmd.specs.declared.output.Outcome.TheVariants.{Text, Bad}

-- a text or a fault, as it is kept, is that one
abbrev pub IsOutcome : Outcome → Result (List ℕ) Fault → Type 0
IsOutcome (Text text) made = made ≡ Ok text.items
IsOutcome (Bad fault) made = made ≡ Err fault
