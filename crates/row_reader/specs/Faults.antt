-- What is wrong with an input.
use Rattle.std.specs.Prelude.{ℕ, ◌+◌, List, [], ◌∷◌, Option, Some, None, Result, Ok, Err}
use Rattle.ld_base.specs.declared.reason.Reason.{Reason}
use Rattle.row_reader.specs.declared.fault.Fault.{Fault}

-- the first row with a fault, where `row` is the number of the first of these
abbrev pub first_fault : ℕ → List (Option Reason) → Option Fault
first_fault row [] = None
first_fault row (None ∷ rest) = first_fault (row + 1) rest
first_fault row (Some reason ∷ rest) = Some (record { row = row; reason = reason })

-- what an input gives, unless there is a fault
abbrev pub unless : {T : Type 0} → Option Fault → T → Result T Fault
unless None made = Ok made
unless (Some fault) made = Err fault
