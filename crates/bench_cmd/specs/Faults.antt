-- The line that tells of what is wrong with an input.
use Rattle.std.specs.Prelude.{ℕ, ◌++◌, List, codes, decimal}
use Rattle.ld_base.specs.declared.reason.Reason.{Reason}
use Rattle.ld_base.specs.declared.reason.Reason.TheVariants as reason
use Rattle.row_reader.specs.declared.fault.Fault.{Fault}

-- the number of a rule
abbrev pub reason_number : Reason → ℕ
reason_number reason.Kind = 1
reason_number reason.Fields = 2
reason_number reason.Number = 3
reason_number reason.Range = 4
reason_number reason.Key = 5
reason_number reason.Late = 6
reason_number reason.Station = 7
reason_number reason.Order = 8
reason_number reason.Settings = 9

-- the line that is written of an input with a fault
abbrev pub bad_line : Fault → List ℕ
bad_line fault = codes "bad," ++ decimal fault.row ++ codes "," ++ decimal (reason_number fault.reason) ++ codes "\n"
