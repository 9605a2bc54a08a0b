-- Why a row isn't taken in, and why a text isn't read.
use Rattle.std.specs.Prelude.{◌≡◌, ℕ, Option, Some}
use Rattle.ld_base.specs.declared.reason.Reason.{Reason}
use Rattle.row_reader.specs.declared.fault.Fault.{Fault}
use Rattle.setting_rows.specs.declared.refusal.Misread.{Misread}
use Rattle.setting_rows.specs.declared.refusal.Misread.TheVariants as misread
use Rattle.setting_rows.specs.declared.refusal.Refusal.{Refusal}
use Rattle.setting_rows.specs.declared.refusal.Refusal.TheVariants.{NoMemory, Breaks}

-- a row that breaks a rule is refused by it; memory may be refused at any time
abbrev pub RefusedBy : Option Reason → Refusal → Type 0
RefusedBy fault NoMemory = Unit {0}
RefusedBy fault (Breaks reason) = fault ≡ Some reason

-- why a text isn't read whose row of that number is refused
abbrev pub misread_at : ℕ → Refusal → Misread
misread_at row NoMemory = misread.NoMemory
misread_at row (Breaks reason) = misread.Bad row reason

-- an answer tells a fault; memory may be refused at any time
abbrev pub Tells : Option Fault → Misread → Type 0
Tells fault misread.NoMemory = Unit {0}
Tells fault (misread.Bad row reason) = fault ≡ Some (record { row = row; reason = reason })
