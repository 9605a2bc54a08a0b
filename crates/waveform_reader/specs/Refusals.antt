-- Why a text is no scenario.
use Rattle.std.specs.Prelude.{◌≡◌, Result, Err}
use Rattle.row_reader.specs.declared.fault.Fault.{Fault}
use Rattle.setting_rows.specs.declared.refusal.Misread.{Misread}
use Rattle.setting_rows.specs.declared.refusal.Misread.TheVariants as misread
use Rattle.waveform_reader.specs.declared.reading.ReadScenario.{ReadScenario}
use Rattle.waveform_reader.specs.declared.reading.ReadScenario.TheVariants as answer

-- the answer to a text that isn't read
abbrev pub answer_of : Misread → ReadScenario
answer_of misread.NoMemory = answer.NoMemory
answer_of (misread.Bad row reason) = answer.Bad row reason

-- an answer tells why some rows are no scenario; memory may be refused at any time
abbrev pub Refuses : {T : Type 0} → Result T Fault → ReadScenario → Type 0
Refuses said answer.NoMemory = Unit {0}
Refuses said (answer.Bad row reason) = said ≡ Err (record { row = row; reason = reason })
