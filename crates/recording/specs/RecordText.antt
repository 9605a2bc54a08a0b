-- RecordText: the text of a recording, which has settings, a station and the calls of that station's log. (This project's own; the
-- format is in `FORMATS.md`.)
use Rattle.std.specs.Prelude.{ℕ, ◌+◌, ◌/◌, List, [], ◌∷◌, ◌++◌, map, length, codes, decimal}
use Rattle.hex.specs.Hex.{encode_lower}
use Rattle.ld_base.specs.Bits.{line_bytes}
use Rattle.ld_base.specs.declared.fields.Fields.{Fields}
use Rattle.ld_base.specs.declared.fields.Key.{Key}
use Rattle.pingpong.specs.declared.journal.Entry.{Entry}
use Rattle.relay_core.specs.StationLog.{StationLog, calls_by}
use Rattle.relay_core.specs.declared.call.Call.{Call}
use Rattle.relay_core.specs.declared.call.Call.TheVariants as made
use Rattle.row_reader.specs.PlainRows.{line_of, text_of}
use Rattle.row_reader.specs.Rows.{Row}
use Rattle.setting_rows.specs.Written.{rows_of_settings, set_row}
use Rattle.text_lines.specs.Words.{phases_fields}

-- the bytes of some bits, eight a byte, with zeros past the last bit
abbrev pub bytes_of_bits : List ℕ → List ℕ
bytes_of_bits bits = line_bytes ((length bits + 7) / 8) bits

-- the row of a call: its kind, its stamp, and what was handed in with it
abbrev pub call_row : Call → Row
call_row (made.Sample at values) = codes "sample" ∷ decimal at ∷ phases_fields values
call_row (made.Slot at) = codes "slot" ∷ decimal at ∷ []
call_row (made.Bits at peer bits) = codes "bits" ∷ decimal at ∷ decimal peer ∷ decimal (length bits) ∷ encode_lower (bytes_of_bits bits) ∷ []
call_row (made.Fault at peer) = codes "fault" ∷ decimal at ∷ decimal peer ∷ []

-- the row that says whose log it is
abbrev pub me_row : ℕ → Row
me_row me = codes "me" ∷ decimal me ∷ []

-- the rows of a recording: a `set` for each key in order, the station, and a row for each call
abbrev pub record_rows : Fields → ℕ → List Call → List Row
record_rows f me log = rows_of_settings f ++ me_row me ∷ map call_row log

-- the text of a recording of a station's log in a journal
unfoldable pub RecordText : Fields → ℕ → List Entry → List ℕ
RecordText f me journal = text_of (record_rows f me (StationLog me journal))

-- the text of the settings, and the line of each key
unfoldable pub settings_text : Fields → List ℕ
settings_text f = text_of (rows_of_settings f)

abbrev pub set_line : Fields → Key → List ℕ
set_line f key = line_of (set_row f key)

-- the text of some calls, and of those of an entry
unfoldable pub log_text : List Call → List ℕ
log_text log = text_of (map call_row log)

abbrev pub entry_text : ℕ → Entry → List ℕ
entry_text me entry = log_text (calls_by me entry)
