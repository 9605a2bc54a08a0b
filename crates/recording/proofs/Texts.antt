-- The text of a recording, part by part.
use Rattle.std.proofs.Common.{◌≡◌, ◌∙◌, sym, refl, ap, ℕ, List, [], ◌∷◌, ◌++◌, map, append_assoc}
use Rattle.std.specs.List.{flat_map}
use Rattle.std.proofs.lemmas.Grind.{flat_map-append}
use Rattle.std.proofs.lemmas.List.{append-nil, map-append}
use Rattle.ld_base.specs.declared.fields.Fields.{Fields}
use Rattle.ld_base.specs.declared.fields.Key.{Key}
use Rattle.pingpong.specs.declared.journal.Entry.{Entry}
use Rattle.relay_core.specs.StationLog.{StationLog, calls_by}
use Rattle.relay_core.specs.declared.call.Call.{Call}
use Rattle.row_reader.specs.PlainRows.{line_of, text_of}
use Rattle.row_reader.specs.Rows.{Row}
use Rattle.setting_rows.specs.Keys.{keys}
use Rattle.setting_rows.specs.Written.{rows_of_settings, set_row}
use Rattle.recording.specs.RecordText.{RecordText, call_row, entry_text, log_text, me_row, set_line, settings_text}

-- the text of some rows, one, and some more
text_of-around : (xs : List Row) (y : Row) (ys : List Row) → text_of (xs ++ y ∷ ys) ≡ text_of xs ++ line_of y ++ text_of ys
text_of-around xs y ys = flat_map-append line_of xs (y ∷ ys) ∙ sym (append_assoc (text_of xs) (line_of y) (text_of ys))

-- settings, station and log
pub record_text : (f : Fields) (me : ℕ) (journal : List Entry)
    → settings_text f ++ line_of (me_row me) ++ log_text (StationLog me journal) ≡ RecordText f me journal
unfolding RecordText settings_text log_text
record_text f me journal = sym (text_of-around (rows_of_settings f) (me_row me) (map call_row (StationLog me journal)))

-- the rows of some keys are their lines
lines_of_keys : (f : Fields) (some : List Key) → flat_map (set_line f) some ≡ text_of (map (set_row f) some)
lines_of_keys f [] = refl
lines_of_keys f (k ∷ some) = ap (λ (t : List ℕ). line_of (set_row f k) ++ t) (lines_of_keys f some)

-- the lines of all keys
pub settings_lines : (f : Fields) (all : List Key) → all ≡ keys → flat_map (set_line f) all ≡ settings_text f
unfolding settings_text
settings_lines f all are = lines_of_keys f all ∙ ap (λ (these : List Key). text_of (map (set_row f) these)) are

-- the text of no calls, of one, and of joined calls
pub log_text-none : log_text [] ≡ []
unfolding log_text
log_text-none = refl

pub log_text-one : (call : Call) → log_text (call ∷ []) ≡ line_of (call_row call)
unfolding log_text
log_text-one call = append-nil (line_of (call_row call))

pub log_text-append : (xs ys : List Call) → log_text (xs ++ ys) ≡ log_text xs ++ log_text ys
unfolding log_text
log_text-append xs ys = ap text_of (map-append call_row xs ys) ∙ flat_map-append line_of (map call_row xs) (map call_row ys)

-- the text of what each entry hands to a station
pub log_lines : (me : ℕ) (journal : List Entry) → flat_map (entry_text me) journal ≡ log_text (StationLog me journal)
log_lines me [] = sym log_text-none
log_lines me (entry ∷ journal) =
    ap (λ (t : List ℕ). entry_text me entry ++ t) (log_lines me journal) ∙ sym (log_text-append (calls_by me entry) (StationLog me journal))
