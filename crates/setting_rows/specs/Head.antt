-- The settings in front of a text's records: what the rows say there, and what is wrong with them. (This project's own.)
use Rattle.std.specs.Prelude.{◌≡◌, ◌==◌, true, ℕ, Bool, ◌&&◌, ◌||◌, not, int_le, if◌then◌else◌, ℤ, pos, unsigned_abs, List, [], ◌∷◌, ◌++◌, length, drop, fold, Option, Some, None, is_none}
use Rattle.std.specs.List.{before_first, list_any}
use Rattle.ld_base.specs.Settings.{IsWithin, is_cycle, is_within, range_of, setting_fault, usual}
use Rattle.ld_base.specs.declared.fields.Fields.{Fields}
use Rattle.ld_base.specs.declared.fields.Key.{Key}
use Rattle.ld_base.specs.declared.fields.Key.TheVariants as key
use Rattle.ld_base.specs.declared.reason.Reason.{Reason}
use Rattle.ld_base.specs.declared.reason.Reason.TheVariants as reason
use Rattle.row_reader.specs.Numbers.{number}
use Rattle.row_reader.specs.RowNumbers.{is_between}
use Rattle.row_reader.specs.Rows.{Row}
use Rattle.row_reader.specs.RowFields.{field_of, name_of}
use Rattle.row_reader.specs.declared.fault.Fault.{Fault}
use Rattle.setting_rows.specs.Keys.{is_remark, is_set, key_place, setting_of}
use Rattle.setting_rows.specs.declared.setting.Known.{Known}
use Rattle.setting_rows.specs.declared.setting.Known.TheVariants as known
use Rattle.setting_rows.specs.declared.setting.Setting.{Setting}
use Rattle.setting_rows.specs.declared.setting.Setting.TheVariants as setting

-- the settings that are set so far, and their values beside the defaults
pub record Head : Type 0 where
  pub given : List Setting
  pub fields : Fields
  pub end : ℕ

-- no setting is set
abbrev pub no_settings : Head
no_settings = record { given = []; fields = usual 0 0; end = 0 }

-- the place of a setting, the end behind all keys
abbrev pub place_of : Setting → ℕ
place_of (setting.Line k) = key_place k
place_of setting.End = 18

-- whether a setting is among those that are set
abbrev pub is_given : List Setting → Setting → Bool
is_given given s = list_any (λ before. place_of before == place_of s) given

-- whether a key may have that value
abbrev pub key_accepts : Key → ℤ → Bool
key_accepts key.Cycle value = int_le (pos 0) value && is_cycle (unsigned_abs value)
key_accepts key.P value = is_within (range_of key.P) (unsigned_abs value)
key_accepts k value = is_between (pos (range_of k).0, pos (range_of k).1) value

-- whether a setting may have that value
abbrev pub accepts : Setting → ℤ → Bool
accepts (setting.Line k) value = key_accepts k value
accepts setting.End value = is_between (pos 1, pos 20000000) value

-- the fields with one key set
abbrev pub with_key : Fields → Key → ℤ → Fields
with_key f key.Stations v = record f { stations = unsigned_abs v }
with_key f key.Channels v = record f { channels = unsigned_abs v }
with_key f key.Spacing v = record f { spacing = unsigned_abs v }
with_key f key.Cycle v = record f { cycle = unsigned_abs v }
with_key f key.Drift v = record f { drift = unsigned_abs v }
with_key f key.Slow v = record f { slow = unsigned_abs v }
with_key f key.Age v = record f { age = unsigned_abs v }
with_key f key.Limit v = record f { limit = unsigned_abs v }
with_key f key.Silent v = record f { silent = unsigned_abs v }
with_key f key.Count v = record f { count = unsigned_abs v }
with_key f key.Pickup v = record f { pickup = unsigned_abs v }
with_key f key.Rn v = record f { rn = unsigned_abs v }
with_key f key.Rd v = record f { rd = unsigned_abs v }
with_key f key.P v = record f { p = v }
with_key f key.Q v = record f { q = v }
with_key f key.WordA v = record f { worda = unsigned_abs v }
with_key f key.WordB v = record f { wordb = unsigned_abs v }
with_key f key.Misses v = record f { misses = unsigned_abs v }

-- the settings with one more
abbrev pub with_setting : Head → Setting → ℤ → Head
with_setting head (setting.Line k) v = record { given = head.given ++ setting.Line k ∷ []; fields = with_key head.fields k v; end = head.end }
with_setting head setting.End v = record { given = head.given ++ setting.End ∷ []; fields = head.fields; end = unsigned_abs v }

-- the least rule that a known setting breaks with its value
abbrev pub known_fault : List Setting → Setting → ℤ → Option Reason
known_fault given s value =
    if not (accepts s value) then Some reason.Range
    else if is_given given s then Some reason.Key
    else None

-- the least rule that a key breaks with its value
abbrev pub value_fault : List Setting → Option Setting → ℤ → Option Reason
value_fault given None value = Some reason.Key
value_fault given (Some s) value = known_fault given s value

-- the least rule that a key breaks, where its value is a number or none
abbrev pub key_fault : List Setting → Option Setting → Option ℤ → Option Reason
key_fault given s None = Some reason.Number
key_fault given s (Some value) = value_fault given s value

-- the least rule that a `set` breaks
abbrev pub set_fault : Known → List Setting → Row → Option Reason
set_fault known given row = if not (length row == 3) then Some reason.Fields else key_fault given (setting_of known (field_of row 1)) (number (field_of row 2))

-- whether a row stands among the settings: a `set` or a remark
abbrev pub is_heading : Row → Bool
is_heading row = is_set (name_of row) || is_remark (name_of row)

-- the least rule that a row among the settings breaks
abbrev pub heading_fault : Known → Head → Row → Option Reason
heading_fault known head row = if is_set (name_of row) then set_fault known head.given row else None

-- the settings with what a key and its value add
abbrev pub with_value : Head → Option Setting → Option ℤ → Head
with_value head (Some s) (Some value) = with_setting head s value
with_value head s value = head

-- the settings with what a row adds
abbrev pub with_heading : Known → Head → Row → Head
with_heading known head row = if is_set (name_of row) then with_value head (setting_of known (field_of row 1)) (number (field_of row 2)) else head

-- what each row among the settings breaks
abbrev pub heading_faults : Known → Head → List Row → List (Option Reason)
heading_faults known head [] = []
heading_faults known head (row ∷ rows) = heading_fault known head row ∷ heading_faults known (with_heading known head row) rows

-- the rows of the settings: those in front of the first that is neither a `set` nor a remark
abbrev pub head_rows : List Row → List Row
head_rows rows = before_first (λ row. not (is_heading row)) rows

-- the rows behind the settings
abbrev pub body_rows : List Row → List Row
body_rows rows = drop (length (head_rows rows)) rows

-- the settings of a text's rows
abbrev pub head_of : Known → List Row → Head
head_of known rows = fold (with_heading known) no_settings (head_rows rows)

-- whether the end is set, where a text needs one
abbrev pub has_end : Known → List Setting → Bool
has_end known.Scenario given = is_given given setting.End
has_end known.Recording given = true

-- whether the settings that have no default are set
abbrev pub has_required : Known → List Setting → Bool
has_required known given = is_given given (setting.Line key.Stations) && is_given given (setting.Line key.Channels) && has_end known given

-- whether the settings that must be set are set, and all are accepted
abbrev pub is_complete : Known → Head → Bool
is_complete known head = has_required known head.given && is_none (setting_fault head.fields)

-- what is wrong with the settings as a whole, which row 0 stands for
abbrev pub whole_fault : Known → Head → Option Fault
whole_fault known head = if is_complete known head then None else Some (record { row = 0; reason = reason.Settings })

-- where the end is set, it lies in its range
abbrev pub HasEnd : Head → Type 0
HasEnd head = is_given head.given setting.End ≡ true → IsWithin (1, 20000000) head.end

-- a `set` that breaks no rule, and what it sets
pub record Takes (known : Known) (given : List Setting) (row : Row) (s : Setting) (value : ℤ) : Type 0 where
  pub good : set_fault known given row ≡ None
  pub setting : setting_of known (field_of row 1) ≡ Some s
  pub number : number (field_of row 2) ≡ Some value
  pub accepted : accepts s value ≡ true
