-- The rows that write settings, and what is read from them. (This project's own.)
use Rattle.std.specs.Prelude.{◌≡◌, true, ℕ, List, [], ◌∷◌, ◌++◌, map, fold, All, None, codes}
use Rattle.std.specs.Fmt.{signed_decimal}
use Rattle.ld_base.specs.declared.fields.Fields.{Fields}
use Rattle.ld_base.specs.declared.fields.Key.{Key}
use Rattle.row_reader.specs.Faults.{first_fault}
use Rattle.row_reader.specs.PlainRows.{is_plain_row}
use Rattle.row_reader.specs.Rows.{Row}
use Rattle.setting_rows.specs.Head.{Head, head_rows, heading_faults, is_complete, no_settings, with_heading}
use Rattle.setting_rows.specs.Keys.{key_name, keys, value_of}
use Rattle.setting_rows.specs.declared.setting.Known.{Known}
use Rattle.setting_rows.specs.declared.setting.Known.TheVariants as known
use Rattle.setting_rows.specs.declared.setting.Setting.TheVariants as setting

-- the row that sets a key as these settings have it
abbrev pub set_row : Fields → Key → Row
set_row f k = codes "set" ∷ key_name k ∷ signed_decimal (value_of f k) ∷ []

-- the rows that write settings: one for each key, in the order of the keys
abbrev pub rows_of_settings : Fields → List Row
rows_of_settings f = map (set_row f) keys

-- each key is set, and nothing else
abbrev pub all_set : Fields → Head
all_set f = record { given = map (λ k. setting.Line k) keys; fields = f; end = 0 }

-- settings are read back from the rows that write them: these are plain, stand among the settings, whatever stands behind them, and
-- break no rule; what they say is the settings, which are whole where nothing else has to be set
pub record AreReadBack (f : Fields) : Type 0 where
  pub plain : All (λ row. is_plain_row row ≡ true) (rows_of_settings f)
  pub in_front : (rows : List Row) → head_rows (rows_of_settings f ++ rows) ≡ rows_of_settings f ++ head_rows rows
  pub good : (known : Known) (row : ℕ) → first_fault row (heading_faults known no_settings (rows_of_settings f)) ≡ None
  pub same : (known : Known) → fold (with_heading known) no_settings (rows_of_settings f) ≡ all_set f
  pub whole : is_complete known.Recording (all_set f) ≡ true
