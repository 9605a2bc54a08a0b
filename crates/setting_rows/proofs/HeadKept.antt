-- What settings keep that are read without a fault: an end in its range.
use Rattle.std.specs.Prelude.{ℤ, not, unsigned_abs, is_none, fold}
use Rattle.std.proofs.Common.{◌≡◌, ℕ, ◌+◌, Bool, true, false, cond, ◌||◌, ◌==◌, List, [], ◌∷◌, ◌++◌, length, Option, None, Some, refl, sym, ◌∙◌, arith}
use Rattle.std.proofs.lemmas.Bool.{and_parts}
use Rattle.std.proofs.lemmas.Int.{ints}
use Rattle.std.proofs.lemmas.List.Folds.{list_any-append}
use Rattle.ld_base.specs.Settings.{IsWithin, setting_fault}
use Rattle.ld_base.specs.declared.fields.Key.{Key}
use Rattle.ld_base.specs.declared.fields.Key.TheVariants as key
use Rattle.ld_base.specs.declared.settings.BadSetting.{BadSetting}
use Rattle.ld_base.specs.declared.reason.Reason.{Reason}
use Rattle.ld_base.specs.declared.reason.Reason.TheVariants as reason
use Rattle.row_reader.specs.Faults.{first_fault}
use Rattle.row_reader.specs.Numbers.{number}
use Rattle.row_reader.specs.RowFields.{field_of, name_of}
use Rattle.row_reader.specs.Rows.{Row}
use Rattle.row_reader.specs.declared.fault.Fault.{Fault}
use Rattle.setting_rows.specs.Head.{HasEnd, Head, accepts, has_required, heading_fault, heading_faults, is_complete, is_given, key_fault, known_fault, no_settings, place_of, whole_fault, with_heading, with_value}
use Rattle.setting_rows.specs.Keys.{is_set, key_place, setting_of}
use Rattle.setting_rows.specs.declared.setting.Known.{Known}
use Rattle.setting_rows.specs.declared.setting.Setting.{Setting}
use Rattle.setting_rows.specs.declared.setting.Setting.TheVariants as setting

-- where the end is set, it lies in its range
end-within : (value : ℤ) → accepts setting.End value ≡ true → IsWithin (1, 20000000) (unsigned_abs value)
end-within value fits = (grind (arith, ints), grind (arith, ints))

known-good : (given : List Setting) (s : Setting) (value : ℤ) → known_fault given s value ≡ None → accepts s value ≡ true
known-good given s value good = go (accepts s value) good
  where
    go : (b : Bool) → cond (not b) (Some reason.Range) (cond (is_given given s) (Some reason.Key) None) ≡ None → b ≡ true
    go true is = refl
    go false is = absurd (cc)

no-end : (k : Key) → (key_place k == 18) ≡ false
no-end key.Stations = refl
no-end key.Channels = refl
no-end key.Spacing = refl
no-end key.Cycle = refl
no-end key.Drift = refl
no-end key.Slow = refl
no-end key.Age = refl
no-end key.Limit = refl
no-end key.Silent = refl
no-end key.Count = refl
no-end key.Pickup = refl
no-end key.Rn = refl
no-end key.Rd = refl
no-end key.P = refl
no-end key.Q = refl
no-end key.WordA = refl
no-end key.WordB = refl
no-end key.Misses = refl

other-given : (before : List Setting) (k : Key) → is_given (before ++ setting.Line k ∷ []) setting.End ≡ true → is_given before setting.End ≡ true
other-given before k given = go (is_given before setting.End) (key_place k == 18) (no-end k) (sym (list_any-append (λ s. place_of s == 18) before (setting.Line k ∷ [])) ∙ given)
  where
    go : (b c : Bool) → c ≡ false → (b || (c || false)) ≡ true → b ≡ true
    go true c not_end is = refl
    go false c not_end is = absurd (let same = rw not_end at is in cc)

value-kept : (head : Head) (s : Option Setting) (value : Option ℤ) → HasEnd head → key_fault head.given s value ≡ None → HasEnd (with_value head s value)
value-kept head None None kept good = kept
value-kept head (Some s) None kept good = kept
value-kept head None (Some value) kept good = kept
value-kept head (Some setting.End) (Some value) kept good = λ given. end-within value (known-good head.given setting.End value good)
value-kept head (Some (setting.Line k)) (Some value) kept good = λ given. kept (other-given head.given k given)

heading-kept : (known : Known) (head : Head) (row : Row) → HasEnd head → heading_fault known head row ≡ None → HasEnd (with_heading known head row)
heading-kept known head row kept good = go (is_set (name_of row)) (length row == 3) good
  where
    go : (is_setting is_three : Bool)
        → cond is_setting (cond (not is_three) (Some reason.Fields) (key_fault head.given (setting_of known (field_of row 1)) (number (field_of row 2)))) None ≡ None
        → HasEnd (cond is_setting (with_value head (setting_of known (field_of row 1)) (number (field_of row 2))) head)
    go true true good = value-kept head (setting_of known (field_of row 1)) (number (field_of row 2)) kept good
    go true false good = absurd (cc)
    go false is_three good = kept

-- settings that break no rule
pub settings-kept : (known : Known) (row : ℕ) (head : Head) (rows : List Row) → HasEnd head → first_fault row (heading_faults known head rows) ≡ None
    → HasEnd (fold (with_heading known) head rows)
settings-kept known row head [] kept good = kept
settings-kept known row head (first ∷ rows) kept good = go (heading_fault known head first) refl (settings-kept known (row + 1) (with_heading known head first) rows)
  where
    go : (fault : Option Reason) → heading_fault known head first ≡ fault
        → (HasEnd (with_heading known head first) → first_fault (row + 1) (heading_faults known (with_heading known head first) rows) ≡ None
        → HasEnd (fold (with_heading known) (with_heading known head first) rows))
        → HasEnd (fold (with_heading known) (with_heading known head first) rows)
    go None none rest = rest (heading-kept known head first kept none) (rw none at good)
    go (Some reason) some rest = absurd (let bad = rw some at good in cc)

-- no end is set at first
pub none-set : HasEnd no_settings
none-set = λ given. absurd (cc)

complete-of : (known : Known) (head : Head) → whole_fault known head ≡ None → is_complete known head ≡ true
complete-of known head none = go (is_complete known head) none
  where
    go : (b : Bool) → cond {A = Option Fault} b None (Some (record { row = 0; reason = reason.Settings })) ≡ None → b ≡ true
    go true is = refl
    go false is = absurd (cc)

no-fault : (fault : Option BadSetting) → is_none fault ≡ true → fault ≡ None
no-fault None none = refl
no-fault (Some bad) none = absurd (cc)

-- settings that are whole have what is required, and are accepted
pub whole-parts : (known : Known) (head : Head) → whole_fault known head ≡ None → (has_required known head.given ≡ true) × (setting_fault head.fields ≡ None)
whole-parts known head whole =
    let (given, fields) = and_parts (has_required known head.given) (is_none (setting_fault head.fields)) (complete-of known head whole) in (given, no-fault (setting_fault head.fields) fields)
