-- The settings of a generated scenario break no rule.
use Rattle.std.proofs.Common.{◌≡◌, refl, ℕ, zero, suc, ◌+◌, ◌%◌, ◌<◌, ◌≤◌, true, List, None, arith}
use Rattle.std.specs.Prelude.{fold}
use Rattle.std.specs.List.{AllByRecursion}
use Rattle.ld_base.specs.Settings.{key_out_of_range, setting_fault, usual}
use Rattle.ld_base.specs.declared.fields.Fields.{Fields}
use Rattle.row_reader.specs.Faults.{first_fault}
use Rattle.row_reader.specs.PlainRows.{is_plain_row}
use Rattle.setting_rows.specs.Head.{Head, heading_faults, no_settings, whole_fault, with_heading}
use Rattle.setting_rows.specs.Keys.{key_of}
use Rattle.setting_rows.specs.declared.setting.Known.TheVariants as known
use Rattle.scenario_generator.specs.Rows.{set_rows}
use Rattle.scenario_generator.specs.Words.{word}
use Rattle.row_reader.proofs.RowNumberFacts.{between}
use Rattle.row_reader.proofs.NumberTexts.{decimal_plain, number-decimal}
use Rattle.scenario_generator.proofs.Passing.{Keeps}

-- the defaults but for these counts of stations and channels
abbrev fields_of : ℕ → ℕ → Fields
fields_of stations channels = record (usual 0 0) { stations = stations; channels = channels; drift = 50 }

-- what holds of 5 to 12 channels
by_channels : (P : ℕ → Type 0) → P 5 → P 6 → P 7 → P 8 → P 9 → P 10 → P 11 → P 12 → (rest : ℕ) → rest < 8 → P (5 + rest)
by_channels P p5 p6 p7 p8 p9 p10 p11 p12 zero few = p5
by_channels P p5 p6 p7 p8 p9 p10 p11 p12 (suc zero) few = p6
by_channels P p5 p6 p7 p8 p9 p10 p11 p12 (suc (suc zero)) few = p7
by_channels P p5 p6 p7 p8 p9 p10 p11 p12 (suc (suc (suc zero))) few = p8
by_channels P p5 p6 p7 p8 p9 p10 p11 p12 (suc (suc (suc (suc zero)))) few = p9
by_channels P p5 p6 p7 p8 p9 p10 p11 p12 (suc (suc (suc (suc (suc zero))))) few = p10
by_channels P p5 p6 p7 p8 p9 p10 p11 p12 (suc (suc (suc (suc (suc (suc zero)))))) few = p11
by_channels P p5 p6 p7 p8 p9 p10 p11 p12 (suc (suc (suc (suc (suc (suc (suc zero))))))) few = p12
by_channels P p5 p6 p7 p8 p9 p10 p11 p12 (suc (suc (suc (suc (suc (suc (suc (suc rest)))))))) few = absurd (omega arith)

-- they are accepted
accepted : (rest : ℕ) → rest < 8 → (setting_fault (fields_of 2 (5 + rest)) ≡ None) × (setting_fault (fields_of 3 (5 + rest)) ≡ None)
unfolding setting_fault key_out_of_range
accepted = by_channels (λ n. (setting_fault (fields_of 2 n) ≡ None) × (setting_fault (fields_of 3 n) ≡ None))
    (refl, refl) (refl, refl) (refl, refl) (refl, refl) (refl, refl) (refl, refl) (refl, refl) (refl, refl)

-- the same of so many stations
accepted_of : (stations rest : ℕ) → 2 ≤ stations → stations ≤ 3 → rest < 8 → setting_fault (fields_of stations (5 + rest)) ≡ None
accepted_of zero rest low high few = absurd (omega arith)
accepted_of (suc zero) rest low high few = absurd (omega arith)
accepted_of (suc (suc zero)) rest low high few = (accepted rest few).0
accepted_of (suc (suc (suc zero))) rest low high few = (accepted rest few).1
accepted_of (suc (suc (suc (suc more)))) rest low high few = absurd (omega arith)

-- the settings of these rows
abbrev pub set_head : List ℕ → ℕ → ℕ → Head
set_head words stations ticks = fold (with_heading known.Scenario) no_settings (set_rows words stations ticks)

module _ (words : List ℕ) (stations ticks : ℕ) (low : 2 ≤ stations) (high : stations ≤ 3) (some : 1000 ≤ ticks) (limit : ticks ≤ 20000000) where
  pub settings_good : first_fault 1 (heading_faults known.Scenario no_settings (set_rows words stations ticks)) ≡ None
  unfolding key_of
  settings_good =
      let channels : 5 + word words 1 % 8 ≤ 12 = omega arith in
      rw (
        number-decimal stations (omega arith),
        number-decimal (5 + word words 1 % 8) (omega arith),
        number-decimal 50 (omega arith),
        number-decimal ticks (omega arith),
        between 2 3 stations low high,
        between 1 12 (5 + word words 1 % 8) (omega arith) channels,
        between 1 20000000 ticks (omega arith) limit,
      ) refl

  pub settings_keep : Keeps (set_head words stations ticks) stations
  unfolding key_of
  settings_keep = record {
    count = rw (number-decimal stations (omega arith), number-decimal (5 + word words 1 % 8) (omega arith), number-decimal 50 (omega arith), number-decimal ticks (omega arith)) refl;
    drift = rw (number-decimal stations (omega arith), number-decimal (5 + word words 1 % 8) (omega arith), number-decimal 50 (omega arith), number-decimal ticks (omega arith)) refl;
  }

  pub settings_whole : whole_fault known.Scenario (set_head words stations ticks) ≡ None
  unfolding key_of
  settings_whole =
      rw (
        number-decimal stations (omega arith),
        number-decimal (5 + word words 1 % 8) (omega arith),
        number-decimal 50 (omega arith),
        number-decimal ticks (omega arith),
        accepted_of stations (word words 1 % 8) low high (omega arith),
      ) refl

  pub settings_plain : AllByRecursion (λ r. is_plain_row r ≡ true) (set_rows words stations ticks)
  settings_plain = (
    rw (decimal_plain stations (omega arith)) refl,
    (
      rw (decimal_plain (5 + word words 1 % 8) (omega arith)) refl,
      (rw (decimal_plain 50 (omega arith)) refl, (rw (decimal_plain ticks (omega arith)) refl, tt)),
    ),
  )
