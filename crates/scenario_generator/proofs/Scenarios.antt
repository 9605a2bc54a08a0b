-- Generated scenarios break no rule.
use Rattle.std.proofs.Common.{◌≡◌, ◌∙◌, refl, ap, subst, ℕ, zero, suc, ◌+◌, ◌≤◌, true, List, [], ◌∷◌, ◌++◌, length, drop, None, Ok, arith}
use Rattle.std.proofs.lemmas.List.{append-nil}
use Rattle.std.proofs.lemmas.List.Concat.{flat_map-append}
use Rattle.std.proofs.lemmas.List.Elements.{All-append, All-from_recursion}
use Rattle.std.proofs.lemmas.List.Sums.{fold-append}
use Rattle.std.specs.Prelude.{All, fold, ℤ}
use Rattle.std.specs.List.{AllByRecursion}
use Rattle.row_reader.specs.Faults.{first_fault}
use Rattle.row_reader.specs.PlainRows.{is_plain_row, line_of, text_of}
use Rattle.row_reader.specs.Rows.{Row}
use Rattle.waveform_reader.specs.Draft.{Draft, no_records, with_row}
use Rattle.setting_rows.specs.Head.{Head, head_rows, heading_faults, no_settings, whole_fault, with_heading}
use Rattle.waveform_reader.specs.Scenario.{Setup, body_fault, draft_of, scenario_of, setup_of}
use Rattle.setting_rows.specs.declared.setting.Known.TheVariants as known
use Rattle.scenario_generator.specs.Rows.{all_clock_rows, delay_rows, flip_rows, remark_row, rows_by, set_rows, wave_rows}
use Rattle.row_reader.proofs.NumberTexts.{IsLong, numbers_plain}
use Rattle.scenario_generator.proofs.Passing.{Keeps, Passed, Passes, all_plain, joined, no_fault}
use Rattle.scenario_generator.proofs.Sections.{clock_passes, clocked, delays_2, delays_3, delays_pass_2, delays_pass_3, flips_pass, waves_pass, with_rules, with_shapes}
use Rattle.scenario_generator.proofs.Passing.Passes.{none, more}
use Rattle.scenario_generator.proofs.Settings.{set_head, settings_good, settings_keep, settings_plain, settings_whole}

-- rows whose settings are whole, and whose records break no rule, are a scenario
whole_scenario : (rows heads body : List Row) → head_rows rows ≡ heads → drop (length heads) rows ≡ body
    → first_fault 1 (heading_faults known.Scenario no_settings heads) ≡ None → whole_fault known.Scenario (fold (with_heading known.Scenario) no_settings heads) ≡ None
    → body_fault (fold (with_heading known.Scenario) no_settings heads) (length heads + 1) body ≡ None
    → scenario_of rows ≡ Ok (setup_of (fold (with_heading known.Scenario) no_settings heads).fields (fold (with_heading known.Scenario) no_settings heads).end (draft_of (fold (with_heading known.Scenario) no_settings heads) body))
whole_scenario rows heads body front rest good whole fine = rw (front, rest, good, whole, fine) refl

-- a remark breaks no rule and adds nothing
remark_passed : (head : Head) (draft : Draft) (numbers : List ℤ) → AllByRecursion IsLong numbers → Passed head draft (remark_row numbers) draft
remark_passed head draft numbers long = record { plain = rw (numbers_plain numbers long) refl; good = refl; adds = refl }

remark_adds : (head : Head) (rows : List Row) (numbers : List ℤ) → draft_of head (rows ++ remark_row numbers ∷ []) ≡ draft_of head rows
remark_adds head rows numbers = fold-append (with_row head.fields.drift) no_records rows (remark_row numbers ∷ [])

-- the rows behind the settings
abbrev body_of : List ℕ → ℕ → ℕ → List Row
body_of words stations ticks = all_clock_rows words stations ++ delay_rows words stations ++ wave_rows words stations ticks ++ flip_rows words stations ticks

-- what a scenario of so many stations says
abbrev pub setup_by : List ℕ → ℕ → ℕ → Setup
setup_by words stations ticks =
    let head = set_head words stations ticks in setup_of head.fields head.end (draft_of head (body_of words stations ticks))

-- rows are plain, and are a scenario, with and without a remark behind them
pub record AreScenario (rows : List Row) (s : Setup) : Type 0 where
  pub plain : All (λ r. is_plain_row r ≡ true) rows
  pub says : scenario_of rows ≡ Ok s
  pub remark : (numbers : List ℤ) → AllByRecursion IsLong numbers
      → All (λ r. is_plain_row r ≡ true) (rows ++ remark_row numbers ∷ []) × (scenario_of (rows ++ remark_row numbers ∷ []) ≡ Ok s)

module _ (words : List ℕ) (ticks : ℕ) (some : 1000 ≤ ticks) (limit : ticks ≤ 20000000) where
  body_passes_2 : (head : Head) → Keeps head 2 → (next : Draft) × Passes head no_records (body_of words 2 ticks) next
  body_passes_2 head keeps =
      let one = clocked words no_records 1 in
      let two = clocked words one 2 in
      let clocks = joined (clock_passes head no_records words 2 1 keeps (omega arith) (omega arith) (omega arith) refl refl refl)
      (clock_passes head one words 2 2 keeps (omega arith) (omega arith) (omega arith) refl refl refl) in
      let draft = with_rules two (delays_2 words) in
      let waves = waves_pass head draft words 2 ticks keeps (omega arith) (omega arith) limit in
      let flips = flips_pass head (with_shapes draft waves.0) words 2 ticks 0 10 keeps (omega arith) (omega arith) some limit (omega arith) in
      (flips.0, joined (joined (joined clocks (delays_pass_2 head two words keeps)) waves.1) flips.1)

  body_passes_3 : (head : Head) → Keeps head 3 → (next : Draft) × Passes head no_records (body_of words 3 ticks) next
  body_passes_3 head keeps =
      let one = clocked words no_records 1 in
      let two = clocked words one 2 in
      let three = clocked words two 3 in
      let clocks = joined (joined (clock_passes head no_records words 3 1 keeps (omega arith) (omega arith) (omega arith) refl refl refl)
      (clock_passes head one words 3 2 keeps (omega arith) (omega arith) (omega arith) refl refl refl))
      (clock_passes head two words 3 3 keeps (omega arith) (omega arith) (omega arith) refl refl refl) in
      let draft = with_rules three (delays_3 words) in
      let waves = waves_pass head draft words 3 ticks keeps (omega arith) (omega arith) limit in
      let flips = flips_pass head (with_shapes draft waves.0) words 3 ticks 0 10 keeps (omega arith) (omega arith) some limit (omega arith) in
      (flips.0, joined (joined (joined clocks (delays_pass_3 head three words keeps)) waves.1) flips.1)

  -- settings and a body that breaks no rule
  scenario_by : (stations : ℕ) → 2 ≤ stations → stations ≤ 3
      → ((more : List Row) → head_rows (set_rows words stations ticks ++ (body_of words stations ticks ++ more)) ≡ set_rows words stations ticks)
      → (next : Draft) × Passes (set_head words stations ticks) no_records (body_of words stations ticks) next
      → AreScenario (set_rows words stations ticks ++ body_of words stations ticks) (setup_by words stations ticks)
  scenario_by stations low high front passes =
      let head = set_head words stations ticks in
      let heads = set_rows words stations ticks in
      let body = body_of words stations ticks in
      let good = settings_good words stations ticks low high some limit in
      let whole = settings_whole words stations ticks low high some limit in
      let heads_plain : All (λ (r : Row). is_plain_row r ≡ true) heads = All-from_recursion (λ (r : Row). is_plain_row r ≡ true) heads (settings_plain words stations ticks low high some limit) in
      let start : head_rows (heads ++ body) ≡ heads = subst (λ (b : List Row). head_rows (heads ++ b) ≡ heads) (append-nil body) (front []) in
      record {
        plain = All-append (λ (r : Row). is_plain_row r ≡ true) heads body heads_plain (All-from_recursion (λ (r : Row). is_plain_row r ≡ true) body (all_plain passes.1));
        says = whole_scenario (heads ++ body) heads body start refl good whole (no_fault 5 passes.1);
        remark = λ numbers long.
            let longer = joined passes.1 (more (remark_passed head passes.0 numbers long) none) in
            let behind = body ++ remark_row numbers ∷ [] in (
              All-append (λ (r : Row). is_plain_row r ≡ true) heads behind heads_plain (All-from_recursion (λ (r : Row). is_plain_row r ≡ true) behind (all_plain longer)),
              whole_scenario (heads ++ behind) heads behind (front (remark_row numbers ∷ [])) refl good whole (no_fault 5 longer)
                  ∙ ap (λ (d : Draft). Ok (setup_of head.fields head.end d)) (remark_adds head body numbers),
            );
      }

  pub scenario : (stations : ℕ) → 2 ≤ stations → stations ≤ 3 → AreScenario (rows_by words stations ticks) (setup_by words stations ticks)
  scenario zero low high = absurd (omega arith)
  scenario (suc zero) low high = absurd (omega arith)
  scenario (suc (suc zero)) low high = scenario_by 2 low high (λ rest. refl) (body_passes_2 (set_head words 2 ticks) (settings_keep words 2 ticks low high some limit))
  scenario (suc (suc (suc zero))) low high = scenario_by 3 low high (λ rest. refl) (body_passes_3 (set_head words 3 ticks) (settings_keep words 3 ticks low high some limit))
  scenario (suc (suc (suc (suc n)))) low high = absurd (omega arith)

-- the text of rows and a remark
pub text_of-remark : (rows : List Row) (numbers : List ℤ) → text_of (rows ++ remark_row numbers ∷ []) ≡ text_of rows ++ line_of (remark_row numbers)
text_of-remark rows numbers =
    flat_map-append line_of rows (remark_row numbers ∷ []) ∙ ap (λ (t : List ℕ). text_of rows ++ t) (append-nil (line_of (remark_row numbers)))
