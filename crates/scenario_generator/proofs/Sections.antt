-- The records of a generated scenario break no rule: its clocks, delays, waves and flipped bits.
use Rattle.std.proofs.Common.{◌≡◌, refl, ℕ, zero, suc, ◌+◌, ◌*◌, ◌/◌, ◌%◌, ◌<◌, ◌≤◌, ◌==◌, true, false, ◌&&◌, pos, ◌-ℤ◌, List, [], ◌∷◌, length, map, arith, length-append}
use Rattle.std.specs.Prelude.{codes, count_by, nat_le, nat_lt, neg_ℤ}
use Rattle.std.specs.List.{list_any, range_with_len}
use Rattle.std.proofs.lemmas.Int.{ints}
use Rattle.row_reader.specs.RowNumbers.{is_between}
use Rattle.ld_base.specs.declared.rule.Rule.{Rule}
use Rattle.waveform_reader.specs.Draft.{Draft, is_later_delay, is_rule_too_many, latest}
use Rattle.waveform_reader.specs.declared.shape.ShapeFrom.{ShapeFrom}
use Rattle.setting_rows.specs.Head.{Head}
use Rattle.scenario_generator.specs.Lines.{Line, line_at, line_count}
use Rattle.scenario_generator.specs.Rows.{clock_rows, delay_rows, flip_place, flip_row, row, wave_place, wave_row, wave_rows}
use Rattle.scenario_generator.specs.Words.{word}
use Rattle.row_reader.proofs.NumberTexts.{IsShort}
use Rattle.scenario_generator.proofs.Passing.{Keeps, Passed, Passes, clock_passed, delay_passed, delay_rule, flip_passed, flip_rule, not_above, rate_passed, wave_passed, wave_shape, with_clock, with_rate, with_rule, with_shape}
use Rattle.scenario_generator.proofs.Passing.Passes.{none, more}

-- a rate keeps within the drift
rate_fits : (x : ℕ) → x < 101 → IsShort (pos x -ℤ pos 50) × (is_between (neg_ℤ (pos 50), pos 50) (pos x -ℤ pos 50) ≡ true)
rate_fits x few = (grind (arith, ints), grind (arith, ints))

-- a draft with the start and the rate of a station's clock
abbrev pub clocked : List ℕ → Draft → ℕ → Draft
clocked words draft station =
    with_rate (with_clock draft station (word words (2 * station) % 1000000)) station (pos (word words (2 * station + 1) % 101) -ℤ pos 50)

-- a clock's start and rate, where it has none
pub clock_passes : (head : Head) (draft : Draft) (words : List ℕ) (stations station : ℕ) → Keeps head stations → stations ≤ 3 → 1 ≤ station → station ≤ stations
    → list_any (λ earlier. earlier.station == station) draft.starts ≡ false
    → nat_le 16 (count_by (λ earlier. earlier.station == station) draft.rates) ≡ false
    → list_any (λ earlier. (earlier.station == station) && nat_lt 0 earlier.rate.from) draft.rates ≡ false
    → Passes head draft (clock_rows words station) (clocked words draft station)
clock_passes head draft words stations station keeps few low high start room rate =
    let slow = rate_fits (word words (2 * station + 1) % 101) (omega arith) in
    more (clock_passed head draft stations station _ keeps few low high (omega arith) start)
    (more (rate_passed head _ stations station _ keeps few low high slow.0 slow.1 room rate) none)

-- a line between two of so many stations
pub record Joins (stations : ℕ) (line : Line) : Type 0 where
  pub sender : (1 ≤ line.0) × (line.0 ≤ stations)
  pub receiver : (1 ≤ line.1) × (line.1 ≤ stations)
  pub differ : (line.0 == line.1) ≡ false

abbrev joins : (stations from to : ℕ) → 1 ≤ from → from ≤ stations → 1 ≤ to → to ≤ stations → (from == to) ≡ false → Joins stations (from, to)
joins stations from to a b c d e = record { sender = (a, b); receiver = (c, d); differ = e }

line_joins_2 : (n : ℕ) → n < 2 → Joins 2 (line_at 2 n)
line_joins_2 zero few = joins 2 1 2 (omega arith) (omega arith) (omega arith) (omega arith) refl
line_joins_2 (suc zero) few = joins 2 2 1 (omega arith) (omega arith) (omega arith) (omega arith) refl
line_joins_2 (suc (suc n)) few = absurd (omega arith)

line_joins_3 : (n : ℕ) → n < 6 → Joins 3 (line_at 3 n)
line_joins_3 zero few = joins 3 1 2 (omega arith) (omega arith) (omega arith) (omega arith) refl
line_joins_3 (suc zero) few = joins 3 1 3 (omega arith) (omega arith) (omega arith) (omega arith) refl
line_joins_3 (suc (suc zero)) few = joins 3 2 1 (omega arith) (omega arith) (omega arith) (omega arith) refl
line_joins_3 (suc (suc (suc zero))) few = joins 3 2 3 (omega arith) (omega arith) (omega arith) (omega arith) refl
line_joins_3 (suc (suc (suc (suc zero)))) few = joins 3 3 1 (omega arith) (omega arith) (omega arith) (omega arith) refl
line_joins_3 (suc (suc (suc (suc (suc zero))))) few = joins 3 3 2 (omega arith) (omega arith) (omega arith) (omega arith) refl
line_joins_3 (suc (suc (suc (suc (suc (suc n)))))) few = absurd (omega arith)

-- by a word, on any line
drawn_joins : (stations w : ℕ) → 2 ≤ stations → stations ≤ 3 → Joins stations (line_at stations (w % line_count stations))
drawn_joins zero w low high = absurd (omega arith)
drawn_joins (suc zero) w low high = absurd (omega arith)
drawn_joins (suc (suc zero)) w low high = line_joins_2 (w % 2) (omega arith)
drawn_joins (suc (suc (suc zero))) w low high = line_joins_3 (w % 6) (omega arith)
drawn_joins (suc (suc (suc (suc n)))) w low high = absurd (omega arith)

-- the delay of a word
abbrev delay_of : List ℕ → ℕ → ℕ
delay_of words place = 1 + word words place % 8000

-- the delay of a line that has none
delay_passes : (head : Head) (draft : Draft) (stations w from to : ℕ) → Keeps head stations → stations ≤ 3 → Joins stations (from, to)
    → is_rule_too_many draft.rules (delay_rule from to (1 + w % 8000)) ≡ false
    → list_any (λ earlier. is_later_delay earlier (delay_rule from to (1 + w % 8000))) draft.rules ≡ false
    → Passed head draft (row (codes "delay") (pos 0 ∷ pos from ∷ pos to ∷ pos (1 + w % 8000) ∷ [])) (with_rule draft (delay_rule from to (1 + w % 8000)))
delay_passes head draft stations w from to keeps few line room fresh =
    delay_passed head draft stations from to (1 + w % 8000) keeps few line.sender.0 line.sender.1 line.receiver.0 line.receiver.1 line.differ
    (omega arith) (omega arith) room fresh

-- a draft with only these rules
abbrev pub with_rules : Draft → List Rule → Draft
with_rules draft rules = record draft { rules = rules }

-- the delays of two stations
-- the delays of two stations, and of three
abbrev pub delays_2 : List ℕ → List Rule
delays_2 words = delay_rule 1 2 (delay_of words 6) ∷ delay_rule 2 1 (delay_of words 7) ∷ []

abbrev pub delays_3 : List ℕ → List Rule
delays_3 words =
    delay_rule 1 2 (delay_of words 8) ∷ delay_rule 1 3 (delay_of words 9) ∷ delay_rule 2 1 (delay_of words 10) ∷ delay_rule 2 3 (delay_of words 11)
    ∷ delay_rule 3 1 (delay_of words 12) ∷ delay_rule 3 2 (delay_of words 13) ∷ []

pub delays_pass_2 : (head : Head) (draft : Draft) (words : List ℕ) → Keeps head 2
    → Passes head (with_rules draft []) (delay_rows words 2) (with_rules draft (delays_2 words))
delays_pass_2 head draft words keeps =
    more (delay_passes head (with_rules draft []) 2 (word words 6) 1 2 keeps (omega arith) (line_joins_2 0 (omega arith)) refl refl)
    (more (delay_passes head (with_rules draft (delay_rule 1 2 (delay_of words 6) ∷ [])) 2 (word words 7) 2 1 keeps (omega arith) (line_joins_2 1 (omega arith)) refl refl)
    none)

pub delays_pass_3 : (head : Head) (draft : Draft) (words : List ℕ) → Keeps head 3
    → Passes head (with_rules draft []) (delay_rows words 3) (with_rules draft (delays_3 words))
delays_pass_3 head draft words keeps =
    let a = delay_rule 1 2 (delay_of words 8) in
    let b = delay_rule 1 3 (delay_of words 9) in
    let c = delay_rule 2 1 (delay_of words 10) in
    let d = delay_rule 2 3 (delay_of words 11) in
    let e = delay_rule 3 1 (delay_of words 12) in
    more (delay_passes head (with_rules draft []) 3 (word words 8) 1 2 keeps (omega arith) (line_joins_3 0 (omega arith)) refl refl)
    (more (delay_passes head (with_rules draft (a ∷ [])) 3 (word words 9) 1 3 keeps (omega arith) (line_joins_3 1 (omega arith)) refl refl)
    (more (delay_passes head (with_rules draft (a ∷ b ∷ [])) 3 (word words 10) 2 1 keeps (omega arith) (line_joins_3 2 (omega arith)) refl refl)
    (more (delay_passes head (with_rules draft (a ∷ b ∷ c ∷ [])) 3 (word words 11) 2 3 keeps (omega arith) (line_joins_3 3 (omega arith)) refl refl)
    (more (delay_passes head (with_rules draft (a ∷ b ∷ c ∷ d ∷ [])) 3 (word words 12) 3 1 keeps (omega arith) (line_joins_3 4 (omega arith)) refl refl)
    (more (delay_passes head (with_rules draft (a ∷ b ∷ c ∷ d ∷ e ∷ [])) 3 (word words 13) 3 2 keeps (omega arith) (line_joins_3 5 (omega arith)) refl refl)
    none)))))

-- a draft with only these waves
abbrev pub with_shapes : Draft → List ShapeFrom → Draft
with_shapes draft shapes = record draft { shapes = shapes }

-- a wave of one amplitude
abbrev pub shape_of : ℕ → ℕ → ℕ → ℕ → ShapeFrom
shape_of from station amplitude step = wave_shape from station amplitude (step % 20) ((step + 13) % 20) ((step + 7) % 20)

wave_passes : (head : Head) (draft : Draft) (stations from station amplitude step : ℕ) → Keeps head stations → stations ≤ 3
    → 1 ≤ station → station ≤ stations → from ≤ 20000000 → amplitude ≤ 32767 → nat_lt from (latest station draft.shapes) ≡ false
    → Passed head draft (wave_row from station amplitude step) (with_shape draft (shape_of from station amplitude step))
wave_passes head draft stations from station amplitude step keeps few low high limit small fresh =
    wave_passed head draft stations from station amplitude (step % 20) ((step + 13) % 20) ((step + 7) % 20) keeps few low high limit small
    (omega arith) (omega arith) (omega arith) fresh

pub waves_pass : (head : Head) (draft : Draft) (words : List ℕ) (stations ticks : ℕ) → Keeps head stations → 2 ≤ stations → stations ≤ 3 → ticks ≤ 20000000
    → (shapes : List ShapeFrom) × Passes head (with_shapes draft []) (wave_rows words stations ticks) (with_shapes draft shapes)
waves_pass head draft words stations ticks keeps low high limit =
    let place = wave_place stations in
    let amplitude = 500 + word words place % 4500 in
    let step = word words (place + 1) % 20 in
    let half = ticks / 2 in
    let a = shape_of 0 1 amplitude step in
    let b = shape_of 0 2 amplitude (step + 10) in
    let c = shape_of half 1 (3 * amplitude) step in
    let d = shape_of half 2 (3 * amplitude) step in (
      a ∷ b ∷ c ∷ d ∷ [],
      more (wave_passes head (with_shapes draft []) stations 0 1 amplitude step keeps high (omega arith) (omega arith) (omega arith) (omega arith) refl)
          (more (wave_passes head (with_shapes draft (a ∷ [])) stations 0 2 amplitude (step + 10) keeps high (omega arith) (omega arith) (omega arith) (omega arith) refl)
          (more (wave_passes head (with_shapes draft (a ∷ b ∷ [])) stations half 1 (3 * amplitude) step keeps high (omega arith) (omega arith) (omega arith) (omega arith) (not_above half 0 (omega arith)))
          (more (wave_passes head (with_shapes draft (a ∷ b ∷ c ∷ [])) stations half 2 (3 * amplitude) step keeps high (omega arith) (omega arith) (omega arith) (omega arith) (not_above half 0 (omega arith)))
          none))),
    )

-- a tick within the run
tick_within : (w ticks : ℕ) → 1000 ≤ ticks → ticks ≤ 20000000 → 125 * (w % (ticks / 125)) ≤ 20000000
tick_within w ticks some limit = let slots : 0 < ticks / 125 = omega arith in omega arith

-- any count of flipped bits
pub flips_pass : (head : Head) (draft : Draft) (words : List ℕ) (stations ticks at count : ℕ) → Keeps head stations → 2 ≤ stations → stations ≤ 3
    → 1000 ≤ ticks → ticks ≤ 20000000 → length draft.rules + count ≤ 1000
    → (next : Draft) × Passes head draft (map (flip_row words stations ticks) (range_with_len at count)) next
flips_pass head draft words stations ticks at zero keeps low high some limit room = (draft, none)
flips_pass head draft words stations ticks at (suc count) keeps low high some limit room =
    let place = flip_place stations + 3 * at in
    let tick = 125 * (word words place % (ticks / 125)) in
    let line = line_at stations (word words (place + 1) % line_count stations) in
    let bit = word words (place + 2) % 256 in
    let joined = drawn_joins stations (word words (place + 1)) low high in
    let next = with_rule draft (flip_rule tick line.0 line.1 bit) in
    let first = flip_passed head draft stations tick line.0 line.1 bit keeps high joined.sender.0 joined.sender.1 joined.receiver.0 joined.receiver.1 joined.differ
    (tick_within (word words place) ticks some limit) (omega arith) (omega arith) in
    let rest = flips_pass head next words stations ticks (at + 1) count keeps low high some limit (omega (arith, length-append draft.rules (flip_rule tick line.0 line.1 bit ∷ []))) in
    (rest.0, more first rest.1)
