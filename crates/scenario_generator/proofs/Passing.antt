-- Rows that break no rule behind others.
use Rattle.std.proofs.Common.{◌≡◌, refl, ℕ, ◌+◌, ◌^◌, ◌<◌, ◌≤◌, ◌==◌, true, false, ◌&&◌, nat_le, ℤ, pos, List, [], ◌∷◌, ◌++◌, length, map, Some, None, arith}
use Rattle.std.specs.Prelude.{neg_ℤ, codes, count_by, nat_lt}
use Rattle.std.specs.Fmt.{signed_decimal}
use Rattle.std.specs.List.{AllByRecursion, list_any}
use Rattle.std.proofs.lemmas.Bool.Decides.{nat_tests}
use Rattle.std.proofs.lemmas.Int.{ints}
use Rattle.ld_base.specs.declared.rule.Act.TheVariants as act
use Rattle.ld_base.specs.declared.rule.Rule.{Rule}
use Rattle.row_reader.specs.Faults.{first_fault}
use Rattle.row_reader.specs.Numbers.{number}
use Rattle.row_reader.specs.PlainRows.{is_plain_row}
use Rattle.row_reader.specs.RowNumbers.{is_between}
use Rattle.row_reader.specs.Rows.{Row}
use Rattle.waveform_reader.specs.Draft.{Draft, is_later_delay, is_rule_too_many, latest, row_fault, row_faults, with_row}
use Rattle.setting_rows.specs.Head.{Head}
use Rattle.waveform_reader.specs.Names.{kind_of}
use Rattle.waveform_reader.specs.declared.shape.Shape.TheVariants as shape
use Rattle.waveform_reader.specs.declared.shape.ShapeFrom.{ShapeFrom}
use Rattle.scenario_generator.specs.Rows.{row}
use Rattle.row_reader.proofs.RowNumberFacts.{between}
use Rattle.row_reader.proofs.NumberTexts.{IsLong, IsShort, number-decimal, number-signed, numbers_plain}

-- a plain row breaks no rule behind the records of a draft, and adds to them
pub record Passed (head : Head) (draft : Draft) (this : Row) (next : Draft) : Type 0 where
  pub plain : is_plain_row this ≡ true
  pub good : row_fault head.given head.fields draft this ≡ None
  pub adds : with_row head.fields.drift draft this ≡ next

-- some rows do so, one after the other
pub data Passes (head : Head) : Draft → List Row → Draft → Type 0 where
  none : {draft : Draft} → Passes head draft [] draft
  more : {draft next last : Draft} {this : Row} {rows : List Row} → Passed head draft this next → Passes head next rows last
      → Passes head draft (this ∷ rows) last

pub joined : {head : Head} {first second third : Draft} {a b : List Row} → Passes head first a second → Passes head second b third
    → Passes head first (a ++ b) third
joined none q = q
joined (more p ps) q = more p (joined ps q)

-- they have no fault
pub no_fault : {head : Head} {draft next : Draft} {rows : List Row} (at : ℕ) → Passes head draft rows next
    → first_fault at (row_faults head.given head.fields draft rows) ≡ None
no_fault at none = refl
no_fault at (more p ps) = rw (p.good, p.adds) (no_fault (at + 1) ps)

-- they are plain
pub all_plain : {head : Head} {draft next : Draft} {rows : List Row} → Passes head draft rows next → AllByRecursion (λ r. is_plain_row r ≡ true) rows
all_plain none = tt
all_plain (more p ps) = (p.plain, all_plain ps)

-- settings of so many stations with a drift of 50
pub record Keeps (head : Head) (stations : ℕ) : Type 0 where
  pub count : head.fields.stations ≡ stations
  pub drift : head.fields.drift ≡ 50

pub not_above : (a b : ℕ) → b ≤ a → nat_lt a b ≡ false
not_above a b low = grind (arith, nat_tests)

long_numbers : (numbers : List ℕ) → AllByRecursion (λ n. n < 10 ^ 18) numbers → AllByRecursion IsLong (map pos numbers)
long_numbers [] short = tt
long_numbers (n ∷ numbers) short = (omega (arith, short.0), long_numbers numbers short.1)

-- the number 0
zero : number (signed_decimal (pos 0)) ≡ Some (pos 0)
zero = number-decimal 0 (omega arith)

-- the draft with a clock's start
abbrev pub with_clock : Draft → ℕ → ℕ → Draft
with_clock draft station ticks = record draft { starts = draft.starts ++ record { station = station; ticks = ticks } ∷ [] }

pub clock_passed : (head : Head) (draft : Draft) (stations station ticks : ℕ) → Keeps head stations → stations ≤ 3 → 1 ≤ station → station ≤ stations
    → ticks ≤ 1000000000000 → list_any (λ earlier. earlier.station == station) draft.starts ≡ false
    → Passed head draft (row (codes "clock") (pos station ∷ pos ticks ∷ [])) (with_clock draft station ticks)
unfolding kind_of
clock_passed head draft stations station ticks keeps few low high limit fresh =
    let number = number-decimal station (omega arith) in
    let time = number-decimal ticks (omega arith) in
    let first = between 1 3 station low (omega arith) in
    let second = between 0 1000000000000 ticks (omega arith) limit in
    record {
      plain = rw (numbers_plain (pos station ∷ pos ticks ∷ []) (long_numbers (station ∷ ticks ∷ []) (omega arith, (omega arith, tt)))) refl;
      good = rw (number, time, first, second, keeps.count, not_above stations station high, fresh) refl;
      adds = rw (number, time, first, second) refl;
    }

-- the draft with a clock's rate
abbrev pub with_rate : Draft → ℕ → ℤ → Draft
with_rate draft station rate = record draft { rates = draft.rates ++ record { station = station; rate = record { from = 0; rate = rate } } ∷ [] }

pub rate_passed : (head : Head) (draft : Draft) (stations station : ℕ) (rate : ℤ) → Keeps head stations → stations ≤ 3 → 1 ≤ station → station ≤ stations
    → IsShort rate → is_between (neg_ℤ (pos 50), pos 50) rate ≡ true
    → nat_le 16 (count_by (λ earlier. earlier.station == station) draft.rates) ≡ false
    → list_any (λ earlier. (earlier.station == station) && nat_lt 0 earlier.rate.from) draft.rates ≡ false
    → Passed head draft (row (codes "rate") (pos 0 ∷ pos station ∷ rate ∷ [])) (with_rate draft station rate)
unfolding kind_of
rate_passed head draft stations station rate keeps few low high short slow room fresh =
    let number = number-decimal station (omega arith) in
    let pace = number-signed rate short in
    let first = between 1 3 station low (omega arith) in
    record {
      plain = rw (numbers_plain (pos 0 ∷ pos station ∷ rate ∷ []) (omega arith, (omega arith, (omega (arith, short), tt)))) refl;
      good = rw (keeps.drift, zero, number, pace, first, slow, room, keeps.count, not_above stations station high, fresh) refl;
      adds = rw (keeps.drift, zero, number, pace, first, slow) refl;
    }

-- the draft with a rule
abbrev pub with_rule : Draft → Rule → Draft
with_rule draft rule = record draft { rules = draft.rules ++ rule ∷ [] }

-- a delay from tick 0 on
abbrev pub delay_rule : ℕ → ℕ → ℕ → Rule
delay_rule from to ticks = record { from = from; to = to; first = 0; last = 0; act = act.Delay ticks }

pub delay_passed : (head : Head) (draft : Draft) (stations from to ticks : ℕ) → Keeps head stations → stations ≤ 3
    → 1 ≤ from → from ≤ stations → 1 ≤ to → to ≤ stations → (from == to) ≡ false → 1 ≤ ticks → ticks ≤ 100000
    → is_rule_too_many draft.rules (delay_rule from to ticks) ≡ false
    → list_any (λ earlier. is_later_delay earlier (delay_rule from to ticks)) draft.rules ≡ false
    → Passed head draft (row (codes "delay") (pos 0 ∷ pos from ∷ pos to ∷ pos ticks ∷ [])) (with_rule draft (delay_rule from to ticks))
unfolding kind_of
delay_passed head draft stations from to ticks keeps few from1 from2 to1 to2 differ low high room fresh =
    let sender = number-decimal from (omega arith) in
    let receiver = number-decimal to (omega arith) in
    let time = number-decimal ticks (omega arith) in
    let first = between 1 3 from from1 (omega arith) in
    let second = between 1 3 to to1 (omega arith) in
    let third = between 1 100000 ticks low high in
    record {
      plain = rw (numbers_plain (pos 0 ∷ pos from ∷ pos to ∷ pos ticks ∷ []) (long_numbers (0 ∷ from ∷ to ∷ ticks ∷ []) (omega arith, (omega arith, (omega arith, (omega arith, tt)))))) refl;
      good = rw (zero, sender, receiver, time, first, second, third, room, keeps.count, not_above stations from from2, not_above stations to to2, differ, fresh) refl;
      adds = rw (zero, sender, receiver, time, first, second, third) refl;
    }

-- the draft with a wave of one amplitude
abbrev pub wave_shape : ℕ → ℕ → ℕ → ℕ → ℕ → ℕ → ShapeFrom
wave_shape from station amplitude a b c =
    record { station = station; from = from; shape = shape.Wave (pos amplitude ∷ pos amplitude ∷ pos amplitude ∷ []) (a ∷ b ∷ c ∷ []) }

abbrev pub with_shape : Draft → ShapeFrom → Draft
with_shape draft s = record draft { shapes = draft.shapes ++ s ∷ [] }

pub wave_passed : (head : Head) (draft : Draft) (stations from station amplitude a b c : ℕ) → Keeps head stations → stations ≤ 3
    → 1 ≤ station → station ≤ stations → from ≤ 20000000 → amplitude ≤ 32767 → a ≤ 19 → b ≤ 19 → c ≤ 19
    → nat_lt from (latest station draft.shapes) ≡ false
    → Passed head draft (row (codes "wave") (pos from ∷ pos station ∷ pos amplitude ∷ pos a ∷ pos amplitude ∷ pos b ∷ pos amplitude ∷ pos c ∷ []))
    (with_shape draft (wave_shape from station amplitude a b c))
unfolding kind_of
wave_passed head draft stations from station amplitude a b c keeps few low high limit small a19 b19 c19 fresh =
    let n1 = number-decimal from (omega arith) in
    let n2 = number-decimal station (omega arith) in
    let n3 = number-decimal amplitude (omega arith) in
    let n4 = number-decimal a (omega arith) in
    let n5 = number-decimal b (omega arith) in
    let n6 = number-decimal c (omega arith) in
    let t1 = between 0 20000000 from (omega arith) limit in
    let t2 = between 1 3 station low (omega arith) in
    let t3 = between 0 32767 amplitude (omega arith) small in
    let t4 = between 0 19 a (omega arith) a19 in
    let t5 = between 0 19 b (omega arith) b19 in
    let t6 = between 0 19 c (omega arith) c19 in
    record {
      plain = rw (numbers_plain (pos from ∷ pos station ∷ pos amplitude ∷ pos a ∷ pos amplitude ∷ pos b ∷ pos amplitude ∷ pos c ∷ [])
          (long_numbers (from ∷ station ∷ amplitude ∷ a ∷ amplitude ∷ b ∷ amplitude ∷ c ∷ [])
          (omega arith, (omega arith, (omega arith, (omega arith, (omega arith, (omega arith, (omega arith, (omega arith, tt)))))))))) refl;
      good = rw (n1, n2, n3, n4, n5, n6, t1, t2, t3, t4, t5, t6, keeps.count, not_above stations station high, fresh) refl;
      adds = rw (n1, n2, n3, n4, n5, n6, t1, t2, t3, t4, t5, t6) refl;
    }

-- a flipped bit of the frame of one tick
abbrev pub flip_rule : ℕ → ℕ → ℕ → ℕ → Rule
flip_rule tick from to bit = record { from = from; to = to; first = tick; last = tick; act = act.Flip bit }

pub flip_passed : (head : Head) (draft : Draft) (stations tick from to bit : ℕ) → Keeps head stations → stations ≤ 3
    → 1 ≤ from → from ≤ stations → 1 ≤ to → to ≤ stations → (from == to) ≡ false → tick ≤ 20000000 → bit ≤ 255 → length draft.rules < 1000
    → Passed head draft (row (codes "flip") (pos tick ∷ pos tick ∷ pos from ∷ pos to ∷ pos bit ∷ [])) (with_rule draft (flip_rule tick from to bit))
unfolding kind_of
flip_passed head draft stations tick from to bit keeps few from1 from2 to1 to2 differ late small room =
    let time = number-decimal tick (omega arith) in
    let sender = number-decimal from (omega arith) in
    let receiver = number-decimal to (omega arith) in
    let place = number-decimal bit (omega arith) in
    let first = between 0 20000000 tick (omega arith) late in
    let second = between 1 3 from from1 (omega arith) in
    let third = between 1 3 to to1 (omega arith) in
    let fourth = between 0 255 bit (omega arith) small in
    let some : nat_le 1000 (length draft.rules) ≡ false = grind (arith, nat_tests) in
    record {
      plain = rw (numbers_plain (pos tick ∷ pos tick ∷ pos from ∷ pos to ∷ pos bit ∷ []) (long_numbers (tick ∷ tick ∷ from ∷ to ∷ bit ∷ []) (omega arith, (omega arith, (omega arith, (omega arith, (omega arith, tt))))))) refl;
      good = rw (
        time,
        sender,
        receiver,
        place,
        first,
        second,
        third,
        fourth,
        some,
        keeps.count,
        not_above stations from from2,
        not_above stations to to2,
        differ,
        not_above tick tick (omega arith),
      ) refl;
      adds = rw (time, sender, receiver, place, first, second, third, fourth) refl;
    }
