-- Settings are read back from the rows that write them.
use Rattle.std.proofs.Common.{◌≡◌, ◌∙◌, refl, ap, arith, ℕ, ◌+◌, ◌≤◌, Bool, true, false, ◌&&◌, ℤ, pos, ◌≤ℤ◌, List, [], ◌∷◌, ◌++◌, map, Some, None}
use Rattle.std.specs.Prelude.{All, fold, int_le, not, unsigned_abs}
use Rattle.std.specs.List.{list_all}
use Rattle.std.proofs.lemmas.Bool.{and_parts}
use Rattle.std.proofs.lemmas.Bool.Decides.{nat_tests}
use Rattle.std.proofs.lemmas.Int.{ints}
use Rattle.std.proofs.lemmas.List.Elements.{All-cons, All-nil}
use Rattle.ld_base.specs.Settings.{AreInRange, is_cycle, is_within, setting_fault}
use Rattle.ld_base.specs.declared.fields.Fields.{Fields}
use Rattle.ld_base.specs.declared.fields.Key.{Key}
use Rattle.ld_base.specs.declared.fields.Key.TheVariants as key
use Rattle.ld_base.proofs.Accepted.{AreInRange-from_no_fault}
use Rattle.row_reader.specs.Faults.{first_fault}
use Rattle.row_reader.specs.PlainRows.{is_plain, is_plain_row}
use Rattle.row_reader.specs.RowNumbers.{is_between}
use Rattle.row_reader.specs.Rows.{Row}
use Rattle.row_reader.proofs.RowNumberFacts.{between}
use Rattle.row_reader.proofs.NumberTexts.{IsShort, number-signed, signed_plain}
use Rattle.setting_rows.specs.Head.{Head, head_rows, heading_fault, heading_faults, is_given, key_accepts, no_settings, with_heading, with_setting}
use Rattle.setting_rows.specs.Keys.{key_name, key_of, keys, value_of}
use Rattle.setting_rows.specs.Written.{AreReadBack, all_set, set_row}
use Rattle.setting_rows.specs.declared.setting.Known.{Known}
use Rattle.setting_rows.specs.declared.setting.Setting.{Setting}
use Rattle.setting_rows.specs.declared.setting.Setting.TheVariants as setting
use Rattle.setting_rows.proofs.HeadReading.{head_rows-cons}

-- each key is found by its name
key-found : (k : Key) → key_of (key_name k) ≡ Some k
unfolding key_of
key-found key.Stations = refl
key-found key.Channels = refl
key-found key.Spacing = refl
key-found key.Cycle = refl
key-found key.Drift = refl
key-found key.Slow = refl
key-found key.Age = refl
key-found key.Limit = refl
key-found key.Silent = refl
key-found key.Count = refl
key-found key.Pickup = refl
key-found key.Rn = refl
key-found key.Rd = refl
key-found key.P = refl
key-found key.Q = refl
key-found key.WordA = refl
key-found key.WordB = refl
key-found key.Misses = refl

-- the name of each key is plain
name-plain : (k : Key) → list_all is_plain (key_name k) ≡ true
name-plain key.Stations = refl
name-plain key.Channels = refl
name-plain key.Spacing = refl
name-plain key.Cycle = refl
name-plain key.Drift = refl
name-plain key.Slow = refl
name-plain key.Age = refl
name-plain key.Limit = refl
name-plain key.Silent = refl
name-plain key.Count = refl
name-plain key.Pickup = refl
name-plain key.Rn = refl
name-plain key.Rd = refl
name-plain key.P = refl
name-plain key.Q = refl
name-plain key.WordA = refl
name-plain key.WordB = refl
name-plain key.Misses = refl

-- a number in a span, whose sign may be either
upward : (greatest : ℕ) (z : ℤ) → 1 ≤ unsigned_abs z → unsigned_abs z ≤ greatest → pos 0 ≤ℤ z → is_between (pos 1, pos greatest) z ≡ true
upward greatest z some high low = grind (arith, ints, nat_tests)

-- a number that isn't negative
natural : (n : ℕ) → int_le (pos 0) (pos n) ≡ true
natural n = grind (arith, ints)

-- a number within a range
within : (least greatest n : ℕ) → least ≤ n → n ≤ greatest → is_within (least, greatest) n ≡ true
within least greatest n low high = grind (arith, nat_tests)

-- each key may have its value in accepted settings
value-accepted : (f : Fields) → AreInRange f → (k : Key) → key_accepts k (value_of f k) ≡ true
value-accepted f r key.Stations = between 2 3 f.stations r.stations.0 r.stations.1
value-accepted f r key.Channels = between 1 12 f.channels r.channels.0 r.channels.1
value-accepted f r key.Spacing = between 500 10000 f.spacing r.spacing.0 r.spacing.1
value-accepted f r key.Cycle = rw (natural f.cycle, r.cycle) refl
value-accepted f r key.Drift = between 0 200 f.drift r.drift.0 r.drift.1
value-accepted f r key.Slow = between 1 200000 f.slow r.slow.0 r.slow.1
value-accepted f r key.Age = between 1000 10000000 f.age r.age.0 r.age.1
value-accepted f r key.Limit = between 1 480000 f.limit r.limit.0 r.limit.1
value-accepted f r key.Silent = between 1 1000000 f.silent r.silent.0 r.silent.1
value-accepted f r key.Count = between 1 32 f.count r.count.0 r.count.1
value-accepted f r key.Pickup = between 1 32767 f.pickup r.pickup.0 r.pickup.1
value-accepted f r key.Rn = between 1 10000 f.rn r.rn.0 r.rn.1
value-accepted f r key.Rd = between 1 10000 f.rd r.rd.0 (omega (arith, r.rd.1, r.rn.1))
value-accepted f r key.P = within 0 10000 (unsigned_abs f.p) r.p.0 r.p.1
value-accepted f r key.Q = upward 10000 f.q r.q.0.0 r.q.0.1 r.q.1
value-accepted f r key.WordA = between 128 255 f.worda r.worda.0 r.worda.1
value-accepted f r key.WordB = between 128 255 f.wordb r.wordb.0 r.wordb.1
value-accepted f r key.Misses = between 1 10 f.misses r.misses.0 r.misses.1

-- a count of samples of a cycle
cycle-short : (c : ℕ) → is_cycle c ≡ true → c ≤ 20
cycle-short c is = grind (arith, nat_tests)

-- each value has few digits
value-short : (f : Fields) → AreInRange f → (k : Key) → IsShort (value_of f k)
value-short f r key.Stations = omega (arith, r.stations.1)
value-short f r key.Channels = omega (arith, r.channels.1)
value-short f r key.Spacing = omega (arith, r.spacing.1)
value-short f r key.Cycle = omega (arith, cycle-short f.cycle r.cycle)
value-short f r key.Drift = omega (arith, r.drift.1)
value-short f r key.Slow = omega (arith, r.slow.1)
value-short f r key.Age = omega (arith, r.age.1)
value-short f r key.Limit = omega (arith, r.limit.1)
value-short f r key.Silent = omega (arith, r.silent.1)
value-short f r key.Count = omega (arith, r.count.1)
value-short f r key.Pickup = omega (arith, r.pickup.1)
value-short f r key.Rn = omega (arith, r.rn.1)
value-short f r key.Rd = omega (arith, r.rd.1, r.rn.1)
value-short f r key.P = omega (arith, r.p.1)
value-short f r key.Q = omega (arith, r.q.0.1)
value-short f r key.WordA = omega (arith, r.worda.1)
value-short f r key.WordB = omega (arith, r.wordb.1)
value-short f r key.Misses = omega (arith, r.misses.1)

-- whether none of some keys is set twice behind what is set
abbrev fresh : List Setting → List Key → Bool
fresh given [] = true
fresh given (k ∷ ks) = not (is_given given (setting.Line k)) && fresh (given ++ setting.Line k ∷ []) ks

-- what the rows of some keys add
abbrev with_keys : Fields → Head → List Key → Head
with_keys f head ks = fold (λ h k. with_setting h (setting.Line k) (value_of f k)) head ks

module _ (known : Known) (f : Fields) (ranges : AreInRange f) where
  -- what the row of a key adds
  row-adds : (head : Head) (k : Key) → with_heading known head (set_row f k) ≡ with_setting head (setting.Line k) (value_of f k)
  row-adds head k = rw (key-found k, number-signed (value_of f k) (value-short f ranges k)) refl

  -- it breaks no rule where its key isn't set
  row-good : (head : Head) (k : Key) → is_given head.given (setting.Line k) ≡ false → heading_fault known head (set_row f k) ≡ None
  row-good head k new = rw (key-found k, number-signed (value_of f k) (value-short f ranges k), value-accepted f ranges k, new) refl

  -- the rows of keys, none of which is set twice
  keys-read : (row : ℕ) (head : Head) (ks : List Key) → fresh head.given ks ≡ true
      → (first_fault row (heading_faults known head (map (set_row f) ks)) ≡ None) × (fold (with_heading known) head (map (set_row f) ks) ≡ with_keys f head ks)
  keys-read row head [] new = (refl, refl)
  keys-read row head (k ∷ ks) new =
      let parts = and_parts (not (is_given head.given (setting.Line k))) (fresh (head.given ++ setting.Line k ∷ []) ks) new in
      let rest = keys-read (row + 1) (with_setting head (setting.Line k) (value_of f k)) ks parts.1 in
      (rw (row-good head k (not-true _ parts.0), row-adds head k) rest.0, ap (λ (h : Head). fold (with_heading known) h (map (set_row f) ks)) (row-adds head k) ∙ rest.1)
    where
      not-true : (b : Bool) → not b ≡ true → b ≡ false
      not-true true is = cc
      not-true false is = refl

-- the row of a key is plain
row-plain : (f : Fields) → AreInRange f → (k : Key) → is_plain_row (set_row f k) ≡ true
row-plain f ranges k = rw (name-plain k, signed_plain (value_of f k) (let short = value-short f ranges k in omega (arith, short))) refl

rows-plain : (f : Fields) → AreInRange f → (ks : List Key) → All (λ row. is_plain_row row ≡ true) (map (set_row f) ks)
rows-plain f ranges [] = All-nil (λ row. is_plain_row row ≡ true)
rows-plain f ranges (k ∷ ks) = All-cons (λ row. is_plain_row row ≡ true) (set_row f k) (map (set_row f) ks) (row-plain f ranges k) (rows-plain f ranges ks)

-- the rows of keys stand among the settings
rows-in_front : (f : Fields) (ks : List Key) (rows : List Row) → head_rows (map (set_row f) ks ++ rows) ≡ map (set_row f) ks ++ head_rows rows
rows-in_front f [] rows = refl
rows-in_front f (k ∷ ks) rows = head_rows-cons (set_row f k) (map (set_row f) ks ++ rows) refl ∙ ap (λ (more : List Row). set_row f k ∷ more) (rows-in_front f ks rows)

-- what all keys add
all-added : (f : Fields) → with_keys f no_settings keys ≡ all_set f
all-added f = refl

-- accepted settings are read back
pub read-back : (f : Fields) → setting_fault f ≡ None → AreReadBack f
read-back f accepted =
    let ranges = AreInRange-from_no_fault f accepted in
    record {
      plain = rows-plain f ranges keys;
      in_front = rows-in_front f keys;
      good = λ known row. (keys-read known f ranges row no_settings keys refl).0;
      same = λ known. (keys-read known f ranges 1 no_settings keys refl).1 ∙ all-added f;
      whole = rw accepted refl;
    }
