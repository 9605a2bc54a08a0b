-- The tables, each proved by one test of all its entries.
use Rattle.std.proofs.Common.{◌≡◌, ℕ, zero, suc, ◌+◌, ◌-◌, ◌*◌, ◌/◌, ◌%◌, ◌<◌, Bool, true, false, ◌&&◌, eqb, ltb, cond, List, [], ◌∷◌, length, get_or, refl, arith, zero-add, inl, inr}
use Rattle.std.specs.Int.{bit_at}
use Rattle.std.specs.Prelude.{bit_and}
use Rattle.std.proofs.lemmas.Bool.{eqb-true, ltb-true, eq-eqb, cases_eq}
use Rattle.ld_base.specs.Bits.{byte_bit}
use Rattle.c3794_frame.specs.Nibble.{HasPairs, IsLineByte}
use Rattle.c3794_frame.specs.declared.nibbles.TheConstants.{LINE_BYTES, LINE_PAIRS, NIBBLES}

-- a test of each entry, with its index
each_entry : (ℕ → ℕ → Bool) → ℕ → List ℕ → Bool
each_entry test i [] = true
each_entry test i (x ∷ xs) = test i x && each_entry test (i + 1) xs

-- a test of each number below n
unfoldable pub each_below : (ℕ → Bool) → ℕ → Bool
each_below test zero = true
each_below test (suc n) = test n && each_below test n

-- both parts of a test
pub both : (a b : Bool) → (a && b) ≡ true → (a ≡ true) × (b ≡ true)
both true b h = (refl, h)
both false b h = cc

-- what passes at each entry passes at one
at_entry : (test : ℕ → ℕ → Bool) (i : ℕ) (xs : List ℕ) (k : ℕ) → each_entry test i xs ≡ true → k < length xs
    → test (i + k) (get_or xs k 0) ≡ true
unfolding each_entry
at_entry test i [] k h within = absurd (omega arith)
at_entry test i (x ∷ xs) zero h within = let e : i + 0 ≡ i = omega arith in rw e ((both _ _ h).0)
at_entry test i (x ∷ xs) (suc k) h within =
    let e : i + suc k ≡ (i + 1) + k = omega arith in
    rw e (at_entry test (i + 1) xs k ((both _ _ h).1) (omega arith))

-- what passes at each number below n passes at one
pub at_below : (test : ℕ → Bool) (n k : ℕ) → each_below test n ≡ true → k < n → test k ≡ true
unfolding each_below
at_below test zero k h within = absurd (omega arith)
at_below test (suc n) k h within = elim (cases_eq k n) [ inl e ↦ rw e ((both _ _ h).0) | inr ne ↦ at_below test n k ((both _ _ h).1) (omega arith) ]

-- the test of a line byte and its nibble
lined : ℕ → ℕ → Bool
lined byte nibble = ltb nibble 16 && each_below (λ j. eqb (byte_bit byte (2 * j)) (bit_at nibble (3 - j)) && eqb (byte_bit byte (2 * j) + byte_bit byte (2 * j + 1)) 1) 4

-- the test of a byte in which each data bit is followed by its complement
paired : ℕ → Bool
paired byte = each_below (λ j. eqb (byte_bit byte (2 * j) + byte_bit byte (2 * j + 1)) 1) 4

-- the test of an entry of `NIBBLES`
entry : ℕ → ℕ → Bool
entry byte nibble = cond (paired byte) (lined byte nibble) true

-- each entry of `LINE_BYTES` passes
all_lined : each_entry (λ nibble byte. lined byte nibble) 0 LINE_BYTES ≡ true
unfolding each_entry each_below lined
all_lined = refl

-- the test of an entry of `LINE_PAIRS`
pair : ℕ → ℕ → Bool
pair byte bytes = lined (bytes % 256) (byte / 16) && lined (bytes / 256 % 256) (bit_and byte 15)

-- each entry of `LINE_PAIRS` passes
all_pairs : each_entry pair 0 LINE_PAIRS ≡ true
unfolding each_entry each_below lined pair
all_pairs = refl

-- each entry of `NIBBLES` passes
all_entries : each_entry entry 0 NIBBLES ≡ true
unfolding each_entry each_below lined paired entry
all_entries = refl

-- a line byte that passes is one
lined_is : (byte nibble : ℕ) → lined byte nibble ≡ true → IsLineByte byte nibble
unfolding lined
lined_is byte nibble h =
    let parts = both _ _ h in
    record {
      small = ltb-true _ _ parts.0;
      data_bits = λ j within. eqb-true _ _ ((both _ _ (at_below _ 4 j parts.1 within)).0);
      complements = λ j within. eqb-true _ _ ((both _ _ (at_below _ 4 j parts.1 within)).1);
    }

-- `LINE_BYTES` at each nibble
pub line_byte_at : (nibble : ℕ) → nibble < 16 → IsLineByte (get_or LINE_BYTES nibble 0) nibble
line_byte_at nibble within = let h = at_entry (λ nibble byte. lined byte nibble) 0 LINE_BYTES nibble all_lined within in lined_is _ _ (rw zero-add at h)

-- `LINE_PAIRS` at each byte
pub line_pair_at : (byte : ℕ) → byte < 256
    → IsLineByte (get_or LINE_PAIRS byte 0 % 256) (byte / 16) × IsLineByte (get_or LINE_PAIRS byte 0 / 256 % 256) (bit_and byte 15)
unfolding pair
line_pair_at byte within =
    let h = at_entry pair 0 LINE_PAIRS byte all_pairs within in
    let parts = both _ _ (rw zero-add at h) in
    (lined_is _ _ parts.0, lined_is _ _ parts.1)

-- what passes at one number after the other passes at each below n
all_below : (test : ℕ → Bool) (n : ℕ) → ((k : ℕ) → k < n → test k ≡ true) → each_below test n ≡ true
unfolding each_below
all_below test zero h = refl
all_below test (suc n) h = rw (h n (omega arith)) (all_below test n (λ k below. h k (omega arith)))

-- a byte with its complements passes
pairs_pass : (byte : ℕ) → HasPairs byte → paired byte ≡ true
unfolding paired
pairs_pass byte pairs = all_below _ 4 (λ j below. eq-eqb _ _ (pairs.each j below))

-- its entry passes as a nibble
whole_entry : (byte nibble : ℕ) → entry byte nibble ≡ true → paired byte ≡ true → lined byte nibble ≡ true
unfolding entry
whole_entry byte nibble h whole = rw whole at h

-- the entry at each byte
entry_at : (byte : ℕ) → byte < 256 → entry byte (get_or NIBBLES byte 0) ≡ true
entry_at byte within = let h = at_entry entry 0 NIBBLES byte all_entries within in rw zero-add at h

-- `NIBBLES` at each line byte
pub nibble_at : (byte : ℕ) → byte < 256 → HasPairs byte → IsLineByte byte (get_or NIBBLES byte 0)
nibble_at byte within pairs = lined_is _ _ (whole_entry _ _ (entry_at byte within) (pairs_pass byte pairs))
