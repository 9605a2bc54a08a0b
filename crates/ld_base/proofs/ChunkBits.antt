-- The first bits of bytes: whole bytes, the front of one, and zeros behind it.
use Rattle.std.proofs.Common.{◌≡◌, ℕ, ◌+◌, ◌-◌, ◌/◌, ◌%◌, ◌<◌, ◌≤◌, List, ◌++◌, length, length-append, length-drop, take, drop, replicate, slice_index, slice_set, arith, ap, ◌∙◌}
use Rattle.std.proofs.lemmas.List.{get_or-set_other, get_or-set_same, get_or-replicate, get_or-take, get_or_append_left, get_or-append_right, get_or-drop, get_or_past}
use Rattle.std.proofs.lemmas.List.FromFn.{fill_by_all}
use Rattle.std.proofs.lemmas.Nat.Bits.{bit_at-zero}
use Rattle.ld_base.specs.Bits.{byte_bit, line_bit, line_bits}
use Rattle.ld_base.specs.Packing.{length-line_bits, line_bits_at}

-- each of 32 zero bytes is 0, and so is what is read past them
pub zero_byte : (k : ℕ) → slice_index (replicate 32 0) k ≡ 0
zero_byte k = grind (arith, inside, past)
  where
    inside : k < 32 → slice_index (replicate 32 0) k ≡ 0
    inside h = get_or-replicate 32 k 0 0 h

    past : 32 ≤ k → slice_index (replicate 32 0) k ≡ 0
    past h = get_or_past (replicate 32 0) k 0 h

-- a bit of a zero byte is 0
pub zero_bit : (bytes : List ℕ) (i : ℕ) → slice_index bytes (i / 8) ≡ 0 → line_bit bytes i ≡ 0
zero_bit bytes i e = ap (λ (byte : ℕ). byte_bit byte (i % 8)) e ∙ bit_at-zero (7 - i % 8)

-- the first bytes of a list, then one more byte, then zeros
module _ (bits whole last : ℕ) (bytes copied zeros : List ℕ)
    (is_whole : whole ≡ bits / 8) (few : whole < length zeros) (all_zero : (k : ℕ) → slice_index zeros k ≡ 0)
    (is_copied : copied ≡ take whole bytes) (long : length copied ≡ whole)
    (kept : (k : ℕ) → k < bits % 8 → byte_bit last k ≡ byte_bit (slice_index bytes whole) k)
    (padded : (k : ℕ) → bits % 8 ≤ k → k < 8 → byte_bit last k ≡ 0) where
  abbrev filled : List ℕ
  filled = slice_set (copied ++ drop whole zeros) whole last

  before : (j : ℕ) → j < whole → slice_index filled j ≡ slice_index bytes j
  before j h =
      get_or-set_other (copied ++ drop whole zeros) whole j last 0 (omega arith)
      ∙ get_or_append_left copied (drop whole zeros) 0 j (omega arith)
      ∙ ap (λ (xs : List ℕ). slice_index xs j) is_copied ∙ get_or-take whole bytes j 0 h

  at_last : slice_index filled whole ≡ last
  at_last =
      get_or-set_same (copied ++ drop whole zeros) whole last 0
      (omega (arith, length-append copied (drop whole zeros), length-drop whole zeros))

  behind : (j : ℕ) → whole < j → slice_index filled j ≡ 0
  behind j h =
      get_or-set_other (copied ++ drop whole zeros) whole j last 0 (omega arith)
      ∙ get_or-append_right copied (drop whole zeros) whole j 0 long (omega arith)
      ∙ get_or-drop whole zeros (j - whole) 0 ∙ all_zero (whole + (j - whole))

  -- a bit below the count is that of the bytes
  same : (i : ℕ) → i < bits → line_bit filled i ≡ line_bit bytes i
  same i h = grind (arith, before (i / 8), at_last, kept (i % 8))

  -- so these are the first bits
  pub filled_bits : line_bits bits filled ≡ line_bits bits bytes
  filled_bits =
      fill_by_all (line_bit bytes) (line_bits bits filled) bits 0 (length-line_bits bits filled)
      (λ i h. line_bits_at bits filled i h ∙ same i h)

  -- and the others are 0
  pub filled_zeros : (i : ℕ) → bits ≤ i → line_bit filled i ≡ 0
  filled_zeros i from = grind (arith, at_last, padded (i % 8), zero_bit filled i, behind (i / 8))
