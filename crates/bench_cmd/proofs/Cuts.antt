-- The bits of bytes from any bit on.
use Rattle.std.proofs.Common.{◌≡◌, ℕ, zero, suc, ◌+◌, ◌-◌, ◌*◌, ◌/◌, ◌%◌, ◌^◌, ◌<◌, List, [], ◌∷◌, length, map, slice_index, refl, arith, ap, sym, ◌∙◌, inl, inr}
use Rattle.std.specs.Int.{bit_at}
use Rattle.std.specs.List.{range_with_len}
use Rattle.std.proofs.lemmas.Bool.{cases_lt}
use Rattle.std.proofs.lemmas.Nat.{shl-shr, shr-shr}
use Rattle.std.proofs.lemmas.Nat.Bits.{bit_at_cat_high, bit_at_cat_low}
use Rattle.ld_base.specs.Bits.{byte_bit, line_bit}

-- a list made by one function is that made by another, where they agree on it
pub same_stretch : (f g : ℕ → ℕ) (a b n : ℕ) → ((k : ℕ) → k < n → f (a + k) ≡ g (b + k)) → map f (range_with_len a n) ≡ map g (range_with_len b n)
same_stretch f g a b zero same = refl
same_stretch f g a b (suc n) same =
    let first : f (a + 0) ≡ g (b + 0) = same 0 (omega arith) in
    let a0 : a + 0 ≡ a = omega arith in
    let b0 : b + 0 ≡ b = omega arith in
    let first' : f a ≡ g b = rw (a0, b0) at first in
    let rest = same_stretch f g (a + 1) (b + 1) n (λ k below.
    let ak : a + 1 + k ≡ a + suc k = omega arith in
    let bk : b + 1 + k ≡ b + suc k = omega arith in
    ap f ak ∙ same (suc k) (omega arith) ∙ ap g (sym bk)) in
    ap (λ x. x ∷ map f (range_with_len (a + 1) n)) first' ∙ ap (λ xs. g b ∷ xs) rest

-- a bit of a number's lowest eight
low_bit : (y i : ℕ) → i < 8 → bit_at (y % 256) i ≡ bit_at y i
low_bit y zero below = omega arith
low_bit y (suc zero) below = omega arith
low_bit y (suc (suc zero)) below = omega arith
low_bit y (suc (suc (suc zero))) below = omega arith
low_bit y (suc (suc (suc (suc zero)))) below = omega arith
low_bit y (suc (suc (suc (suc (suc zero))))) below = omega arith
low_bit y (suc (suc (suc (suc (suc (suc zero)))))) below = omega arith
low_bit y (suc (suc (suc (suc (suc (suc (suc zero))))))) below = omega arith
low_bit y (suc (suc (suc (suc (suc (suc (suc (suc i)))))))) below = absurd (omega arith)

-- a bit of two bytes in one number
both_bit : (a b m j : ℕ) → b < 2 ^ 8 → m + j ≡ 15 → bit_at (a * 2 ^ 8 + b) m ≡ line_bit (a ∷ b ∷ []) j
both_bit a b m j small e =
    elim (cases_lt j 8) [
      | inl first ↦
          let byte : j / 8 ≡ 0 = omega arith in
          let place : j % 8 ≡ j = omega arith in
          let bit : m - 8 ≡ 7 - j = omega arith in
          bit_at_cat_high a 8 b m small (omega arith) ∙ ap (bit_at a) bit ∙ sym (ap (λ q. byte_bit (slice_index (a ∷ b ∷ []) q) (j % 8)) byte ∙ ap (byte_bit a) place)
      | inr second ↦
          let byte : j / 8 ≡ 1 = omega arith in
          let bit : m ≡ 7 - j % 8 = omega arith in
          bit_at_cat_low a 8 b m (omega arith) ∙ ap (bit_at b) bit ∙ sym (ap (λ q. byte_bit (slice_index (a ∷ b ∷ []) q) (j % 8)) byte)
    ]

-- a bit of eight that stand in two bytes, from one of the first byte on
pub shifted_bit : (a b s k r : ℕ) → b < 2 ^ 8 → s < 8 → k < 8 → r ≡ (a * 2 ^ 8 + b) * 2 ^ s % 2 ^ 16 / 2 ^ 8 → byte_bit r k ≡ line_bit (a ∷ b ∷ []) (s + k)
shifted_bit a b s k r small shift below is =
    let both : ℕ = a * 2 ^ 8 + b in
    let all : ℕ = both * 2 ^ s in
    let i : ℕ = 7 - k in
    let m : ℕ = 8 + i - s in
    let low : all % 2 ^ 16 / 2 ^ 8 ≡ all / 2 ^ 8 % 256 = omega arith in
    let count : 8 + i ≡ s + m = omega arith in
    let place : m + (s + k) ≡ 15 = omega arith in
    ap (λ n. bit_at n i) (is ∙ low) ∙ low_bit (all / 2 ^ 8) i (omega arith)
    ∙ ap (λ n. n % 2) (shr-shr all 8 i ∙ ap (λ n. all / 2 ^ n) count ∙ sym (shr-shr all s m) ∙ ap (λ n. n / 2 ^ m) (shl-shr both s))
    ∙ both_bit a b m (s + k) small place

-- a bit of two bytes of a list
pub line_bit_pair : (bytes : List ℕ) (k s j : ℕ) → s < 8 → j < 8 → line_bit (slice_index bytes k ∷ slice_index bytes (k + 1) ∷ []) (s + j) ≡ line_bit bytes (s + (8 * k + j))
line_bit_pair bytes k s j shift below =
    let place : (s + (8 * k + j)) % 8 ≡ (s + j) % 8 = omega arith in
    elim (cases_lt (s + j) 8) [
      | inl first ↦
          let byte : (s + j) / 8 ≡ 0 = omega arith in
          let byte' : (s + (8 * k + j)) / 8 ≡ k = omega arith in
          ap (λ q. byte_bit (slice_index (slice_index bytes k ∷ slice_index bytes (k + 1) ∷ []) q) ((s + j) % 8)) byte
          ∙ sym (ap (λ q. byte_bit (slice_index bytes q) ((s + (8 * k + j)) % 8)) byte' ∙ ap (byte_bit (slice_index bytes k)) place)
      | inr second ↦
          let byte : (s + j) / 8 ≡ 1 = omega arith in
          let byte' : (s + (8 * k + j)) / 8 ≡ k + 1 = omega arith in
          ap (λ q. byte_bit (slice_index (slice_index bytes k ∷ slice_index bytes (k + 1) ∷ []) q) ((s + j) % 8)) byte
          ∙ sym (ap (λ q. byte_bit (slice_index bytes q) ((s + (8 * k + j)) % 8)) byte' ∙ ap (byte_bit (slice_index bytes (k + 1))) place)
    ]

-- the bits of a list whose bytes have these bits
pub line_bit_each : (bits : List ℕ) (bytes : List ℕ) (s n : ℕ)
    → ((k j : ℕ) → k < n → j < 8 → byte_bit (slice_index bytes k) j ≡ line_bit bits (s + (8 * k + j)))
    → (i : ℕ) → i < 8 * n → line_bit bytes i ≡ line_bit bits (s + i)
line_bit_each bits bytes s n each i below =
    let e : 8 * (i / 8) + i % 8 ≡ i = omega arith in
    each (i / 8) (i % 8) (omega arith) (omega arith) ∙ ap (λ q. line_bit bits (s + q)) e

-- a bit of a window is that of the input
pub window_bit : (input window : List ℕ) (place s i : ℕ) → s < 8 → i < 256 → 8 * place + s + i < 8 * length input
    → ((k : ℕ) → k < 33 → place + k < length input → slice_index window k ≡ slice_index input (place + k))
    → line_bit window (s + i) ≡ line_bit input (8 * place + s + i)
window_bit input window place s i shift below within same =
    let byte : (8 * place + s + i) / 8 ≡ place + (s + i) / 8 = omega arith in
    let bit : (8 * place + s + i) % 8 ≡ (s + i) % 8 = omega arith in
    ap (λ b. byte_bit b ((s + i) % 8)) (same ((s + i) / 8) (omega arith) (omega arith))
    ∙ sym (ap (λ q. byte_bit (slice_index input q) ((8 * place + s + i) % 8)) byte ∙ ap (byte_bit (slice_index input (place + (s + i) / 8))) bit)
