-- The eight bits that end each header word.
use Rattle.std.proofs.Common.{◌≡◌, ◌≢◌, ℕ, ◌+◌, ◌-◌, ◌*◌, ◌/◌, ◌%◌, ◌^◌, ◌<◌, ◌≤◌, Bool, true, false, not, eqb, ◌&&◌, ◌||◌, min, max, bit_and, bit_or, refl, arith, ap, lit<, sym, ◌∙◌}
use Rattle.std.specs.Int.{bit_at, w64}
use Rattle.std.proofs.lemmas.Nat.{one_shl, or_lt, shr-shr}
use Rattle.std.proofs.lemmas.Nat.Bits.{bit_at-zero, bit_at_and, bit_at_cat_low, bit_at_not, bit_at_ones, bit_at_or}
use Rattle.ld_base.specs.Words.{HeaderWords}
use Rattle.c3794_frame.specs.FrameOf.{word}
use Rattle.c3794_frame.proofs.Pairs.{unlike}
use Rattle.bit_sync.specs.Frames.{are_both}
use Rattle.bit_sync.specs.Step.{window}

-- two tests that both fail
neither : (x y : Bool) → ((x && false) || (y && false)) ≡ false
neither true true = refl
neither true false = refl
neither false true = refl
neither false false = refl

-- each header word ends in 00001111
pub no_shape : (words : HeaderWords) (first second : ℕ) → second % 256 ≢ 15 → are_both words first second ≡ false
no_shape words first second other =
    let not_a : second ≢ word words false = λ e. other (ap (λ n. n % 256) e ∙ (omega arith)) in
    let not_b : second ≢ word words true = λ e. other (ap (λ n. n % 256) e ∙ (omega arith)) in
    rw (unlike second (word words false) not_a, unlike second (word words true) not_b) (neither _ _)

-- the bits of a window that ends in 00001111
shaped_bit : (x k i : ℕ) → window x k % 256 ≡ 15 → i < 8 → bit_at (x / 2 ^ i) k ≡ bit_at 15 i
shaped_bit x k i shape below =
    let y : ℕ = x / 2 ^ k in
    let rest : y % 2 ^ 16 % 256 ≡ y % 256 = omega arith in
    let split : y / 256 * 256 + y % 256 ≡ y = omega arith in
    let low : bit_at y i ≡ bit_at (y % 256) i = ap (λ n. bit_at n i) (sym split) ∙ bit_at_cat_low (y / 256) 8 (y % 256) i below in
    let turned : x / 2 ^ i / 2 ^ k ≡ x / 2 ^ k / 2 ^ i = shr-shr x i k ∙ ap (λ j. x / 2 ^ j) (omega arith) ∙ sym (shr-shr x k i) in
    ap (λ q. q % 2) turned ∙ low ∙ ap (λ n. bit_at n i) (sym rest ∙ shape)

-- a number whose bits are all ones at a place
all_ones : (a b c d k : ℕ) → bit_at a k ≡ 1 → bit_at b k ≡ 1 → bit_at c k ≡ 1 → bit_at d k ≡ 1
    → bit_at (bit_and (bit_and (bit_and a b) c) d) k ≡ 1
all_ones a b c d k ea eb ec ed =
    bit_at_and (bit_and (bit_and a b) c) d k
    ∙ ap (λ x. min x (bit_at d k)) (bit_at_and (bit_and a b) c k ∙ ap (λ x. min x (bit_at c k)) (bit_at_and a b k))
    ∙ (rw (ea, eb, ec, ed) refl)

-- and one whose bits are all zeros there
all_zeros : (a b c d k : ℕ) → bit_at a k ≡ 0 → bit_at b k ≡ 0 → bit_at c k ≡ 0 → bit_at d k ≡ 0
    → bit_at (bit_or (bit_or (bit_or a b) c) d) k ≡ 0
all_zeros a b c d k ea eb ec ed =
    bit_at_or (bit_or (bit_or a b) c) d k
    ∙ ap (λ x. max x (bit_at d k)) (bit_at_or (bit_or a b) c k ∙ ap (λ x. max x (bit_at c k)) (bit_at_or a b k))
    ∙ (rw (ea, eb, ec, ed) refl)

-- the test of the shape in all windows at once
unfoldable pub shape_of : ℕ → ℕ → ℕ
shape_of x count =
    bit_and (bit_and (bit_and (bit_and (bit_and x (x / 2)) (x / 4)) (x / 8)) (18446744073709551615 - bit_or (bit_or (bit_or (x / 16) (x / 32)) (x / 64)) (x / 128)))
    (1 * 2 ^ count % 18446744073709551616 - 1)

-- the zeros of the shape fit a word
zeros_fit : (x : ℕ) → x < 2 ^ 64 → bit_or (bit_or (bit_or (x / 16) (x / 32)) (x / 64)) (x / 128) < 2 ^ 64
zeros_fit x fits =
    let a : x / 16 < 2 ^ 64 = omega arith in
    let b : x / 32 < 2 ^ 64 = omega arith in
    let c : x / 64 < 2 ^ 64 = omega arith in
    let d : x / 128 < 2 ^ 64 = omega arith in
    or_lt 64 _ _ (or_lt 64 _ _ (or_lt 64 _ _ a b) c) d

-- a window with the shape passes
shape_passes : (x count k : ℕ) → x < 2 ^ 64 → count ≤ 32 → k < count → window x k % 256 ≡ 15 → bit_at (shape_of x count) k ≡ 1
unfolding shape_of
shape_passes x count k fits few below shape =
    let ones : bit_at (bit_and (bit_and (bit_and x (x / 2)) (x / 4)) (x / 8)) k ≡ 1 =
    all_ones x (x / 2) (x / 4) (x / 8) k
    (ap (λ n. bit_at n k) (omega arith) ∙ shaped_bit x k 0 shape (lit< tt))
    (shaped_bit x k 1 shape (lit< tt)) (shaped_bit x k 2 shape (lit< tt)) (shaped_bit x k 3 shape (lit< tt)) in
    let zeros : bit_at (bit_or (bit_or (bit_or (x / 16) (x / 32)) (x / 64)) (x / 128)) k ≡ 0 =
    all_zeros (x / 16) (x / 32) (x / 64) (x / 128) k (shaped_bit x k 4 shape (lit< tt)) (shaped_bit x k 5 shape (lit< tt)) (shaped_bit x k 6 shape (lit< tt)) (shaped_bit x k 7 shape (lit< tt)) in
    let turned : bit_at (18446744073709551615 - bit_or (bit_or (bit_or (x / 16) (x / 32)) (x / 64)) (x / 128)) k ≡ 1 =
    bit_at_not w64 (bit_or (bit_or (bit_or (x / 16) (x / 32)) (x / 64)) (x / 128)) k (zeros_fit x fits) (omega arith) ∙ ap (λ b. 1 - b) zeros in
    let mask : bit_at (1 * 2 ^ count % 18446744073709551616 - 1) k ≡ 1 = ap (λ m. bit_at (m - 1) k) (one_shl count 64 (omega arith)) ∙ bit_at_ones count k below in
    let both : bit_at (bit_and (bit_and (bit_and (bit_and x (x / 2)) (x / 4)) (x / 8)) (18446744073709551615 - bit_or (bit_or (bit_or (x / 16) (x / 32)) (x / 64)) (x / 128))) k ≡ 1 =
    bit_at_and _ _ k ∙ (rw (ones, turned) refl) in
    bit_at_and _ _ k ∙ (rw (both, mask) refl)

-- a number with a bit that is one isn't 0
bit_of_some : (n k : ℕ) → bit_at n k ≡ 1 → n ≢ 0
bit_of_some n k one none = absurd (omega (arith, sym one ∙ ap (λ m. bit_at m k) none ∙ bit_at-zero k))

-- where the test fails no window has the shape
pub unshaped : (x count : ℕ) → x < 2 ^ 64 → count ≤ 32 → not (eqb (shape_of x count) 0) ≡ false → (k : ℕ) → k < count
    → window x k % 256 ≢ 15
unshaped x count fits few fails k below shape =
    let some : eqb (shape_of x count) 0 ≡ false = unlike (shape_of x count) 0 (bit_of_some (shape_of x count) k (shape_passes x count k fits few below shape)) in
    absurd (cc)
