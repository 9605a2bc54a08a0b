-- What the three tests of Inside say where the two currents are multiplied, change places or are zero.
use Rattle.std.proofs.Common.{◌≡◌, ◌≢◌, ◌∙◌, ap, refl, ℕ, zero, suc, ◌+◌, ◌*◌, ◌<◌, ◌≤◌, ℤ, pos, negsuc, ◌*ℤ◌, neg_ℤ, unsigned_abs, Bool, true, false, ◌&&◌, None, arith}
use Rattle.std.proofs.Math.Bool.{and_comm, and-false}
use Rattle.std.proofs.Math.Nat.{mul-le-mul_left, mul-pos}
use Rattle.std.proofs.lemmas.Bool.{lt-leb}
use Rattle.std.proofs.lemmas.Int.{ints, unsigned_abs-mul}
use Rattle.std.specs.Prelude.{nat_le, int_le}
use borrow.Author.Differences.{up, down}
use Rattle.ld_base.proofs.Sizes.{unsigned_abs-neg}
use Rattle.phasor.specs.Point.{Point, origin}
use Rattle.alpha_plane.specs.Inside.{Sector, Inside, square, norm, dot, cross}
use Rattle.alpha_plane.specs.Product.{product}
use Rattle.alpha_plane.specs.Region.{region_fault}
use Rattle.alpha_plane.proofs.Products.{dot-products, cross-products, norm-product, dot_comm, cross_anticomm, times_scaled, neg_scaled}
use Rattle.alpha_plane.proofs.Ranges.{HasSizes-from_no_fault}

-- the test of one radius
abbrev radius : Sector → Point → Point → Bool
radius s one other = nat_le (square s.rd * norm one) (square s.rn * norm other)

-- the test of the angle, by the dot and the cross product
abbrev angle : Sector → ℤ → ℤ → Bool
angle s d c = int_le (s.p *ℤ pos (unsigned_abs c)) (s.q *ℤ neg_ℤ d)

-- two numbers compare as their products with one factor above zero
int_le_scaled : (k : ℕ) (a b : ℤ) → 0 < k → int_le (pos k *ℤ a) (pos k *ℤ b) ≡ int_le a b
int_le_scaled k a b h = by (int_le (pos k *ℤ a) (pos k *ℤ b)) (int_le a b) refl refl
  where
    by : (s t : Bool) → int_le (pos k *ℤ a) (pos k *ℤ b) ≡ s → int_le a b ≡ t → s ≡ t
    by true true e f = refl
    by false false e f = refl
    by true false e f = let above : up b + down a < up a + down b = omega (arith, ints) in absurd (omega (arith, ints, mul-le-mul_left k above))
    by false true e f = let above : up a + down b ≤ up b + down a = omega (arith, ints) in absurd (omega (arith, ints, mul-le-mul_left k above))

-- a current other than zero has a norm above zero
norm_positive : (z : Point) → z ≢ origin → 0 < norm z
norm_positive z h = positive z.re z.im h
  where
    positive : (a b : ℤ) → ◌≢◌ {A = Point} (record { re = a; im = b }) origin → 0 < square (unsigned_abs a) + square (unsigned_abs b)
    positive (pos zero) (pos zero) h = absurd (h refl)
    positive (pos zero) (pos (suc b)) h = omega arith
    positive (pos zero) (negsuc b) h = omega arith
    positive (pos (suc a)) b h = omega arith
    positive (negsuc a) b h = omega arith

-- a radius test stays the same where both currents are multiplied by one that is not zero
radius-products : (s : Sector) (z one other : Point) → z ≢ origin → radius s (product z one) (product z other) ≡ radius s one other
radius-products s z one other h =
    (λ i. nat_le (square s.rd * norm-product z one i) (square s.rn * norm-product z other i))
    ∙ (λ i. nat_le (regrouped (square s.rd) (norm z) (norm one) i) (regrouped (square s.rn) (norm z) (norm other) i))
    ∙ int_le_scaled (norm z) (pos (square s.rd * norm one)) (pos (square s.rn * norm other)) (norm_positive z h)
  where
    regrouped : (m k n : ℕ) → m * (k * n) ≡ k * (m * n)
    regrouped m k n = omega arith

-- and so does the angle's, whose dot and cross product are multiplied by its norm
angle-products : (s : Sector) (z : Point) (d c : ℤ) → z ≢ origin → angle s (pos (norm z) *ℤ d) (pos (norm z) *ℤ c) ≡ angle s d c
angle-products s z d c h =
    let k = norm z in
    (λ i. int_le (s.p *ℤ pos (unsigned_abs-mul (pos k) c i)) (s.q *ℤ neg_scaled k d i))
    ∙ (λ i. int_le (times_scaled k s.p (pos (unsigned_abs c)) i) (times_scaled k s.q (neg_ℤ d) i))
    ∙ int_le_scaled k (s.p *ℤ pos (unsigned_abs c)) (s.q *ℤ neg_ℤ d) (norm_positive z h)

-- so both currents may be multiplied by one that is not zero
pub Inside-products : (s : Sector) (z l r : Point) → z ≢ origin → Inside s (product z l) (product z r) ≡ Inside s l r
Inside-products s z l r h =
    (λ i. radius-products s z r l h i && radius-products s z l r h i && angle s (dot-products z l r i) (cross-products z l r i))
    ∙ ap (λ t. radius s r l && radius s l r && t) (angle-products s z (dot l r) (cross l r) h)

-- the currents may change places
pub Inside_comm : (s : Sector) (l r : Point) → Inside s l r ≡ Inside s r l
Inside_comm s l r =
    let size : unsigned_abs (cross l r) ≡ unsigned_abs (cross r l) = ap unsigned_abs (cross_anticomm l r) ∙ unsigned_abs-neg (cross r l) in
    (λ i. and_comm (radius s r l) (radius s l r) i && int_le (s.p *ℤ pos (size i)) (s.q *ℤ neg_ℤ (dot_comm l r i)))

-- a current other than zero is more than the radius times zero
radius-zero : (s : Sector) (z : Point) → region_fault s ≡ None → z ≢ origin → radius s z origin ≡ false
radius-zero s z e h =
    let rd : 0 < s.rd = (HasSizes-from_no_fault s e).some in
    let above : 0 < square s.rd * norm z = mul-pos (mul-pos rd rd) (norm_positive z h) in
    lt-leb (square s.rd * norm z) (square s.rn * 0) (omega arith)

-- such a current alone is outside
pub Inside-one_zero : (s : Sector) (z : Point) → region_fault s ≡ None → z ≢ origin
    → (Inside s z origin ≡ false) × (Inside s origin z ≡ false)
Inside-one_zero s z e h = (
  (λ i. radius s origin z && radius-zero s z e h i && angle s (dot z origin) (cross z origin)) ∙ ap (λ t. t && angle s (dot z origin) (cross z origin)) (and-false (radius s origin z)),
  λ i. radius-zero s z e h i && radius s origin z && angle s (dot origin z) (cross origin z),
)
