-- Products of points: their norms, dot products and cross products.
use Rattle.std.proofs.Common.{◌≡◌, ◌∙◌, sym, ap, ℕ, ◌*◌, ℤ, pos, negsuc, ◌*ℤ◌, neg_ℤ, unsigned_abs, refl, arith}
use Rattle.phasor.specs.Point.{Point}
use Rattle.std.proofs.lemmas.Int.{ints}
use Rattle.phasor.proofs.Points.{same_point}
use Rattle.phasor.proofs.Differences.{number, sum, negation, times, equal}
use Rattle.alpha_plane.specs.Inside.{square, norm, dot, cross}
use Rattle.alpha_plane.specs.Product.{product}

-- the square of a signed number is that of its size
square_of_size : (a : ℤ) → a *ℤ a ≡ pos (square (unsigned_abs a))
square_of_size (pos n) = refl
square_of_size (negsuc n) = refl

-- the dot product of a point with itself is its norm
dot-self : (z : Point) → dot z z ≡ pos (norm z)
dot-self z = rw (square_of_size z.re, square_of_size z.im) refl

-- the dot product of two products with z is that of the other factors, times the norm of z
pub dot-products : (z l r : Point) → dot (product z l) (product z r) ≡ pos (norm z) *ℤ dot l r
dot-products z l r = multiplied ∙ ap (λ x. x *ℤ dot l r) (dot-self z)
  where
    multiplied : dot (product z l) (product z r) ≡ dot z z *ℤ dot l r
    multiplied =
        let a = number z.re in
        let b = number z.im in
        let c = number l.re in
        let d = number l.im in
        let e = number r.re in
        let f = number r.im in
        let re_l = sum (times a c) (negation (times b d)) in
        let im_l = sum (times a d) (times b c) in
        let re_r = sum (times a e) (negation (times b f)) in
        let im_r = sum (times a f) (times b e) in
        equal
        (sum (times re_l re_r) (times im_l im_r))
        (times (sum (times a a) (times b b)) (sum (times c e) (times d f)))
        (omega arith)

-- a negated factor negates a product
times_neg : (a b : ℤ) → a *ℤ neg_ℤ b ≡ neg_ℤ (a *ℤ b)
times_neg a b =
    let x = number a in
    let y = number b in
    equal (times x (negation y)) (negation (times x y)) (omega arith)

-- a point turned back by a quarter
abbrev quarter : Point → Point
quarter z = record { re = z.im; im = neg_ℤ z.re }

-- the cross product is the dot product with the other factor turned
cross-quarter : (l r : Point) → cross l r ≡ dot l (quarter r)
cross-quarter l r =
    let ahead = l.re *ℤ r.im in
    let behind = l.im *ℤ r.re in
    rw (times_neg l.im r.re) (omega (arith, ints))

-- a product is turned with its factor
quarter-product : (z r : Point) → quarter (product z r) ≡ product z (quarter r)
quarter-product z r = same_point _ _
    (rw (times_neg z.im r.re) (let one = z.re *ℤ r.im in let other = z.im *ℤ r.re in omega (arith, ints)))
    (rw (times_neg z.re r.re) (let one = z.re *ℤ r.re in let other = z.im *ℤ r.im in omega (arith, ints)))

-- so the same holds of the cross product
pub cross-products : (z l r : Point) → cross (product z l) (product z r) ≡ pos (norm z) *ℤ cross l r
cross-products z l r =
    cross-quarter (product z l) (product z r)
    ∙ ap (dot (product z l)) (quarter-product z r)
    ∙ dot-products z l (quarter r)
    ∙ ap (λ d. pos (norm z) *ℤ d) (sym (cross-quarter l r))

-- the norm of a product is the product of the norms
pub norm-product : (z l : Point) → norm (product z l) ≡ norm z * norm l
norm-product z l = ap unsigned_abs (sym (dot-self (product z l)) ∙ dot-products z l l ∙ ap (λ x. pos (norm z) *ℤ x) (dot-self l))

-- the dot product does not depend on the order of its points
pub dot_comm : (l r : Point) → dot l r ≡ dot r l
dot_comm l r =
    let c = number l.re in
    let d = number l.im in
    let e = number r.re in
    let f = number r.im in
    equal (sum (times c e) (times d f)) (sum (times e c) (times f d)) (omega arith)

-- the cross product changes its sign with it
pub cross_anticomm : (l r : Point) → cross l r ≡ neg_ℤ (cross r l)
cross_anticomm l r =
    let c = number l.re in
    let d = number l.im in
    let e = number r.re in
    let f = number r.im in
    equal (sum (times c f) (negation (times d e))) (negation (sum (times e d) (negation (times f c)))) (omega arith)

-- a factor of one factor is one of the product
pub times_scaled : (n : ℕ) (a b : ℤ) → a *ℤ (pos n *ℤ b) ≡ pos n *ℤ (a *ℤ b)
times_scaled n a b =
    let m = number (pos n) in
    let x = number a in
    let y = number b in
    equal (times x (times m y)) (times m (times x y)) (omega arith)

-- a negation keeps a factor
pub neg_scaled : (n : ℕ) (a : ℤ) → neg_ℤ (pos n *ℤ a) ≡ pos n *ℤ neg_ℤ a
neg_scaled n a =
    let m = number (pos n) in
    let x = number a in
    equal (negation (times m x)) (times m (negation x)) (omega arith)
