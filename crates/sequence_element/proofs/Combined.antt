-- The sequences as the code computes them.
use Rattle.std.proofs.Common.{◌≡◌, ℕ, ◌+◌, ◌≤◌, ◌*◌, ◌^◌, ℤ, pos, negsuc, ◌+ℤ◌, ◌-ℤ◌, ◌*ℤ◌, unsigned_abs, to_z, of_z, w64, FitsSigned, List, [], ◌∷◌, length, get_or, arith, refl}
use Rattle.std.proofs.Math.Nat.{mul-le-mul_left}
use Rattle.std.proofs.lemmas.Int.{ints, unsigned_abs-mul}
use Rattle.ld_base.proofs.Sizes.{unsigned_abs-add, unsigned_abs-sub}
use Rattle.phasor.specs.Point.{Point, IsWithin, plus, minus}
use Rattle.phasor.proofs.Points.{same_point, point64}
use Rattle.sequence_element.specs.Sequences.{combined, negative_sequence}

-- a number as it is read back from 64 bits
abbrev as64 : ℤ → ℤ
as64 z = to_z w64 (of_z w64 z)

-- a small one is read back as it is
kept : (z : ℤ) → unsigned_abs z ≤ 2 ^ 48 → as64 z ≡ z
kept z h = omega (arith, ints)

-- a sum of three small numbers is computed as it is
sum_kept : (a b c : ℤ) → unsigned_abs a ≤ 2 ^ 36 → unsigned_abs b ≤ 2 ^ 36 → unsigned_abs c ≤ 2 ^ 36
    → as64 (as64 (as64 a +ℤ as64 b) +ℤ as64 c) ≡ (a +ℤ b) +ℤ c
sum_kept a b c ha hb hc = omega (arith, ints)

-- the zero sequence is what the code computes of the phases' parts
pub zero_kept : (p q r : Point) → IsWithin 36 p → IsWithin 36 q → IsWithin 36 r
    → point64 (as64 (as64 p.re +ℤ as64 q.re) +ℤ as64 r.re) (as64 (as64 p.im +ℤ as64 q.im) +ℤ as64 r.im) ≡ plus (plus p q) r
zero_kept p q r hp hq hr = rw (sum_kept p.re q.re r.re hp.0 hq.0 hr.0, sum_kept p.im q.im r.im hp.1 hq.1 hr.1) refl

-- the size of a product
scaled_size : (k n : ℕ) (z : ℤ) → unsigned_abs z ≤ n → unsigned_abs (pos k *ℤ z) ≤ k * n
scaled_size k n z h = rw (unsigned_abs-mul (pos k) z) (mul-le-mul_left k h)

-- a part of the negative sequence, before the last product is taken from it or added to it
module _ (a b d : ℤ) (ha : unsigned_abs a ≤ 2 ^ 34) (hb : unsigned_abs b ≤ 2 ^ 35) (hd : unsigned_abs d ≤ 2 ^ 35) where
  abbrev x : ℤ
  x = pos 1024 *ℤ a

  abbrev y : ℤ
  y = pos 512 *ℤ b

  abbrev z : ℤ
  z = pos 887 *ℤ d

  x_size : unsigned_abs x ≤ 1024 * 2 ^ 34
  x_size = scaled_size 1024 (2 ^ 34) a ha

  y_size : unsigned_abs y ≤ 512 * 2 ^ 35
  y_size = scaled_size 512 (2 ^ 35) b hb

  z_size : unsigned_abs z ≤ 887 * 2 ^ 35
  z_size = scaled_size 887 (2 ^ 35) d hd

  first_size : unsigned_abs (x -ℤ y) ≤ 1024 * 2 ^ 34 + 512 * 2 ^ 35
  first_size = omega (arith, unsigned_abs-sub x y, x_size, y_size)

  pub less_size : unsigned_abs ((x -ℤ y) -ℤ z) ≤ 2 ^ 46
  less_size = omega (arith, unsigned_abs-sub (x -ℤ y) z, first_size, z_size)

  pub more_size : unsigned_abs ((x -ℤ y) +ℤ z) ≤ 2 ^ 46
  more_size = omega (arith, unsigned_abs-add (x -ℤ y) z, first_size, z_size)

  -- as the code computes them
  abbrev first64 : ℤ
  first64 = as64 (as64 (pos 1024 *ℤ as64 a) -ℤ as64 (pos 512 *ℤ as64 b))

  abbrev last64 : ℤ
  last64 = as64 (pos 887 *ℤ as64 d)

  first_kept : first64 ≡ x -ℤ y
  first_kept =
      rw (kept a (omega arith), kept b (omega arith), kept x (omega (arith, x_size)), kept y (omega (arith, y_size)))
      (kept (x -ℤ y) (omega (arith, first_size)))

  last_kept : last64 ≡ z
  last_kept = rw (kept d (omega arith)) (kept z (omega (arith, z_size)))

  pub less_is : first64 -ℤ last64 ≡ (x -ℤ y) -ℤ z
  less_is = (λ i. first_kept i -ℤ last_kept i)

  pub more_is : first64 +ℤ last64 ≡ (x -ℤ y) +ℤ z
  more_is = (λ i. first_kept i +ℤ last_kept i)

  pub less_fits : FitsSigned w64 (first64 -ℤ last64)
  less_fits = rw less_is (omega (arith, ints, less_size))

  pub more_fits : FitsSigned w64 (first64 +ℤ last64)
  more_fits = rw more_is (omega (arith, ints, more_size))

  pub less_kept : as64 (first64 -ℤ last64) ≡ (x -ℤ y) -ℤ z
  less_kept = rw less_is (kept _ (omega (arith, less_size)))

  pub more_kept : as64 (first64 +ℤ last64) ≡ (x -ℤ y) +ℤ z
  more_kept = rw more_is (kept _ (omega (arith, more_size)))

-- both parts, as the code computes them
module _ (a_re a_im both_re both_im apart_re apart_im : ℤ) (ha : IsWithin 34 (record { re = a_re; im = a_im }))
    (hb : IsWithin 35 (record { re = both_re; im = both_im })) (hd : IsWithin 35 (record { re = apart_re; im = apart_im })) where
  abbrev computed : Point
  computed = point64 (first64 a_re both_re apart_im ha.0 hb.0 hd.1 -ℤ last64 a_re both_re apart_im ha.0 hb.0 hd.1)
      (first64 a_im both_im apart_re ha.1 hb.1 hd.0 +ℤ last64 a_im both_im apart_re ha.1 hb.1 hd.0)

  pub combined_kept : computed ≡ combined (record { re = a_re; im = a_im }) (record { re = both_re; im = both_im }) (record { re = apart_re; im = apart_im })
  combined_kept = same_point _ _ (less_kept a_re both_re apart_im ha.0 hb.0 hd.1) (more_kept a_im both_im apart_re ha.1 hb.1 hd.0)

  pub combined_size : IsWithin 46 computed
  combined_size = (
    rw (less_kept a_re both_re apart_im ha.0 hb.0 hd.1) (less_size a_re both_re apart_im ha.0 hb.0 hd.1),
    rw (more_kept a_im both_im apart_re ha.1 hb.1 hd.0) (more_size a_im both_im apart_re ha.1 hb.1 hd.0),
  )

  pub combined_fits : IsWithin 47 computed
  combined_fits = let size = combined_size in (omega (arith, size.0), omega (arith, size.1))

-- a difference of phasors of three phases
pub IsWithin-minus : (p q : Point) → IsWithin 34 p → IsWithin 34 q → IsWithin 35 (minus p q)
IsWithin-minus p q hp hq = (omega (arith, unsigned_abs-sub p.re q.re, hp.0, hq.0), omega (arith, unsigned_abs-sub p.im q.im, hp.1, hq.1))

-- the negative sequence goes by the sum and the difference of b and c
pub combined_is : (a b c : Point) → combined a (plus b c) (minus b c) ≡ negative_sequence (a ∷ b ∷ c ∷ [])
combined_is a b c = same_point _ _ re im
  where
    re : (pos 1024 *ℤ a.re -ℤ pos 512 *ℤ (b.re +ℤ c.re)) -ℤ pos 887 *ℤ (b.im -ℤ c.im)
        ≡ (pos 1024 *ℤ a.re +ℤ (negsuc 511 *ℤ b.re -ℤ pos 887 *ℤ b.im)) +ℤ (negsuc 511 *ℤ c.re -ℤ negsuc 886 *ℤ c.im)
    re = omega (arith, ints)

    im : (pos 1024 *ℤ a.im -ℤ pos 512 *ℤ (b.im +ℤ c.im)) +ℤ pos 887 *ℤ (b.re -ℤ c.re)
        ≡ (pos 1024 *ℤ a.im +ℤ (negsuc 511 *ℤ b.im +ℤ pos 887 *ℤ b.re)) +ℤ (negsuc 511 *ℤ c.im +ℤ negsuc 886 *ℤ c.re)
    im = omega (arith, ints)

-- three sums, read one by one
pub three_read : (sums : List Point) (d e f : Point) → length sums ≡ 3 → get_or sums 0 d ∷ get_or sums 1 e ∷ get_or sums 2 f ∷ [] ≡ sums
three_read [] d e f three = absurd (omega arith)
three_read (x ∷ []) d e f three = absurd (omega arith)
three_read (x ∷ y ∷ []) d e f three = absurd (omega arith)
three_read (x ∷ y ∷ z ∷ []) d e f three = refl
three_read (x ∷ y ∷ z ∷ u ∷ more) d e f three = absurd (omega arith)
