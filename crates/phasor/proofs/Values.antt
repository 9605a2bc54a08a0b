-- Products and sums as the code computes them.
use Rattle.std.specs.Prelude.{◌≡◌, ◌≤◌, ◌^◌, ℤ, ◌+ℤ◌, ◌-ℤ◌, ◌*ℤ◌, unsigned_abs}
use Rattle.std.proofs.Common.{arith, to_z, of_z, w16, w32, w64, FitsSigned, ap, ◌∙◌}
use Rattle.std.proofs.lemmas.Int.{ints, to_z-of_z, unsigned_abs-mul}

-- the size of a product
pub product_small : (v f : ℤ) → unsigned_abs v ≤ 2 ^ 15 → unsigned_abs f ≤ 2 ^ 14 → unsigned_abs (v *ℤ f) ≤ 2 ^ 29
product_small v f hv hf = rw (unsigned_abs-mul v f) (grind arith)

-- a sum of 64 bits that a difference of samples changes by a factor, as the code computes it
module _ (s new old f n o p : ℤ) (n_is : n ≡ to_z w16 (of_z w16 new)) (o_is : o ≡ to_z w16 (of_z w16 old))
    (p_is : p ≡ to_z w32 (of_z w32 (to_z w32 (of_z w32 n) -ℤ to_z w32 (of_z w32 o))) *ℤ to_z w64 (of_z w64 f))
    (new_fits : FitsSigned w16 new) (old_fits : FitsSigned w16 old) (f_small : unsigned_abs f ≤ 2 ^ 14) (p_small : unsigned_abs p ≤ 2 ^ 30)
    (s_small : unsigned_abs s ≤ 2 ^ 34) where
  difference_kept : to_z w32 (of_z w32 (to_z w32 (of_z w32 n) -ℤ to_z w32 (of_z w32 o))) ≡ new -ℤ old
  difference_kept = rw (n_is, o_is) (omega (arith, ints))

  product_is : p ≡ (new -ℤ old) *ℤ f
  product_is =
      let f_fits : FitsSigned w64 f = omega (arith, ints) in
      rw (difference_kept, to_z-of_z w64 f f_fits) at p_is

  pub changed_kept : to_z w64 (of_z w64 (to_z w64 (of_z w64 s) +ℤ to_z w64 (of_z w64 p))) ≡ s +ℤ (new -ℤ old) *ℤ f
  changed_kept =
      let kept : to_z w64 (of_z w64 (to_z w64 (of_z w64 s) +ℤ to_z w64 (of_z w64 p))) ≡ s +ℤ p = omega (arith, ints) in
      kept ∙ ap (λ q. s +ℤ q) product_is
