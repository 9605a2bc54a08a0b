-- A wave's values as the code computes them.
use Rattle.std.specs.Prelude.{◌≡◌, ◌≤◌, ◌^◌, ◌*◌, ℕ, ℤ, pos, negsuc, ◌≤ℤ◌, ◌*ℤ◌, int_div, unsigned_abs}
use Rattle.std.proofs.Common.{arith, to_z, of_z, w16, w64, FitsSigned}
use Rattle.std.proofs.lemmas.Int.{ints, fits_signed_mul, to_z-of_z, unsigned_abs-mul}

-- a quotient by the scale
scaled_small : (x : ℤ) (m : ℕ) → unsigned_abs x ≤ m * 16384 → unsigned_abs (int_div x (pos 16384)) ≤ m
scaled_small (pos n) m small = omega (arith, ints)
scaled_small (negsuc n) m small = omega (arith, ints)

-- an amplitude times a cosine, divided by the scale, is no greater than the amplitude
pub wave_small : (a f : ℤ) → unsigned_abs f ≤ 2 ^ 14 → unsigned_abs (int_div (a *ℤ f) (pos 16384)) ≤ unsigned_abs a
wave_small a f small = scaled_small (a *ℤ f) (unsigned_abs a) (rw (unsigned_abs-mul a f) (grind arith))

-- it is computed as it is
pub wave_kept : (a f n g : ℤ) → n ≡ to_z w16 (of_z w16 a) → g ≡ f → pos 0 ≤ℤ a → FitsSigned w16 a → unsigned_abs f ≤ 2 ^ 14
    → to_z w16 (of_z w16 (to_z w64 (of_z w64 (int_div (to_z w64 (of_z w64 (to_z w64 (of_z w64 n) *ℤ to_z w64 (of_z w64 g)))) (pos 16384))))) ≡ int_div (a *ℤ f) (pos 16384)
wave_kept a f n g n_is g_is positive fits small =
    let a_is : to_z w64 (of_z w64 n) ≡ a = rw (n_is, to_z-of_z w16 a fits) (omega (arith, ints)) in
    let f_is : to_z w64 (of_z w64 g) ≡ f = rw g_is (omega (arith, ints)) in
    let size : unsigned_abs a ≤ 32767 = omega (arith, ints) in
    let product : FitsSigned w64 (a *ℤ f) = fits_signed_mul w64 a f 32767 16384 size small (omega arith) in
    rw (a_is, f_is, to_z-of_z w64 (a *ℤ f) product) (kept (int_div (a *ℤ f) (pos 16384)) (omega (arith, wave_small a f small, size)))
  where
    kept : (q : ℤ) → unsigned_abs q ≤ 32767 → to_z w16 (of_z w16 (to_z w64 (of_z w64 q))) ≡ q
    kept q q_small = omega (arith, ints)
