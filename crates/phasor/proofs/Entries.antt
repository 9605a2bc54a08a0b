-- The entries of the phasor tables, and their sizes.
use Rattle.std.specs.Prelude.{◌≡◌, ◌≤◌, ◌<◌, ◌^◌, ◌-◌, ◌+◌, ◌/◌, ◌%◌, ◌==◌, nat_le, Bool, ℕ, zero, suc, ℤ, pos, neg_ℤ, unsigned_abs, List, [], ◌∷◌, length, slice_index_or, true}
use Rattle.std.specs.List.{list_all}
use Rattle.std.proofs.Common.{arith, refl, to_z, of_z, w64, FitsSigned}
use Rattle.std.proofs.lemmas.Bool.{cond_both, and_parts, leb-true}
use Rattle.std.proofs.lemmas.Int.{ints, to_z-of_z}
use Rattle.std.proofs.lemmas.List.FromFn.{length-map-range_with_len, get_or-map-range_with_len}
use Rattle.phasor.specs.Factors.{quarter, half, cosine, sine, factor}
use Rattle.phasor.specs.Point.{IsWithin}
use Rattle.phasor.specs.Sizes.{factor_bits}
use Rattle.phasor.specs.Tables.{cosines_of}
use Rattle.phasor.proofs.Cycles.{cycle_positive}
use Rattle.ld_base.specs.Settings.{is_cycle}

-- at most 16384 either way
abbrev IsSmall : ℤ → Type 0
IsSmall z = unsigned_abs z ≤ 2 ^ 14

neg_small : (z : ℤ) → IsSmall z → IsSmall (neg_ℤ z)
neg_small z h = omega (arith, ints)

-- whether each number of a list is small
abbrev are_small : List ℤ → Bool
are_small zs = list_all (λ z. nat_le (unsigned_abs z) (2 ^ 14)) zs

small_at : (zs : List ℤ) (k : ℕ) → are_small zs ≡ true → IsSmall (slice_index_or zs k (pos 0))
small_at [] k h = omega arith
small_at (z ∷ zs) zero h = leb-true _ _ (and_parts _ _ h).0
small_at (z ∷ zs) (suc k) h = small_at zs k (and_parts _ _ h).1

quarters_small : (c : ℕ) → are_small (quarter c) ≡ true
quarters_small c =
    cond_both (c == 4) _ _ (λ zs. are_small zs ≡ true) (λ _. refl)
    (λ _. cond_both (c == 8) _ _ (λ zs. are_small zs ≡ true) (λ _. refl)
    (λ _. cond_both (c == 12) _ _ (λ zs. are_small zs ≡ true) (λ _. refl)
    (λ _. cond_both (c == 16) _ _ (λ zs. are_small zs ≡ true) (λ _. refl) (λ _. refl))))

quarter_small : (c k : ℕ) → IsSmall (slice_index_or (quarter c) k (pos 0))
quarter_small c k = small_at (quarter c) k (quarters_small c)

half_small : (c k : ℕ) → IsSmall (half c k)
half_small c k =
    cond_both (nat_le k (c / 4)) _ _ IsSmall (λ _. quarter_small c k) (λ _. neg_small _ (quarter_small c (c / 2 - k)))

-- no cosine is above 16384 either way
pub cosine_small : (c k : ℕ) → unsigned_abs (cosine c k) ≤ 2 ^ 14
unfolding cosine
cosine_small c k = cond_both (nat_le k (c / 2)) _ _ IsSmall (λ _. half_small c k) (λ _. half_small c (c - k))

-- nor any sine
pub sine_small : (c k : ℕ) → unsigned_abs (sine c k) ≤ 2 ^ 14
unfolding sine
sine_small c k = cosine_small c ((k + c - c / 4) % c)

-- a factor lies within 16384
pub IsWithin-factor : (c k : ℕ) → IsWithin factor_bits (factor c k)
IsWithin-factor c k = (cosine_small c (k % c), sine_small c (k % c))

-- a table has an entry for each place
pub length-cosines_of : (c : ℕ) → length (cosines_of c) ≡ c
length-cosines_of c = length-map-range_with_len _ 0 c

-- the cosine of a place is the entry there
pub get_or-cosines_of : (c k : ℕ) (d : ℤ) → k < c → slice_index_or (cosines_of c) k d ≡ cosine c k
get_or-cosines_of c k d h = get_or-map-range_with_len (cosine c) 0 c k k d h (omega arith)

-- a small number of 64 bits is read as it is
kept : (z : ℤ) → unsigned_abs z ≤ 2 ^ 14 → to_z w64 (of_z w64 z) ≡ z
kept z small = let fits : FitsSigned w64 z = omega (arith, ints) in to_z-of_z w64 z fits

-- what is read from a table for a number: the cosine of its place, and its sine a quarter turn before
module _ (c n : ℕ) (cosines : List ℤ) (h : is_cycle c ≡ true) (table : cosines ≡ cosines_of c) where
  entry : (k : ℕ) → k < c → to_z w64 (of_z w64 (slice_index_or (cosines_of c) k (pos 0))) ≡ cosine c k
  entry k within = rw (get_or-cosines_of c k (pos 0) within) (kept (cosine c k) (cosine_small c k))

  pub cosine_read : to_z w64 (of_z w64 (slice_index_or cosines (n % length cosines) (pos 0))) ≡ cosine c (n % c)
  cosine_read =
      let some = cycle_positive c h in
      let within : n % c < c = omega arith in
      rw (table, length-cosines_of c) (entry (n % c) within)

  pub sine_read : to_z w64 (of_z w64 (slice_index_or cosines ((n % length cosines + length cosines - length cosines / 4) % length cosines) (pos 0))) ≡ sine c (n % c)
  unfolding sine
  sine_read =
      let some = cycle_positive c h in
      let within : (n % c + c - c / 4) % c < c = omega arith in
      rw (table, length-cosines_of c) (entry ((n % c + c - c / 4) % c) within)
