-- The counts of samples that a cycle may have.
use Rattle.std.specs.Prelude.{◌≡◌, ◌≢◌, ◌<◌, ◌≤◌, ℕ, true}
use Rattle.std.proofs.Common.{arith, subst, sym, inl, inr}
use Rattle.std.proofs.lemmas.Bool.{cases_eq}
use Rattle.std.proofs.lemmas.Bool.Decides.{nat_tests}
use Rattle.ld_base.specs.Settings.{is_cycle}

-- a cycle has a sample
pub cycle_positive : (c : ℕ) → is_cycle c ≡ true → 0 < c
cycle_positive c h = grind (arith, nat_tests)

-- a cycle has at most 20 samples
pub cycle_short : (c : ℕ) → is_cycle c ≡ true → c ≤ 20
cycle_short c h = grind (arith, nat_tests)

-- the last of the five counts
pub cycle_last : (c : ℕ) → is_cycle c ≡ true → c ≢ 4 → c ≢ 8 → c ≢ 12 → c ≢ 16 → c ≡ 20
cycle_last c h n4 n8 n12 n16 = grind (arith, nat_tests)

-- what holds of each of the five counts, holds of a cycle
pub cycle_cases : (P : ℕ → Type 0) (c : ℕ) → is_cycle c ≡ true → P 4 → P 8 → P 12 → P 16 → P 20 → P c
cycle_cases P c h p4 p8 p12 p16 p20 = elim (cases_eq c 4) [
  | inl is ↦ subst P (sym is) p4
  | inr n4 ↦ elim (cases_eq c 8) [
    | inl is ↦ subst P (sym is) p8
    | inr n8 ↦ elim (cases_eq c 12) [
      | inl is ↦ subst P (sym is) p12
      | inr n12 ↦ elim (cases_eq c 16) [
        | inl is ↦ subst P (sym is) p16
        | inr n16 ↦ subst P (sym (cycle_last c h n4 n8 n12 n16)) p20
      ]
    ]
  ]
]
