-- Values for each of three stations or phases.
use Rattle.std.proofs.Common.{◌≡◌, ℕ, zero, suc, ◌<◌, slice_index_or, refl, arith}
use Rattle.phasor.specs.Sum.{of_three}

-- the value of one of the three
pub of_three_at : {A : Type 0} (value : ℕ → A) (at : ℕ) (d : A) → at < 3 → slice_index_or (of_three value) at d ≡ value at
of_three_at value zero d within = refl
of_three_at value (suc zero) d within = refl
of_three_at value (suc (suc zero)) d within = refl
of_three_at value (suc (suc (suc at))) d within = absurd (omega arith)
