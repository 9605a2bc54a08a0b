use Rattle.std.proofs.Common.{◌-◌, ◌/◌, ◌≤◌, ℕ, zero, suc, [], ◌∷◌, arith, slice_index}
use Rattle.recording.proofs.tests.entry.Goals as goal

-- one of three phases, or none
one_of : (a b c k : ℕ) → a / 1000000 ≤ 2000000000000 → b / 1000000 ≤ 2000000000000 → c / 1000000 ≤ 2000000000000
    → slice_index (a ∷ b ∷ c ∷ []) k / 1000000 ≤ 2000000000000
one_of a b c zero p q r = p
one_of a b c (suc zero) p q r = q
one_of a b c (suc (suc zero)) p q r = r
one_of a b c (suc (suc (suc k))) p q r = omega arith

pub returns : goal.returns
returns c = λ me. one_of _ _ _ (me - 1) (omega arith) (omega arith) (omega arith)
