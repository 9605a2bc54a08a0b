-- The entries of the table of remainders.
use Rattle.std.proofs.Common.{◌≡◌, ℕ, zero, suc, ◌+◌, ◌*◌, ◌^◌, ◌<◌, Bool, true, ◌&&◌, eqb, List, [], ◌∷◌, length, get_or, refl, sym, subst, arith}
use Rattle.std.proofs.lemmas.Bool.{and_parts, eqb-true}
use Rattle.message_check.specs.Check.{divisor}
use Rattle.message_check.specs.Polynomials.{IsRemainder, remainder}
use Rattle.message_check.specs.declared.table.TheConstants.{REMAINDERS}
use Rattle.message_check.proofs.Remainders.{remainder-is}

-- the remainder of a byte times x^32
abbrev remainder_of : ℕ → ℕ
remainder_of byte = remainder 32 divisor 8 (byte * 2 ^ 32)

-- whether these are the remainders of t, t + 1 and so on
are_remainders : (ℕ → ℕ) → ℕ → List ℕ → Bool
are_remainders of t [] = true
are_remainders of t (r ∷ rs) = eqb r (of t) && are_remainders of (t + 1) rs

are_remainders-at : (of : ℕ → ℕ) (t : ℕ) (rs : List ℕ) (i n : ℕ) → are_remainders of t rs ≡ true → i < length rs → n ≡ t + i
    → get_or rs i 0 ≡ of n
unfolding are_remainders
are_remainders-at of t [] i n h lt e = absurd (omega arith)
are_remainders-at of t (r ∷ rs) zero n h lt e =
    let same : t ≡ n = omega arith in
    subst (λ k. r ≡ of k) same (eqb-true r (of t) (and_parts (eqb r (of t)) (are_remainders of (t + 1) rs) h).0)
are_remainders-at of t (r ∷ rs) (suc i) n h lt e =
    are_remainders-at of (t + 1) rs i n (and_parts (eqb r (of t)) (are_remainders of (t + 1) rs) h).1 (omega arith) (omega arith)

-- by computation
REMAINDERS-are : are_remainders remainder_of 0 REMAINDERS ≡ true
unfolding are_remainders remainder
REMAINDERS-are = refl

-- the table has the remainder of each byte times x^32
pub REMAINDERS-at : (byte i : ℕ) → i ≡ byte → byte < 256 → IsRemainder 32 divisor (byte * 2 ^ 32) (get_or REMAINDERS i 0)
REMAINDERS-at byte i e lt =
    let entry = are_remainders-at remainder_of 0 REMAINDERS i byte REMAINDERS-are (omega arith) (omega arith) in
    subst (IsRemainder 32 divisor (byte * 2 ^ 32)) (sym entry) (remainder-is 32 divisor (omega arith) (omega arith) 8 (byte * 2 ^ 32) (omega arith))
