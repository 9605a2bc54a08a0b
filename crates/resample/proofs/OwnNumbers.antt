-- The own number is the last one before the peer's next sample, and so the one between both; its distance is a weight.
use Rattle.std.specs.Prelude.{ℤ, pos, negsuc, ◌-ℤ◌, ◌+ℤ◌, ◌≤ℤ◌, unsigned_abs, nat_lt, true, Some}
use Rattle.std.specs.Int.{FitsUnsignedBits}
use Rattle.std.specs.Result.{OkIff, result_ok}
use Rattle.std.proofs.Common.{◌≡◌, ℕ, ◌+◌, ◌*◌, ◌^◌, ◌<◌, ◌≤◌, Result, Ok, Err, inl, inr, refl, ap, arith}
use Rattle.std.proofs.lemmas.Bool.{cases_Bool}
use Rattle.std.proofs.lemmas.Bool.Decides.{nat_tests}
use Rattle.std.proofs.lemmas.Int.{ints}
use Rattle.std.specs.Int.Signed.{≤ℤ_refl}
use Rattle.resample.specs.Between.{IsBetween, own_number, sample_number, weight}
use Rattle.resample.specs.Quotient.{IsRoundedDown}
use Rattle.resample.proofs.Quotients.{IsRoundedDown-div, IsRoundedDown-alone}

abbrev before_next : ℕ → ℕ → ℤ → ℤ
before_next spacing first e = (pos (2 * (first + 1) * spacing) -ℤ e) -ℤ pos 1

pub IsBetween-rounded : (spacing first : ℕ) (e n : ℤ) → IsRoundedDown (before_next spacing first e) (2 * spacing) n → IsBetween spacing first e n
IsBetween-rounded spacing first e n down = record { behind = omega (arith, ints); before = omega (arith, ints) }

rounded-IsBetween : (spacing first : ℕ) (e n : ℤ) → IsBetween spacing first e n → IsRoundedDown (before_next spacing first e) (2 * spacing) n
rounded-IsBetween spacing first e n is = record { reached = omega (arith, ints); below = omega (arith, ints) }

pub IsBetween-own_number : (spacing first : ℕ) (e : ℤ) → 0 < spacing → IsBetween spacing first e (own_number spacing first e)
IsBetween-own_number spacing first e some =
    IsBetween-rounded spacing first e (own_number spacing first e) (IsRoundedDown-div (before_next spacing first e) (2 * spacing) (omega arith))

pub IsBetween-alone : (spacing first : ℕ) (e n : ℤ) → 0 < spacing → IsBetween spacing first e n → n ≡ own_number spacing first e
IsBetween-alone spacing first e n some is =
    IsRoundedDown-alone (before_next spacing first e) (2 * spacing) n (own_number spacing first e) (omega arith) (rounded-IsBetween spacing first e n is)
    (IsRoundedDown-div (before_next spacing first e) (2 * spacing) (omega arith))

-- the distance is never negative, and less than that of the peer's samples
pub weight-distance : (spacing first : ℕ) (e : ℤ) (n : ℕ) → IsBetween spacing first e (pos n)
    → pos (weight spacing first e n) ≡ (pos (2 * n * spacing) -ℤ pos (2 * first * spacing)) +ℤ e
weight-distance spacing first e n is = omega (arith, ints)

pub weight-below : (spacing first : ℕ) (e : ℤ) (n : ℕ) → IsBetween spacing first e (pos n) → weight spacing first e n < 2 * spacing
weight-below spacing first e n is = omega (arith, ints)

-- the distance as a number of 64 bits with a sign
pub record IsShort (z : ℤ) (w : ℕ) : Type 0 where
  pub since : pos w ≤ℤ z
  pub until : z ≤ℤ pos w
  pub short : w < 20000

pub weight-short : (spacing first : ℕ) (e : ℤ) (n own behind : ℕ) → spacing ≤ 10000 → IsBetween spacing first e (pos n) → own ≡ 2 * n * spacing
    → behind ≡ 2 * first * spacing → IsShort ((pos own -ℤ pos behind) +ℤ e) (weight spacing first e n)
weight-short spacing first e n own behind small is is_own is_behind =
    let below = weight-below spacing first e n is in
    let distance = weight-distance spacing first e n is in
    rw (is_own, is_behind, ← distance) (record { since = ≤ℤ_refl (pos (weight spacing first e n)); until = ≤ℤ_refl (pos (weight spacing first e n)); short = omega arith })

-- a number that is one of a sample
pub sample_number-some : (n : ℤ) (x : ℕ) → sample_number n ≡ Some x → n ≡ pos x
sample_number-some (negsuc n) x is = absurd (cc)
sample_number-some (pos n) x is = elim (cases_Bool (nat_lt n (2 ^ 32))) [
  | inl inside ↦ let told = rw inside at is in let same : n ≡ x = cc in ap pos same
  | inr outside ↦ let none = rw outside at is in absurd (cc)
]

-- the same as a conversion tells
pub sample_number-read : {E : Type 0} (n : ℤ) (r : Result ℕ E) → OkIff r (FitsUnsignedBits 32 n) (unsigned_abs n) → result_ok r ≡ sample_number n
sample_number-read (pos n) (Ok x) is =
    let small = is.0 in
    let inside : nat_lt n (2 ^ 32) ≡ true = grind (arith, nat_tests) in
    rw inside (ap Some is.1)
sample_number-read (pos n) (Err e) fails = elim (cases_Bool (nat_lt n (2 ^ 32))) [
  | inl inside ↦ absurd (fails (grind (arith, nat_tests)))
  | inr outside ↦ rw outside refl
]
sample_number-read (negsuc n) (Ok x) is = absurd is.0
sample_number-read (negsuc n) (Err e) fails = refl
