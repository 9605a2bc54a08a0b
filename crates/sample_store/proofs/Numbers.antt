-- Values by number: a look-up with one value more, and the numbers that are above all.
use Rattle.std.specs.Prelude.{Some, None, ◌==◌}
use Rattle.std.proofs.Common.{◌≡◌, ◌≢◌, ℕ, ◌+◌, ◌*◌, ◌%◌, ◌<◌, ◌≤◌, true, false, List, [], ◌∷◌, ◌++◌, inl, inr, refl, sym, ◌∙◌, arith}
use Rattle.std.proofs.lemmas.Bool.{cases_eq, cases_Bool}
use Rattle.std.proofs.lemmas.Bool.Decides.{nat_tests}
use Rattle.ld_base.specs.declared.phases.Phases.{Phases}
use Rattle.sample_store.specs.Offers.{numbered, next_number}
use Rattle.sample_store.specs.Stock.{held_at, Puts}
use Rattle.sample_store.specs.declared.ring.Numbered.{Numbered}
use Rattle.sample_store.specs.declared.ring.Ring.{Ring}

pub test_same : (n : ℕ) → (n == n) ≡ true
test_same n = grind (arith, nat_tests)

pub test_other : (m n : ℕ) → m ≢ n → (m == n) ≡ false
test_other m n differ = grind (arith, nat_tests)

pub numbered-same : (xs : List Numbered) (n : ℕ) (values : Phases) → numbered n xs ≡ None
    → numbered n (xs ++ record { number = n; values = values } ∷ []) ≡ Some values
numbered-same [] n values none = rw (test_same n) refl
numbered-same (x ∷ xs) n values none = elim (cases_Bool (x.number == n)) [
  | inl hit ↦ let found = rw hit at none in absurd (cc)
  | inr missed ↦ rw missed (numbered-same xs n values (rw missed at none))
]

pub numbered-other : (xs : List Numbered) (n k : ℕ) (values : Phases) → n ≢ k
    → numbered k (xs ++ record { number = n; values = values } ∷ []) ≡ numbered k xs
numbered-other [] n k values differ = rw (test_other n k differ) refl
numbered-other (x ∷ xs) n k values differ = elim (cases_Bool (x.number == k)) [
  | inl hit ↦ rw hit refl
  | inr missed ↦ rw missed (numbered-other xs n k values differ)
]

pub next_number-push : (xs : List Numbered) (n : ℕ) (values : Phases) → next_number xs ≤ n
    → next_number (xs ++ record { number = n; values = values } ∷ []) ≡ n + 1
next_number-push [] n values above = omega arith
next_number-push (x ∷ xs) n values above = rw (next_number-push xs n values (omega arith)) (omega arith)

pub numbered-above : (xs : List Numbered) (n : ℕ) → next_number xs ≤ n → numbered n xs ≡ None
numbered-above [] n above = refl
numbered-above (x ∷ xs) n above =
    let missed : (x.number == n) ≡ false = test_other x.number n (λ same. omega arith) in
    rw missed (numbered-above xs n (omega arith))

-- a ring after a value was put, by what it held before. Only a value that is too old is driven out
pub held-push : (old new : Ring) (xs : List Numbered) (n : ℕ) (values : Phases) (spacing limit before now : ℕ) → Puts old new n values → before ≤ now
    → ((k : ℕ) → before < k * spacing + limit → held_at old k ≡ numbered k xs) → numbered n xs ≡ None
    → ((k : ℕ) → k ≢ n → k % 64 ≡ n % 64 → now < k * spacing + limit → numbered k xs ≡ None)
    → (k : ℕ) → now < k * spacing + limit → held_at new k ≡ numbered k (xs ++ record { number = n; values = values } ∷ [])
held-push old new xs n values spacing limit before now puts later held none out k young = elim (cases_eq k n) [
  | inl same ↦ rw same (puts.here ∙ sym (numbered-same xs n values none))
  | inr differ ↦
      let other = numbered-other xs n k values (λ same. differ (sym same)) in
      elim (cases_eq (k % 64) (n % 64)) [
        | inl place ↦ puts.out k differ place ∙ sym (other ∙ out k differ place young)
        | inr places ↦ puts.others k places ∙ held k (omega arith) ∙ sym other
      ]
]
