-- The message that began, found by its number where the numbers rise.
use Rattle.std.specs.Prelude.{find, HoldsAt}
use Rattle.std.specs.List.Sorted.{IsBinarySearchResult, IsNonDecreasingBy}
use Rattle.std.specs.Ordering.{nat_cmp, ordering_index}
use Rattle.std.proofs.Common.{◌≡◌, ◌≢◌, ℕ, zero, suc, ◌+◌, ◌<◌, Bool, true, false, List, [], ◌∷◌, All, None, Some, Err, Equal, get_or, length, take, inl, inr, refl, ap, sym, ◌∙◌, arith}
use Rattle.std.proofs.lemmas.Bool.{cases_Bool, cases_lt}
use Rattle.std.proofs.lemmas.Bool.Decides.{nat_tests}
use Rattle.std.proofs.lemmas.Cmp.{ranked}
use Rattle.std.proofs.lemmas.List.{get_or_default}
use Rattle.ld_base.specs.Message.{Contents}
use Rattle.line_journal.specs.Crossings.{is_same}
use Rattle.line_journal.specs.LineHistory.{AreRising}
use Rattle.line_journal.specs.declared.crossing.Beginning.{Beginning}

-- messages that say the same have one number
pub is_same-number : (one other : Contents) → one.number ≢ other.number → is_same one other ≡ false
is_same-number one other differ = grind (arith, nat_tests)

-- nothing is found where nothing passes
pub find-none : {A : Type 0} (test : A → Bool) (xs : List A) → All (λ x. test x ≡ false) xs → find test xs ≡ None
find-none test [] fail = refl
find-none test (x ∷ xs) fail =
    let here : test x ≡ false = fail 0 x (omega arith) in
    rw here (find-none test xs (λ k d inside. fail (suc k) d (omega (arith, inside))))

-- the first that passes, behind others that fail, and one that fails
pub find-first : {A : Type 0} (test : A → Bool) (xs : List A) (i : ℕ) (d : A) → i < length xs → find test (take i xs) ≡ None → test (get_or xs i d) ≡ true
    → find test xs ≡ Some (get_or xs i d)
find-first test [] i d inside none passes = absurd (omega (arith, inside))
find-first test (x ∷ xs) zero d inside none passes = rw passes refl
find-first test (x ∷ xs) (suc i) d inside none passes = elim (cases_Bool (test x)) [
  | inl hit ↦ absurd (let here = rw hit at none in cc)
  | inr missed ↦ rw missed (find-first test xs i d (omega (arith, inside)) (rw missed at none) passes)
]

find-one-further : {A : Type 0} (test : A → Bool) (xs : List A) (i : ℕ) (d : A) → i < length xs → find test (take i xs) ≡ None → test (get_or xs i d) ≡ false
    → find test (take (suc i) xs) ≡ None
find-one-further test [] i d inside none fails = absurd (omega (arith, inside))
find-one-further test (x ∷ xs) zero d inside none fails = rw fails refl
find-one-further test (x ∷ xs) (suc i) d inside none fails = elim (cases_Bool (test x)) [
  | inl hit ↦ absurd (let here = rw hit at none in cc)
  | inr missed ↦ rw missed (find-one-further test xs i d (omega (arith, inside)) (rw missed at none) fails)
]

pub find-further : {A : Type 0} (test : A → Bool) (xs : List A) (i : ℕ) (d : A) → i < length xs → find test (take i xs) ≡ None → test (get_or xs i d) ≡ false
    → find test (take (i + 1) xs) ≡ None
find-further test xs i d inside none fails =
    let next : i + 1 ≡ suc i = omega arith in
    ap (λ n. find test (take n xs)) next ∙ find-one-further test xs i d inside none fails

-- below a place, where each fails
pub find-below : {A : Type 0} (test : A → Bool) (xs : List A) (i : ℕ) → ((k : ℕ) (d : A) → k < i → k < length xs → test (get_or xs k d) ≡ false) → find test (take i xs) ≡ None
find-below test [] zero fail = refl
find-below test [] (suc i) fail = refl
find-below test (x ∷ xs) zero fail = refl
find-below test (x ∷ xs) (suc i) fail =
    let here : test x ≡ false = fail 0 x (omega arith) (omega arith) in
    rw here (find-below test xs i (λ k d below inside. fail (suc k) d (omega (arith, below)) (omega (arith, inside))))

module _ (m : Contents) (begun : List Beginning) (rising : AreRising begun) (number : ℕ) (is : number ≡ m.number) where
  abbrev says : Beginning → Bool
  says b = is_same m b.message

  numbered : (b : Beginning) → nat_cmp b.message.number number ≡ Equal → b.message.number ≡ number
  numbered b equal = ranked b.message.number number _ (sym equal)

  below-differs : (i : ℕ) (d : Beginning) → i < length begun → (get_or begun i d).message.number ≡ number
      → (k : ℕ) (e : Beginning) → k < i → k < length begun → says (get_or begun k e) ≡ false
  below-differs i d inside here k e below within =
      let less = rising k i e below inside in
      let same : get_or begun i e ≡ get_or begun i d = get_or_default begun i e d inside in
      let is_here : (get_or begun i e).message.number ≡ number = ap (λ b. b.message.number) same ∙ here in
      is_same-number m (get_or begun k e).message (λ alike. omega (arith, less, is_here, is, alike))

  above-differs : (i : ℕ) (d : Beginning) → i < length begun → (get_or begun i d).message.number ≡ number
      → (k : ℕ) (e : Beginning) → i < k → k < length begun → says (get_or begun k e) ≡ false
  above-differs i d inside here k e above within =
      let less = rising i k e above within in
      let same : get_or begun i e ≡ get_or begun i d = get_or_default begun i e d inside in
      let is_here : (get_or begun i e).message.number ≡ number = ap (λ b. b.message.number) same ∙ here in
      is_same-number m (get_or begun k e).message (λ alike. omega (arith, less, is_here, is, alike))

  -- where a number stands, its message is found, or none
  pub found-at : (i : ℕ) (b : Beginning) → i < length begun → HoldsAt (λ y. nat_cmp y.message.number number ≡ Equal) begun i → b ≡ get_or begun i b
      → says b ≡ true → find says begun ≡ Some b
  found-at i b inside equal is_b same =
      let here = numbered (get_or begun i b) (equal b) in
      find-first says begun i b inside (find-below says begun i (below-differs i b inside here)) (ap says (sym is_b) ∙ same) ∙ ap (λ x. Some x) (sym is_b)

  pub missed-at : (i : ℕ) (b : Beginning) → i < length begun → HoldsAt (λ y. nat_cmp y.message.number number ≡ Equal) begun i → b ≡ get_or begun i b
      → says b ≡ false → find says begun ≡ None
  missed-at i b inside equal is_b other =
      let here = numbered (get_or begun i b) (equal b) in
      find-none says begun (λ k d within. elim (cases_lt k i) [
        | inl below ↦ below-differs i b inside here k d below within
        | inr not_below ↦ elim (cases_lt i k) [
          | inl above ↦ above-differs i b inside here k d above within
          | inr not_above ↦
              let at : k ≡ i = omega arith in
              let same : get_or begun k d ≡ b = ap (λ j. get_or begun j d) at ∙ get_or_default begun i d b inside ∙ sym is_b in
              ap says same ∙ other
        ]
      ])

  numbers_rise : IsNonDecreasingBy (λ b. ordering_index (nat_cmp b.message.number number)) begun
  numbers_rise i j d order inside = elim (cases_lt i j) [
    | inl below ↦ let less = rising i j d below inside in grind (arith, nat_tests)
    | inr not_below ↦ let same : i ≡ j = omega arith in rw same (omega arith)
  ]

  -- where no place has the number, none is found
  pub missed : (i : ℕ) → IsBinarySearchResult (λ b. nat_cmp b.message.number number) begun (Err i) → find says begun ≡ None
  missed i parted = find-none says begun (λ k d within. elim (cases_lt k i) [
    | inl below ↦
        let less : (get_or begun k d).message.number < number = ranked _ number _ (sym ((parted numbers_rise).0 k d (omega arith) below)) in
        is_same-number m (get_or begun k d).message (λ alike. omega (arith, less, is, alike))
    | inr not_below ↦
        let more : number < (get_or begun k d).message.number = ranked _ number _ (sym ((parted numbers_rise).1 k d (omega arith) within)) in
        is_same-number m (get_or begun k d).message (λ alike. omega (arith, more, is, alike))
  ])
