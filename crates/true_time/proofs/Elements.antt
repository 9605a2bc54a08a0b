-- Elements of lists that are made of others.
use Rattle.std.specs.Prelude.{AllPairs, Contains, filter, find, reverse, slice_get}
use Rattle.std.specs.List.{flat_map}
use Rattle.std.specs.Option.{option_to_list}
use Rattle.std.proofs.Common.{◌≡◌, ℕ, zero, suc, ◌+◌, Bool, true, false, List, [], ◌∷◌, ◌++◌, length, get_or, map, Option, None, Some, take, inl, inr, refl, ap, subst, ◌∙◌, arith, length-append}
use Rattle.std.proofs.lemmas.List.{get_or-append-add, get_or_append_left, get_or_default, length-map, get_or-map, reverse-append}
use Rattle.std.proofs.lemmas.List.Elements.{Contains-append_cases}

pub none-in : {A : Type 0} (x : A) → Contains [] x → ⊥
none-in x (k, inside, is) = omega (arith, inside)

pub one-in : {A : Type 0} (y x : A) → Contains (y ∷ []) x → y ≡ x
one-in y x (zero, inside, is) = is
one-in y x (suc k, inside, is) = absurd (omega (arith, inside))

pub first-in : {A : Type 0} (x : A) (xs : List A) → Contains (x ∷ xs) x
first-in x xs = (0, omega arith, refl)

pub behind-in : {A : Type 0} (y : A) (xs : List A) (x : A) → Contains xs x → Contains (y ∷ xs) x
behind-in y xs x (k, inside, is) = (suc k, omega (arith, inside), is)

pub option-in : {A : Type 0} (o : Option A) (x : A) → Contains (option_to_list o) x → o ≡ Some x
option-in None x has = absurd (none-in x has)
option-in (Some y) x has = ap (λ z. Some z) (one-in y x has)

-- the first element, or one behind it
pub data InFront {A : Type 0} (y : A) (xs : List A) (x : A) : Type 0 where
  in_first : y ≡ x → InFront y xs x
  in_rest : Contains xs x → InFront y xs x

pub in-front : {A : Type 0} (y : A) (xs : List A) (x : A) → Contains (y ∷ xs) x → InFront y xs x
in-front y xs x (zero, inside, is) = in_first is
in-front y xs x (suc k, inside, is) = in_rest (k, omega (arith, inside), is)

pub in-found : {A : Type 0} (test : A → Bool) (xs : List A) (x : A) → find test xs ≡ Some x → Contains xs x
in-found test [] x found = absurd (cc)
in-found {A = A} test (y ∷ xs) x found = go (test y) refl (in-found test xs x)
  where
    go : (b : Bool) → test y ≡ b → (find test xs ≡ Some x → Contains xs x) → Contains (y ∷ xs) x
    go true hit rest = let here = rw hit at found in let same : y ≡ x = cc in subst (λ z. Contains (y ∷ xs) z) same (first-in y xs)
    go false missed rest = behind-in y xs x (rest (rw missed at found))

pub in-filtered : {A : Type 0} (test : A → Bool) (xs : List A) (x : A) → Contains (filter test xs) x → Contains xs x
in-filtered test [] x has = has
in-filtered test (y ∷ xs) x has = go (test y) refl (in-filtered test xs x)
  where
    go : (b : Bool) → test y ≡ b → (Contains (filter test xs) x → Contains xs x) → Contains (y ∷ xs) x
    go true hit rest = elim (in-front y (filter test xs) x (rw hit at has)) [
      | in_first same ↦ subst (λ z. Contains (y ∷ xs) z) same (first-in y xs)
      | in_rest further ↦ behind-in y xs x (rest further)
    ]
    go false missed rest = behind-in y xs x (rest (rw missed at has))

pub in-taken : {A : Type 0} (n : ℕ) (xs : List A) (x : A) → Contains (take n xs) x → Contains xs x
in-taken zero xs x has = absurd (none-in x has)
in-taken (suc n) [] x has = has
in-taken (suc n) (y ∷ xs) x has = elim (in-front y (take n xs) x has) [
  | in_first same ↦ subst (λ z. Contains (y ∷ xs) z) same (first-in y xs)
  | in_rest further ↦ behind-in y xs x (in-taken n xs x further)
]

pub in-reversed : {A : Type 0} (xs : List A) (x : A) → Contains (reverse xs) x → Contains xs x
in-reversed [] x has = has
in-reversed (y ∷ xs) x has = elim (Contains-append_cases (reverse xs) (y ∷ []) x (subst (λ ys. Contains ys x) (reverse-append (y ∷ []) xs) has)) [
  | inl further ↦ behind-in y xs x (in-reversed xs x further)
  | inr here ↦ subst (λ z. Contains (y ∷ xs) z) (one-in y x here) (first-in y xs)
]

pub in-mapped : {A B : Type 0} (f : A → B) (xs : List A) (y : B) → Contains (map f xs) y → (x : A) × Contains xs x × (f x ≡ y)
in-mapped f [] y has = absurd (none-in y has)
in-mapped f (z ∷ xs) y has = elim (in-front (f z) (map f xs) y has) [
  | in_first same ↦ (z, first-in z xs, same)
  | in_rest further ↦ let (x, inside, is) = in-mapped f xs y further in (x, behind-in z xs x inside, is)
]

pub maps-in : {A B : Type 0} (f : A → B) (xs : List A) (x : A) → Contains xs x → Contains (map f xs) (f x)
maps-in f xs x (k, inside, is) =
    (k, omega (arith, inside, length-map xs f), get_or-map f xs k x (f x) inside ∙ ap f is)

pub in-flat_map : {A B : Type 0} (f : A → List B) (xs : List A) (y : B) → Contains (flat_map f xs) y → (x : A) × Contains xs x × Contains (f x) y
in-flat_map f [] y has = absurd (none-in y has)
in-flat_map f (z ∷ xs) y has = elim (Contains-append_cases (f z) (flat_map f xs) y has) [
  | inl here ↦ (z, first-in z xs, here)
  | inr further ↦ let (x, inside, is) = in-flat_map f xs y further in (x, behind-in z xs x inside, is)
]

pub last-in : {A : Type 0} (xs : List A) (x : A) → slice_get (reverse xs) 0 ≡ Some x → Contains xs x
last-in {A = A} xs x is = in-reversed xs x (go (reverse xs) is)
  where
    go : (ys : List A) → slice_get ys 0 ≡ Some x → Contains ys x
    go [] is = absurd (cc)
    go (y ∷ ys) is = let same : y ≡ x = cc in subst (λ z. Contains (y ∷ ys) z) same (first-in y ys)

-- a list is empty or has a last element
pub data HasLast {A : Type 0} (xs : List A) : Type 0 where
  is_empty : xs ≡ [] → HasLast xs
  ends_in : (before : List A) (x : A) → xs ≡ before ++ x ∷ [] → HasLast xs

pub has-last : {A : Type 0} (xs : List A) → HasLast xs
has-last [] = is_empty refl
has-last (x ∷ xs) = elim (has-last xs) [
  | is_empty none ↦ ends_in [] x (ap (λ ys. x ∷ ys) none)
  | ends_in before y are ↦ ends_in (x ∷ before) y (ap (λ ys. x ∷ ys) are)
]

pub last-of_more : {A : Type 0} (xs : List A) (x : A) → slice_get (reverse (xs ++ x ∷ [])) 0 ≡ Some x
last-of_more xs x = ap (λ ys. slice_get ys 0) (reverse-append xs (x ∷ []))

-- of two parts of a list each element of the first stands before each of the second
pub in-turn : {A : Type 0} (R : A → A → Type 0) (xs ys : List A) (x y : A) → AllPairs R (xs ++ ys) → Contains xs x → Contains ys y → R x y
in-turn R xs ys x y pairs (i, inside, is_x) (j, within, is_y) =
    let all = length-append xs ys in
    let related = pairs i (length xs + j) x (omega (arith, inside)) (omega (arith, within, all)) in
    let first : get_or (xs ++ ys) i x ≡ x = get_or_append_left xs ys x i inside ∙ is_x in
    let second : get_or (xs ++ ys) (length xs + j) x ≡ y = get_or-append-add xs ys j x ∙ get_or_default ys j x y within ∙ is_y in
    subst (λ z. R x z) second (subst (λ z. R z (get_or (xs ++ ys) (length xs + j) x)) first related)
