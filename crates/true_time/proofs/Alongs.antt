-- Lists that grow: what is made of a longer list has first what is made of the shorter one, and each further element came with one of
-- the elements more.
use Rattle.std.specs.Prelude.{Contains, filter_map, slice_get}
use Rattle.std.specs.List.{flat_map}
use Rattle.std.proofs.Common.{◌≡◌, ℕ, zero, suc, ◌<◌, ◌≤◌, List, [], ◌∷◌, ◌++◌, length, map, Option, None, Some, take, inl, inr, refl, ap, sym, subst, ◌∙◌, append_assoc, append-nil, arith}
use Rattle.std.proofs.lemmas.Grind.{flat_map-append}
use Rattle.std.proofs.lemmas.List.{map-append}
use Rattle.std.proofs.lemmas.List.Elements.{Contains-append_cases, Contains-append_left, Contains-append_right, filter_map-append}
use Rattle.relay_message.specs.Messages.{added}
use Rattle.relay_core.proofs.Calls.{added-is}
use Rattle.sample_store.specs.Along.{along}
use Rattle.sample_store.proofs.Alongs.{along-push}

-- what is made of a longer list has first what is made of the shorter one
pub record HasFirst {A B : Type 0} (of : List A → List B) (xs more : List A) : Type 0 where
  pub rest : List B
  pub are : of (xs ++ more) ≡ of xs ++ rest

abbrev pub IsGrowing : {A B : Type 0} → (List A → List B) → Type 0
IsGrowing {A = A} of = (xs more : List A) → HasFirst of xs more

along-first : {A B : Type 0} (adds : List A → List B → A → List B) (more xs : List A) → HasFirst (along adds) xs more
along-first adds [] xs = record { rest = []; are = ap (along adds) (append-nil xs) ∙ sym (append-nil (along adds xs)) }
along-first adds (y ∷ more) xs =
    let later = along-first adds more (xs ++ y ∷ []) in
    record {
      rest = adds xs (along adds xs) y ++ later.rest;
      are = ap (along adds) (sym (append_assoc xs (y ∷ []) more)) ∙ later.are ∙ ap (λ bs. bs ++ later.rest) (along-push adds xs y)
          ∙ append_assoc (along adds xs) (adds xs (along adds xs) y) later.rest;
    }

pub along-grows : {A B : Type 0} (adds : List A → List B → A → List B) → IsGrowing (along adds)
along-grows adds xs more = along-first adds more xs

pub flat_map-grows : {A B : Type 0} (f : A → List B) → IsGrowing (flat_map f)
flat_map-grows f xs more = record { rest = flat_map f more; are = flat_map-append f xs more }

pub filter_map-grows : {A B : Type 0} (f : A → Option B) → IsGrowing (filter_map f)
filter_map-grows f xs more = record { rest = filter_map f more; are = filter_map-append f xs more }

pub map-grows : {A B : Type 0} (f : A → B) → IsGrowing (map f)
map-grows f xs more = record { rest = map f more; are = map-append f xs more }

-- one after the other
pub then-grows : {A B C : Type 0} (g : List B → List C) (of : List A → List B) → IsGrowing g → IsGrowing of → IsGrowing (λ xs. g (of xs))
then-grows g of later sooner xs more =
    let inner = sooner xs more in
    let outer = later (of xs) inner.rest in
    record { rest = outer.rest; are = ap g inner.are ∙ outer.are }

-- what comes behind is what the elements more add
pub grown : {A B : Type 0} (of : List A → List B) → IsGrowing of → (xs more : List A) → of (xs ++ more) ≡ of xs ++ added of xs more
grown of grows xs more =
    let all = grows xs more in
    all.are ∙ ap (λ ys. of xs ++ ys) (sym (added-is of xs more all.rest all.are))

-- the first elements of a list, and one more
pub take-one : {A : Type 0} (xs : List A) (n : ℕ) (x : A) → slice_get xs n ≡ Some x → take (suc n) xs ≡ take n xs ++ x ∷ []
take-one [] n x is = absurd (cc)
take-one (y ∷ xs) zero x is = let same : y ≡ x = cc in ap (λ z. z ∷ []) same
take-one (y ∷ xs) (suc n) x is = ap (λ zs. y ∷ zs) (take-one xs n x is)

pub take-past : {A : Type 0} (xs : List A) (n : ℕ) → slice_get xs n ≡ None → take (suc n) xs ≡ take n xs
take-past [] zero is = refl
take-past [] (suc n) is = refl
take-past (y ∷ xs) zero is = absurd (cc)
take-past (y ∷ xs) (suc n) is = ap (λ zs. y ∷ zs) (take-past xs n is)

-- an element of what is made of the first elements of a list came with one of these
pub record ComesWith {A B : Type 0} (of : List A → List B) (xs : List A) (n : ℕ) (b : B) : Type 0 where
  pub place : ℕ
  pub element : A
  pub early : place < n
  pub is_at : slice_get xs place ≡ Some element
  pub brought : Contains (added of (take place xs) (element ∷ [])) b

later-on : {A B : Type 0} (of : List A → List B) (xs : List A) (n : ℕ) (b : B) → ComesWith of xs n b → ComesWith of xs (suc n) b
later-on of xs n b with = record { place = with.place; element = with.element; early = omega (arith, with.early); is_at = with.is_at; brought = with.brought }

nothing-in : {A : Type 0} (xs : List A) (x : A) → xs ≡ [] → Contains xs x → ⊥
nothing-in xs x none has = omega (arith, has.1, ap length none)

pub comes-with : {A B : Type 0} (of : List A → List B) → IsGrowing of → of [] ≡ [] → (xs : List A) (n : ℕ) (b : B) → Contains (of (take n xs)) b → ComesWith of xs n b
comes-with of grows none xs zero b has = absurd (nothing-in (of (take zero xs)) b none has)
comes-with {A = A} of grows none xs (suc n) b has = go (slice_get xs n) refl (comes-with of grows none xs n b)
  where
    go : (found : Option A) → slice_get xs n ≡ found → (Contains (of (take n xs)) b → ComesWith of xs n b) → ComesWith of xs (suc n) b
    go None is before = later-on of xs n b (before (subst (λ ys. Contains (of ys) b) (take-past xs n is) has))
    go (Some x) is before =
        let all = ap of (take-one xs n x is) ∙ grown of grows (take n xs) (x ∷ []) in
        elim (Contains-append_cases (of (take n xs)) (added of (take n xs) (x ∷ [])) b (subst (λ ys. Contains ys b) all has)) [
          | inl earlier ↦ later-on of xs n b (before earlier)
          | inr here ↦ record { place = n; element = x; early = omega arith; is_at = is; brought = here }
        ]

-- the first elements of a list stand in front of more of them
pub front : {A : Type 0} (xs : List A) (m n : ℕ) → m ≤ n → (rest : List A) × (take n xs ≡ take m xs ++ rest)
front xs zero n less = (take n xs, refl)
front [] (suc m) zero less = ([], refl)
front [] (suc m) (suc n) less = ([], refl)
front (x ∷ xs) (suc m) zero less = absurd (omega (arith, less))
front (x ∷ xs) (suc m) (suc n) less =
    let (rest, are) = front xs m n (omega (arith, less)) in
    (rest, ap (λ ys. x ∷ ys) are)

-- what is made of the first elements of a list is an element of what is made of more of them
pub stays : {A B : Type 0} (of : List A → List B) → IsGrowing of → (xs : List A) (m n : ℕ) (b : B) → m ≤ n → Contains (of (take m xs)) b → Contains (of (take n xs)) b
stays of grows xs m n b less has =
    let (rest, are) = front xs m n less in
    let all = ap of are ∙ grown of grows (take m xs) rest in
    subst (λ ys. Contains ys b) (sym all) (Contains-append_left (of (take m xs)) (added of (take m xs) rest) b has)

-- and what comes with one of them is an element of it
pub contains-later : {A B : Type 0} (of : List A → List B) → IsGrowing of → (xs : List A) (place n : ℕ) (x : A) (b : B) → place < n → slice_get xs place ≡ Some x
    → Contains (added of (take place xs) (x ∷ [])) b → Contains (of (take n xs)) b
contains-later of grows xs place n x b early is_at brought =
    let all = ap of (take-one xs place x is_at) ∙ grown of grows (take place xs) (x ∷ []) in
    stays of grows xs (suc place) n b (omega (arith, early))
    (subst (λ ys. Contains ys b) (sym all) (Contains-append_right (of (take place xs)) (added of (take place xs) (x ∷ [])) b brought))
