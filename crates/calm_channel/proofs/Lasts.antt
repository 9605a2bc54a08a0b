-- The last of some elements, and the last of those that pass a test.
use Rattle.std.specs.Prelude.{AllPairs, Contains, filter}
use Rattle.std.proofs.Common.{◌≡◌, ◌⊎◌, ℕ, zero, suc, ◌<◌, ◌≤◌, inl, inr, Bool, true, false, cond, List, [], ◌∷◌, ◌++◌, length, get_or, arith, refl, ap, sym, subst, ◌∙◌}
use Rattle.std.proofs.lemmas.List.{get_or_append_left, get_or_push, length_push}
use Rattle.std.proofs.lemmas.List.Elements.{All-contains, All-contains_itself, All-filter, Contains-push, Contains-push_cases, filter_passes}
use Rattle.std.proofs.lemmas.List.Kept.{AllPairs-filter}

-- a list ends with an element
pub record EndsWith {A : Type 0} (xs : List A) (x : A) : Type 0 where
  pub front : List A
  pub are : xs ≡ front ++ x ∷ []

ending : {A : Type 0} (x : A) (xs : List A) → (y : A) × EndsWith (x ∷ xs) y
ending x [] = (x, record { front = []; are = refl })
ending x (y ∷ ys) = let more = ending y ys in (more.0, record { front = x ∷ more.1.front; are = ap (λ zs. x ∷ zs) more.1.are })

pub none_or_last : {A : Type 0} (xs : List A) → (xs ≡ []) ⊎ ((y : A) × EndsWith xs y)
none_or_last [] = inl refl
none_or_last (x ∷ xs) = inr (ending x xs)

-- an element that passes a test is among those that do
contains-cases : {A : Type 0} (y : A) (ys : List A) (x : A) (k : ℕ) → k < length (y ∷ ys) → get_or (y ∷ ys) k x ≡ x → (y ≡ x) ⊎ Contains ys x
contains-cases y ys x zero inside is = inl is
contains-cases y ys x (suc k) inside is = inr (k, omega (arith, inside), is)

contains-more : {A : Type 0} (y : A) (ys : List A) (x : A) → Contains ys x → Contains (y ∷ ys) x
contains-more y ys x there = (suc there.0, omega (arith, there.1), there.2)

contains-first : {A : Type 0} (y : A) (ys : List A) (x : A) → y ≡ x → Contains (y ∷ ys) x
contains-first y ys x is = (0, omega arith, is)

pub Contains-filter : {A : Type 0} (p : A → Bool) (xs : List A) (x : A) → Contains xs x → p x ≡ true → Contains (filter p xs) x
Contains-filter p [] x there passes = absurd (omega (arith, there.1))
Contains-filter {A = A} p (y ∷ ys) x there passes = go (p y) refl (contains-cases y ys x there.0 there.1 there.2) (λ rest. Contains-filter p ys x rest passes)
  where
    go : (b : Bool) → p y ≡ b → (y ≡ x) ⊎ Contains ys x → (Contains ys x → Contains (filter p ys) x) → Contains (cond b (y ∷ filter p ys) (filter p ys)) x
    go true test (inl is) rest = contains-first y (filter p ys) x is
    go true test (inr inside) rest = contains-more y (filter p ys) x (rest inside)
    go false test (inl is) rest = absurd (cc (ap p is))
    go false test (inr inside) rest = rest inside

-- of elements in the order of their times that pass a test the last is no earlier than any
pub record IsLast {A : Type 0} (p : A → Bool) (time : A → ℕ) (xs : List A) (least : ℕ) : Type 0 where
  pub one : A
  pub ends : EndsWith (filter p xs) one
  pub passes : p one ≡ true
  pub inside : Contains xs one
  pub late : least ≤ time one

abbrev pub AreInOrder : {A : Type 0} → (A → ℕ) → List A → Type 0
AreInOrder time xs = AllPairs (λ earlier later. time earlier ≤ time later) xs

last-late : {A : Type 0} (time : A → ℕ) (front : List A) (y x : A) → AreInOrder time (front ++ y ∷ []) → Contains (front ++ y ∷ []) x → time x ≤ time y
last-late time front y x order there = go (Contains-push_cases front y x there)
  where
    go : Contains front x ⊎ (y ≡ x) → time x ≤ time y
    go (inl before) =
        let pair = order before.0 (length front) x before.1 (omega (arith, length_push front y)) in
        let first = ap time (get_or_append_left front (y ∷ []) x before.0 before.1 ∙ before.2) in
        let second = ap time (get_or_push front y x (length front) refl) in
        omega (arith, pair, first, second)
    go (inr same) = omega (arith, ap time same)

pub last-passing : {A : Type 0} (p : A → Bool) (time : A → ℕ) (xs : List A) (x : A) → AreInOrder time xs → Contains xs x → p x ≡ true → IsLast p time xs (time x)
last-passing {A = A} p time xs x order there passes = go (none_or_last (filter p xs))
  where
    among : Contains (filter p xs) x
    among = Contains-filter p xs x there passes

    go : (filter p xs ≡ []) ⊎ ((y : A) × EndsWith (filter p xs) y) → IsLast p time xs (time x)
    go (inl none) = absurd (let more : Contains [] x = subst (λ (zs : List A). Contains zs x) none among in omega (arith, more.1))
    go (inr found) =
        let y = found.0 in
        let ends = found.1 in
        let last : Contains (filter p xs) y = subst (λ (zs : List A). Contains zs y) (sym ends.are) (Contains-push ends.front y) in
        record {
          one = y;
          ends = ends;
          passes = All-contains (λ z. p z ≡ true) (filter p xs) y (filter_passes p xs) last;
          inside = All-contains (Contains xs) (filter p xs) y (All-filter p (Contains xs) xs (All-contains_itself xs)) last;
          late = last-late time ends.front y x
              (subst (AreInOrder time) ends.are (AllPairs-filter (λ earlier later. time earlier ≤ time later) p xs order))
              (subst (λ (zs : List A). Contains zs x) ends.are among);
        }
