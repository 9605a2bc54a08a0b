-- A choice among mapped elements is the mapped choice.
use Rattle.std.specs.Prelude.{ℤ, int_le, find, filter, reverse, not, option_map}
use Rattle.std.specs.List.{list_all}
use Rattle.std.proofs.Common.{◌≡◌, ℕ, Bool, List, [], ◌∷◌, ◌++◌, map, take, inl, inr, refl, ap, sym, ◌∙◌}
use Rattle.std.proofs.lemmas.Bool.{cases_Bool}
use Rattle.std.proofs.lemmas.List.{reverse-append, map-append, take-map}
use Rattle.std.proofs.lemmas.List.Folds.{list_all-map}
use Rattle.pingpong.specs.Exchange.{Stamps, round_trip}
use Rattle.offset_track.specs.InForce.{is_slow, is_candidate, kept, first_least, chosen, InForce}

filter-map : {A B : Type 0} (p : B → Bool) (f : A → B) (xs : List A) → filter p (map f xs) ≡ map f (filter (λ x. p (f x)) xs)
filter-map p f [] = refl
filter-map p f (x ∷ xs) = elim (cases_Bool (p (f x))) [
  | inl passes ↦ rw (passes, filter-map p f xs) refl
  | inr fails ↦ rw (fails, filter-map p f xs) refl
]

find-map : {A B : Type 0} (p : B → Bool) (f : A → B) (xs : List A) → find p (map f xs) ≡ option_map f (find (λ x. p (f x)) xs)
find-map p f [] = refl
find-map p f (x ∷ xs) = elim (cases_Bool (p (f x))) [
  | inl passes ↦ rw passes refl
  | inr fails ↦ rw (fails, find-map p f xs) refl
]

reverse-map : {A B : Type 0} (f : A → B) (xs : List A) → reverse (map f xs) ≡ map f (reverse xs)
reverse-map f [] = refl
reverse-map f (x ∷ xs) =
    reverse-append (f x ∷ []) (map f xs)
    ∙ ap (λ ys. ys ++ f x ∷ []) (reverse-map f xs)
    ∙ sym (map-append f (reverse xs) (x ∷ []))
    ∙ ap (map f) (sym (reverse-append (x ∷ []) xs))

kept-map : {A B : Type 0} (f : A → B) (stamps : B → Stamps) (slow : ℕ) (xs : List A)
    → kept stamps slow (map f xs) ≡ map f (kept (λ x. stamps (f x)) slow xs)
kept-map f stamps slow xs =
    ap (λ ys. take 8 (reverse ys)) (filter-map (λ x. not (is_slow slow (stamps x))) f xs)
    ∙ ap (take 8) (reverse-map f (filter (λ x. not (is_slow slow (stamps (f x)))) xs))
    ∙ take-map f 8 (reverse (filter (λ x. not (is_slow slow (stamps (f x)))) xs))

first_least-map : {A B : Type 0} (f : A → B) (value : B → ℤ) (xs : List A) → first_least value (map f xs) ≡ option_map f (first_least (λ x. value (f x)) xs)
first_least-map f value xs =
    find-map (λ x. list_all (λ y. int_le (value x) (value y)) (map f xs)) f xs
    ∙ simp (list_all-map)

pub InForce-map : {A B : Type 0} (f : A → B) (stamps : B → Stamps) (slow age now : ℕ) (xs : List A)
    → option_map f (InForce (λ x. stamps (f x)) slow age now xs) ≡ InForce stamps slow age now (map f xs)
InForce-map f stamps slow age now xs =
    let ys = kept (λ x. stamps (f x)) slow xs in
    sym (
    ap (chosen stamps age now) (kept-map f stamps slow xs)
    ∙ ap (first_least (λ x. round_trip (stamps x))) (filter-map (λ x. is_candidate age now (stamps x)) f ys)
    ∙ first_least-map f (λ x. round_trip (stamps x)) (filter (λ x. is_candidate age now (stamps (f x))) ys)
    )
