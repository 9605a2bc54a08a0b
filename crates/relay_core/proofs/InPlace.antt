-- A list that is written in place from its front on.
use Rattle.std.proofs.Common.{◌≡◌, ℕ, zero, suc, ◌+◌, ◌<◌, List, [], ◌∷◌, ◌++◌, take, drop, set, map, length, get_or, refl, All, ap, sym, ◌∙◌, append-nil, arith, subst}
use Rattle.std.proofs.Math.Seq.{take-suc-set}
use Rattle.std.specs.List.{flat_map}
use Rattle.std.proofs.lemmas.Grind.{flat_map-append}
use Rattle.std.proofs.lemmas.List.{map-append, set-get_or}
use Rattle.std.proofs.lemmas.List.Elements.{All-append}

-- the first so many elements are mapped, and the others are as they were
pub record IsWritten {A : Type 0} (f : A → A) (i : ℕ) (old new : List A) : Type 0 where
  pub written : take i new ≡ map f (take i old)
  pub rest : drop i new ≡ drop i old

-- what stands behind a place is not written there
pub drop-set : {A : Type 0} (xs : List A) (i : ℕ) (y : A) → drop (suc i) (set xs i y) ≡ drop (suc i) xs
drop-set [] i y = refl
drop-set (x ∷ xs) zero y = refl
drop-set (x ∷ xs) (suc i) y = drop-set xs i y

-- lists that are the same from a place on are so from the next one, and have the same element there
pub drop-next : {A : Type 0} (xs ys : List A) (i : ℕ) → drop i xs ≡ drop i ys → drop (suc i) xs ≡ drop (suc i) ys
drop-next {A = A} xs ys i same = sym (dropped xs i) ∙ ap (drop 1) same ∙ dropped ys i
  where
    dropped : (zs : List A) (i : ℕ) → drop 1 (drop i zs) ≡ drop (suc i) zs
    dropped [] zero = refl
    dropped [] (suc i) = refl
    dropped (z ∷ zs) zero = refl
    dropped (z ∷ zs) (suc i) = dropped zs i

pub get_or-drop_same : {A : Type 0} (xs ys : List A) (i : ℕ) (d : A) → drop i xs ≡ drop i ys → get_or xs i d ≡ get_or ys i d
get_or-drop_same {A = A} xs ys i d same = sym (dropped xs i) ∙ ap (λ zs. get_or zs 0 d) same ∙ dropped ys i
  where
    dropped : (zs : List A) (i : ℕ) → get_or (drop i zs) 0 d ≡ get_or zs i d
    dropped [] zero = refl
    dropped [] (suc i) = refl
    dropped (z ∷ zs) zero = refl
    dropped (z ∷ zs) (suc i) = dropped zs i

-- the place behind a place
pub next : (i : ℕ) → i + 1 ≡ suc i
next i = omega arith

-- an element that is put in place, and then written
pub IsWritten-set : {A : Type 0} (f : A → A) (i : ℕ) (old new : List A) (y z : A) → i < length new → length new ≡ length old → z ≡ f y
    → IsWritten f i old new → IsWritten f (i + 1) (set old i y) (set new i z)
IsWritten-set f i old new y z within long is_z is = subst (λ j. IsWritten f j (set old i y) (set new i z)) (sym (next i)) (record {
  written =
      take-suc-set new i z within
      ∙ ap (λ xs. xs ++ z ∷ []) is.written
      ∙ ap (λ x. map f (take i old) ++ x ∷ []) is_z
      ∙ sym (ap (map f) (take-suc-set old i y (omega (arith, within, long))) ∙ map-append f (take i old) (y ∷ []));
  rest = drop-set new i z ∙ drop-next new old i is.rest ∙ sym (drop-set old i y);
})

-- the element of a place, where it is written from there on
same : {A : Type 0} (f : A → A) (i : ℕ) (old new : List A) (x : A) → x ≡ get_or new i x → IsWritten f i old new → set old i x ≡ old
same f i old new x item is = ap (set old i) (item ∙ get_or-drop_same new old i x is.rest) ∙ set-get_or old i x

-- one that was there, and is written
pub IsWritten-more : {A : Type 0} (f : A → A) (i : ℕ) (old new : List A) (x y : A) → i < length new → length new ≡ length old → x ≡ get_or new i x → y ≡ f x
    → IsWritten f i old new → IsWritten f (i + 1) old (set new i y)
IsWritten-more f i old new x y within long item is_y is =
    subst (λ xs. IsWritten f (i + 1) xs (set new i y)) (same f i old new x item is) (IsWritten-set f i old new x y within long is_y is)

-- what the elements in front of a place tell, with the one that is put there
pub flat_map-set : {A B : Type 0} (g : A → List B) (i : ℕ) (xs : List A) (y : A) → i < length xs → flat_map g (take (i + 1) (set xs i y)) ≡ flat_map g (take i xs) ++ g y
flat_map-set g i xs y within =
    ap (λ j. flat_map g (take j (set xs i y))) (next i)
    ∙ ap (flat_map g) (take-suc-set xs i y within)
    ∙ flat_map-append g (take i xs) (y ∷ [])
    ∙ ap (λ ys. flat_map g (take i xs) ++ ys) (append-nil (g y))

-- and with the one that was there
pub flat_map-more : {A B : Type 0} (f : A → A) (g : A → List B) (i : ℕ) (old new : List A) (x : A) → i < length new → length new ≡ length old → x ≡ get_or new i x
    → IsWritten f i old new → flat_map g (take (i + 1) old) ≡ flat_map g (take i old) ++ g x
flat_map-more f g i old new x within long item is =
    subst (λ xs. flat_map g (take (i + 1) xs) ≡ flat_map g (take i old) ++ g x) (same f i old new x item is) (flat_map-set g i old x (omega (arith, within, long)))

-- something holds of no elements
pub All-none : {A : Type 0} (P : A → Type 0) (xs : List A) → xs ≡ [] → All P xs
All-none P xs none k d inside = absurd (omega (arith, inside, ap length none))

-- an element more of which something holds
pub All-push : {A : Type 0} (P : A → Type 0) (xs : List A) (x : A) → All P xs → P x → All P (xs ++ x ∷ [])
All-push P xs x all holds = All-append P xs (x ∷ []) all alone
  where
    alone : All P (x ∷ [])
    alone zero d inside = holds
    alone (suc k) d inside = absurd (omega (arith, inside))
