-- Lists turned round.
use Rattle.std.proofs.Common.{◌≡◌, ℕ, ◌-◌, inl, inr, Bool, true, ◌&&◌, List, [], ◌∷◌, ◌++◌, length, take, drop, reverse, refl, arith, sym, ap, ◌∙◌}
use Rattle.std.specs.List.{list_all}
use Rattle.std.proofs.Math.Seq.{take-append_seam}
use Rattle.std.proofs.lemmas.Bool.{cases_lt}
use Rattle.std.proofs.lemmas.List.{length-drop, length-reverse, reverse-append, take-append-drop, take_all}
use Rattle.std.proofs.lemmas.List.Folds.{list_all-append}

-- the first ones of a list turned round are its last ones
pub take-reverse : {A : Type 0} (k : ℕ) (xs : List A) → take k (reverse xs) ≡ reverse (drop (length xs - k) xs)
take-reverse {A = A} k xs =
    let first : List A = take (length xs - k) xs in
    let last : List A = drop (length xs - k) xs in
    let parts : reverse xs ≡ reverse last ++ reverse first = ap reverse (sym (take-append-drop (length xs - k) xs)) ∙ reverse-append first last in
    elim (cases_lt (length xs) k) [
      | inl more ↦
          let none : length xs - k ≡ 0 = omega arith in
          take_all k (reverse xs) (omega (arith, length-reverse xs)) ∙ ap (λ i. reverse (drop i xs)) (sym none)
      | inr few ↦
          let count : k ≡ length (reverse last) = omega (arith, length-reverse last, length-drop (length xs - k) xs) in
          ap (take k) parts ∙ ap (λ i. take i (reverse last ++ reverse first)) count ∙ take-append_seam (reverse last) (reverse first)
    ]

-- and pass a test as they do in order
pub list_all-reverse : {A : Type 0} (p : A → Bool) (xs : List A) → list_all p (reverse xs) ≡ list_all p xs
list_all-reverse p [] = refl
list_all-reverse p (x ∷ xs) =
    ap (list_all p) (reverse-append (x ∷ []) xs)
    ∙ list_all-append p (reverse xs) (x ∷ [])
    ∙ ap (λ b. b && (p x && true)) (list_all-reverse p xs)
    ∙ swapped (list_all p xs) (p x)
  where
    swapped : (a b : Bool) → (a && (b && true)) ≡ (b && a)
    swapped a b = grind arith
