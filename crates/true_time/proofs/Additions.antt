-- Where what the further elements of a list add comes from: from one of them, after all that stand before it.
use Rattle.std.specs.Prelude.{Contains}
use Rattle.std.proofs.Common.{◌≡◌, List, [], ◌∷◌, ◌++◌, drop, length, inl, inr, refl, ap, sym, subst, ◌∙◌, append_assoc, append-nil}
use Rattle.std.proofs.Math.Seq.{drop-append_seam}
use Rattle.std.proofs.lemmas.List.Elements.{Contains-append_cases, Contains-append_left, Contains-append_right}
use Rattle.sample_store.specs.Along.{along}
use Rattle.sample_store.proofs.Alongs.{along-push}
use Rattle.true_time.proofs.Elements.{first-in, none-in}

-- an element that one of the further elements adds
pub record AddedBy {A B : Type 0} (adds : List A → List B → A → List B) (xs more : List A) (b : B) : Type 0 where
  pub first : List A
  pub element : A
  pub rest : List A
  pub are : more ≡ first ++ element ∷ rest
  pub brought : Contains (adds (xs ++ first) (along adds (xs ++ first)) element) b

-- all that the further elements add
further : {A B : Type 0} → (List A → List B → A → List B) → List A → List A → List B
further adds [] xs = []
further adds (x ∷ more) xs = adds xs (along adds xs) x ++ further adds more (xs ++ x ∷ [])

along-further : {A B : Type 0} (adds : List A → List B → A → List B) (more xs : List A) → along adds (xs ++ more) ≡ along adds xs ++ further adds more xs
unfolding further
along-further adds [] xs = ap (along adds) (append-nil xs) ∙ sym (append-nil (along adds xs))
along-further adds (x ∷ more) xs =
    ap (along adds) (sym (append_assoc xs (x ∷ []) more))
    ∙ along-further adds more (xs ++ x ∷ [])
    ∙ ap (λ bs. bs ++ further adds more (xs ++ x ∷ [])) (along-push adds xs x)
    ∙ append_assoc (along adds xs) (adds xs (along adds xs) x) (further adds more (xs ++ x ∷ []))

further-by : {A B : Type 0} (adds : List A → List B → A → List B) (more xs : List A) (b : B) → Contains (further adds more xs) b → AddedBy adds xs more b
unfolding further
further-by adds [] xs b has = absurd (none-in b has)
further-by adds (x ∷ more) xs b has =
    elim (Contains-append_cases (adds xs (along adds xs) x) (further adds more (xs ++ x ∷ [])) b has) [
      | inl here ↦ record {
        first = [];
        element = x;
        rest = more;
        are = refl;
        brought = subst (λ ys. Contains (adds ys (along adds ys) x) b) (sym (append-nil xs)) here;
      }
      | inr later ↦
          let by = further-by adds more (xs ++ x ∷ []) b later in
          record {
            first = x ∷ by.first;
            element = by.element;
            rest = by.rest;
            are = ap (λ ys. x ∷ ys) by.are;
            brought = subst (λ ys. Contains (adds ys (along adds ys) by.element) b) (append_assoc xs (x ∷ []) by.first) by.brought;
          }
    ]

pub added-by : {A B : Type 0} (adds : List A → List B → A → List B) (xs more : List A) (b : B) → Contains (drop (length (along adds xs)) (along adds (xs ++ more))) b
    → AddedBy adds xs more b
added-by adds xs more b has =
    let are = ap (λ ys. drop (length (along adds xs)) ys) (along-further adds more xs) ∙ drop-append_seam (along adds xs) (further adds more xs) in
    further-by adds more xs b (subst (λ ys. Contains ys b) are has)

-- what has been added stays
pub added-stays : {A B : Type 0} (adds : List A → List B → A → List B) (xs more : List A) (b : B) → Contains (along adds xs) b → Contains (along adds (xs ++ more)) b
added-stays adds xs more b has = subst (λ ys. Contains ys b) (sym (along-further adds more xs)) (Contains-append_left (along adds xs) (further adds more xs) b has)

-- what added it is one of them
pub element-in : {A B : Type 0} (adds : List A → List B → A → List B) (xs more : List A) (b : B) (by : AddedBy adds xs more b) → Contains more by.element
element-in adds xs more b by =
    subst (λ ys. Contains ys by.element) (sym by.are) (Contains-append_right by.first (by.element ∷ by.rest) by.element (first-in by.element by.rest))
