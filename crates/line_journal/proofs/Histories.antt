-- Histories in a list.
use Rattle.std.specs.Prelude.{OnOk}
use Rattle.std.proofs.Common.{◌≡◌, ℕ, zero, suc, List, [], ◌∷◌, All, Result, Ok, Err, map, set, get_or, refl, ap, sym, subst, ◌∙◌}
use Rattle.std.proofs.lemmas.List.Elements.{All-map}
use Rattle.ld_base.specs.declared.fields.Fields.{Fields}
use Rattle.pingpong.specs.declared.journal.Entry.{Entry}
use Rattle.relay_core.proofs.Lists.{All-images, map-mapped}
use Rattle.line_journal.specs.Account.{IsHistory}
use Rattle.line_journal.specs.Inside.{roomless, way_of}
use Rattle.line_journal.specs.LineHistory.{LineHistory}

-- an element that is written with one of the same image
pub map-set_alike : {A B : Type 0} (f : A → B) (xs : List A) (i : ℕ) (y d : A) → f y ≡ f (get_or xs i d) → map f (set xs i y) ≡ map f xs
map-set_alike f [] i y d alike = refl
map-set_alike f (x ∷ xs) zero y d alike = ap (λ z. z ∷ map f xs) alike
map-set_alike f (x ∷ xs) (suc i) y d alike = ap (λ zs. f x ∷ zs) (map-set_alike f xs i y d alike)

-- histories that differ in their rooms alone
pub ways-roomless : (xs ys : List LineHistory) → map roomless xs ≡ map roomless ys → map way_of xs ≡ map way_of ys
ways-roomless xs ys same = sym (map-mapped way_of roomless xs) ∙ ap (map way_of) same ∙ map-mapped way_of roomless ys

pub histories-roomless : (f : Fields) (journal : List Entry) (xs ys : List LineHistory) → map roomless xs ≡ map roomless ys → All (IsHistory f journal) xs → All (IsHistory f journal) ys
histories-roomless f journal xs ys same all =
    let bare : All (IsHistory f journal) (map roomless xs) =
    All-map (IsHistory f journal) roomless xs (λ k d inside. let is = all k d inside in record { begun = is.begun; last = is.last; crossings = is.crossings }) in
    λ k d inside. (let is = All-images (IsHistory f journal) roomless ys (subst (All (IsHistory f journal)) same bare) k d inside in
    record { begun = is.begun; last = is.last; crossings = is.crossings })

-- what follows where a result is Ok
pub on-ok : {T E : Type 0} (r : Result T E) (A B : Type 0) → (A → B) → OnOk r A → OnOk r B
on-ok (Ok x) A B follows holds = follows holds
on-ok (Err e) A B follows holds = tt
