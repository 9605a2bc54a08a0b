-- One element more at the end of a list adds what it adds after all others.
use Rattle.std.proofs.Common.{◌≡◌, List, [], ◌∷◌, ◌++◌, refl, ap, sym, ◌∙◌, append_assoc, append-nil}
use Rattle.sample_store.specs.Along.{along, along_from}

along_from-push : {A B : Type 0} (adds : List A → List B → A → List B) (before : List A) (added : List B) (xs : List A) (x : A)
    → along_from adds before added (xs ++ x ∷ []) ≡ along_from adds before added xs ++ adds (before ++ xs) (along_from adds before added xs) x
unfolding along_from
along_from-push adds before added [] x = rw (append-nil before) refl
along_from-push adds before added (y ∷ xs) x =
    along_from-push adds (before ++ y ∷ []) (added ++ adds before added y) xs x
    ∙ ap (λ ys. along_from adds (before ++ y ∷ []) (added ++ adds before added y) xs ++ adds ys (along_from adds (before ++ y ∷ []) (added ++ adds before added y) xs) x)
    (append_assoc before (y ∷ []) xs)

pub along-push : {A B : Type 0} (adds : List A → List B → A → List B) (xs : List A) (x : A)
    → along adds (xs ++ x ∷ []) ≡ along adds xs ++ adds xs (along adds xs) x
along-push adds xs x = along_from-push adds [] [] xs x

-- two lists that grow alike: what holds of what was added so far holds of all
pub along-both : {A B C : Type 0} (f : List A → List B → A → List B) (g : List A → List C → A → List C) (R : List A → List B → List C → Type 0)
    → R [] [] [] → ((xs : List A) (bs : List B) (cs : List C) (x : A) → R xs bs cs → R (xs ++ x ∷ []) (bs ++ f xs bs x) (cs ++ g xs cs x))
    → (xs : List A) → R xs (along f xs) (along g xs)
unfolding along_from
along-both {A = A} {B = B} {C = C} f g R start step xs = go [] [] [] xs start
  where
    go : (before : List A) (bs : List B) (cs : List C) (xs : List A) → R before bs cs → R (before ++ xs) (along_from f before bs xs) (along_from g before cs xs)
    go before bs cs [] holds = rw (append-nil before) holds
    go before bs cs (x ∷ xs) holds =
        rw (sym (append_assoc before (x ∷ []) xs)) (go (before ++ x ∷ []) (bs ++ f before bs x) (cs ++ g before cs x) xs (step before bs cs x holds))
