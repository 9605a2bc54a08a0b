-- The newest exchange is in force where it isn't slow and is a candidate, unless another one is.
use Rattle.std.specs.Prelude.{filter, find, is_some, not, reverse, take}
use Rattle.std.proofs.Common.{◌≡◌, ℕ, Bool, true, false, cond, List, [], ◌∷◌, ◌++◌, Some, ap, sym, ◌∙◌}
use Rattle.std.proofs.lemmas.List.{reverse-append}
use Rattle.std.proofs.lemmas.List.Elements.{filter-append}
use Rattle.offset_track.specs.InForce.{InForce, is_candidate, is_slow, kept}
use Rattle.offset_track.proofs.Choices.{first_least-find}
use Rattle.pingpong.specs.Exchange.{Stamps, round_trip}

newest-kept : (slow : ℕ) (es : List Stamps) (e : Stamps) → is_slow slow e ≡ false
    → kept (λ e. e) slow (es ++ e ∷ []) ≡ e ∷ take 7 (reverse (filter (λ x. not (is_slow slow x)) es))
newest-kept slow es e quick =
    let test : Stamps → Bool = λ x. not (is_slow slow x) in
    let passed : filter test (e ∷ []) ≡ e ∷ [] = ap (λ (b : Bool). cond (not b) (e ∷ []) []) quick in
    ap (λ (xs : List Stamps). take 8 (reverse xs)) (filter-append test es (e ∷ []) ∙ ap (λ (xs : List Stamps). filter test es ++ xs) passed)
    ∙ ap (take 8) (reverse-append (filter test es) (e ∷ []))

pub newest-in_force : (slow age now : ℕ) (es : List Stamps) (e : Stamps) → is_slow slow e ≡ false → is_candidate age now e ≡ true
    → is_some (InForce (λ e. e) slow age now (es ++ e ∷ [])) ≡ true
newest-in_force slow age now es e quick young =
    let others : List Stamps = take 7 (reverse (filter (λ x. not (is_slow slow x)) es)) in
    let found : is_some (find (is_candidate age now) (e ∷ others)) ≡ true =
    ap (λ (b : Bool). is_some (cond b (Some e) (find (is_candidate age now) others))) young in
    sym (first_least-find round_trip (is_candidate age now) (kept (λ e. e) slow (es ++ e ∷ [])))
    ∙ ap (λ (xs : List Stamps). is_some (find (is_candidate age now) xs)) (newest-kept slow es e quick)
    ∙ found
