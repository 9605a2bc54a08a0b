-- The words so far and those that are left.
use Rattle.std.proofs.Common.{◌≡◌, ◌∙◌, sym, ap, ℕ, suc, ◌+◌, ◌<◌, List, [], ◌∷◌, ◌++◌, length, take, append_assoc, arith}
use Rattle.std.proofs.lemmas.List.{append-nil, take_all, take_more_set}
use Rattle.std.specs.Prelude.{slice_set}
use Rattle.rand_pcg.specs.Lcg.{Lcg}
use Rattle.rand_pcg.specs.Pcg.{pcg32}
use Rattle.scenario_generator.specs.Words.{words_from}

-- the words so far with one more, and one less that is left
pub drawn_more : (whole words : List ℕ) (k w : ℕ) (source next : Lcg) → k < length words → (w, next) ≡ pcg32 source
    → ((left : ℕ) → k + left ≡ 46 → take k words ++ words_from left source ≡ whole)
    → (left : ℕ) → k + 1 + left ≡ 46 → take (k + 1) (slice_set words k w) ++ words_from left next ≡ whole
unfolding words_from
drawn_more whole words k w source next within is before left count =
    let e = before (suc left) (omega arith) in
    let one : take (k + 1) (slice_set words k w) ≡ take k words ++ w ∷ [] = take_more_set words k w within in
    let same_word : (pcg32 source).0 ≡ w = sym (ap (λ p. p.0) is) in
    let same_next : (pcg32 source).1 ≡ next = sym (ap (λ p. p.1) is) in
    rw (one, append_assoc) (rw (same_word, same_next) at e)

-- all are drawn
pub drawn_all : (whole words : List ℕ) (k : ℕ) (source : Lcg) → length words ≡ 46 → k ≡ 46
    → ((left : ℕ) → k + left ≡ 46 → take k words ++ words_from left source ≡ whole) → words ≡ whole
unfolding words_from
drawn_all whole words k source count ended before =
    let e = before 0 (omega arith) in sym (take_all k words (omega arith)) ∙ sym (append-nil (take k words)) ∙ e
