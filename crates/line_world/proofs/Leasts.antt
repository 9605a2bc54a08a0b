-- The least of some numbers, and the least tick that is due.
use Rattle.std.specs.List.{All, Contains}
use Rattle.std.proofs.Common.{◌≡◌, ℕ, ◌+◌, ◌%◌, ◌<◌, ◌≤◌, min, Bool, true, false, nat_eq, nat_le, List, [], ◌∷◌, ◌++◌, length, map, suc, get_or, get_or-take, length-take, slice_index, take, inl, inr, ⊎_elim, arith, sym, ap, ◌∙◌, refl, subst}
use Rattle.std.proofs.lemmas.Bool.Decides.{nat_tests}
use Rattle.std.proofs.lemmas.List.{get_or_default, map-append, take_more}
use Rattle.std.proofs.lemmas.List.Elements.{All-contains, All-push, All-weaker, Contains-append_left, Contains-push}
use Rattle.line_world.specs.Worlds.{IsLeast, IsNextDue}

-- with one number more
one_more : (number : ℕ) (others : List ℕ) (least other : ℕ) → IsLeast number others least → IsLeast number (others ++ other ∷ []) (min least other)
one_more number others least other is = by_test (nat_le least other) refl
  where
    by_test : (b : Bool) → nat_le least other ≡ b → IsLeast number (others ++ other ∷ []) (min least other)
    by_test true e =
        let small : least ≤ other = grind (arith, nat_tests) in
        let same : min least other ≡ least = omega arith in
        subst (λ (n : ℕ). IsLeast number (others ++ other ∷ []) n) (sym same) (record {
          first = is.first;
          each = All-push (λ o. least ≤ o) others other is.each small;
          one = ⊎_elim (λ e. inl e) (λ k. inr (Contains-append_left others (other ∷ []) least k)) is.one;
        })
    by_test false e =
        let small : other < least = grind (arith, nat_tests) in
        let same : min least other ≡ other = omega arith in
        subst (λ (n : ℕ). IsLeast number (others ++ other ∷ []) n) (sym same) (record {
          first = omega (arith, is.first);
          each = All-push (λ o. other ≤ o) others other (All-weaker (λ o. least ≤ o) (λ o. other ≤ o) (λ o h. omega arith) others is.each) (omega arith);
          one = inr (Contains-push others other);
        })

-- with the next of some numbers
pub next_more : (number least new : ℕ) (others : List ℕ) (i : ℕ) → i < length others → IsLeast number (take i others) least
    → new ≡ min least (get_or others i 0) → IsLeast number (take (i + 1) others) new
next_more number least new others i h is e =
    rw (e, take_more others i 0 h) (one_more number (take i others) least (get_or others i 0) is)

-- with the next of some elements' numbers
pub mapped_more : {A : Type 0} (f : A → ℕ) (xs : List A) (i : ℕ) (x : A) (number least new : ℕ) → i < length xs → x ≡ get_or xs i x
    → IsLeast number (map f (take i xs)) least → new ≡ min least (f x) → IsLeast number (map f (take (i + 1) xs)) new
mapped_more f xs i x number least new h is_x is e =
    let more : map f (take (i + 1) xs) ≡ map f (take i xs) ++ f x ∷ [] =
    ap (λ ys. map f ys) (take_more xs i x h ∙ ap (λ y. take i xs ++ y ∷ []) (sym is_x)) ∙ map-append f (take i xs) (x ∷ []) in
    rw (e, more) (one_more number (map f (take i xs)) least (f x) is)

-- what holds of the first of some numbers at each place, and of any that is among them
pub firsts : (P : ℕ → Type 0) (n : ℕ) (xs : List ℕ) → n ≤ length xs → ((k : ℕ) → suc k ≤ n → P (slice_index xs k)) → All P (take n xs)
firsts P n xs h each k d inside =
    let near : k < n = omega (arith, length-take n xs) in
    subst P (sym (get_or-take n xs k d near ∙ get_or_default xs k d 0 (omega arith))) (each k near)

pub at_first : (P : ℕ → Type 0) (n : ℕ) (xs : List ℕ) → n ≤ length xs → All P (take n xs) → (k : ℕ) → suc k ≤ n → P (slice_index xs k)
at_first P n xs h all k near = subst P (get_or-take n xs k 0 near) (all k 0 (omega (arith, length-take n xs)))

among_firsts : (n : ℕ) (xs : List ℕ) (x : ℕ) → n ≤ length xs → Contains (take n xs) x → (k : ℕ) × (suc k ≤ n) × (slice_index xs k ≡ x)
among_firsts n xs x h (k, inside, is) =
    let near : k < n = omega (arith, length-take n xs) in
    (k, near, get_or_default xs k 0 x (omega arith) ∙ sym (get_or-take n xs k x near) ∙ is)

-- the least multiple of 125, of the samples and of the next ticks of the wires
pub next_due : (stations from slot due tick : ℕ) (samples wires : List ℕ) → stations ≤ length samples → from ≤ slot → slot % 125 ≡ 0
    → ((t : ℕ) → from ≤ t → t % 125 ≡ 0 → slot ≤ t) → ((k : ℕ) → suc k ≤ stations → from ≤ slice_index samples k)
    → IsLeast slot (take stations samples) due → IsLeast due wires tick → (from ≤ due → from ≤ tick) → IsNextDue stations from samples wires tick
next_due stations from slot due tick samples wires few later multiple least late by_samples by_wires after = record {
  later = after by_sample;
  no_slot = λ t h below. apart t h below (nat_eq (t % 125) 0) refl;
  no_sample = λ k h. omega (arith, at_first (λ o. due ≤ o) stations samples few by_samples.each k h, by_wires.first);
  quiet = by_wires.each;
  due = ⊎_elim (λ e. ⊎_elim (λ k. inl (slot_at (e ∙ k))) (λ k. inr (inl (sampled_at (subst (λ (n : ℕ). Contains (take stations samples) n) (sym e) k)))) by_samples.one)
      (λ k. inr (inr k)) by_wires.one;
}
  where
    by_sample : from ≤ due
    by_sample = ⊎_elim (λ e. omega arith) (λ k. All-contains (λ o. from ≤ o) (take stations samples) due (firsts (λ o. from ≤ o) stations samples few late) k) by_samples.one

    apart : (t : ℕ) → from ≤ t → t < tick → (b : Bool) → nat_eq (t % 125) 0 ≡ b → nat_eq (t % 125) 0 ≡ false
    apart t h below false e = e
    apart t h below true e = let none : t % 125 ≡ 0 = grind (arith, nat_tests) in absurd (omega (arith, least t h none, by_samples.first, by_wires.first))

    slot_at : tick ≡ slot → nat_eq (tick % 125) 0 ≡ true
    slot_at e = let none : tick % 125 ≡ 0 = ap (λ (n : ℕ). n % 125) e ∙ multiple in grind (arith, nat_tests)

    sampled_at : Contains (take stations samples) tick → (k : ℕ) × (suc k ≤ stations) × (slice_index samples k ≡ tick)
    sampled_at k = among_firsts stations samples tick few k
