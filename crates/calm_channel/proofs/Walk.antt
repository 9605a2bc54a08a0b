-- A run along the moments of its scenario, as they touch one line.
use Rattle.std.proofs.Common.{Bool, ap, ◌≡◌, ℕ, suc, ◌+◌, ◌*◌, ◌≤◌, inl, inr, true, false, cond, List, [], ◌∷◌, ◌++◌, arith, refl, sym, subst, ◌∙◌, append_assoc, append-nil}
use Rattle.std.specs.Prelude.{◌==◌}
use Rattle.std.proofs.lemmas.List.Sums.{fold-append, sum_by-append}
use Rattle.std.proofs.lemmas.Bool.{and_from, eq-eqb}
use Rattle.waveform_reader.specs.Scenario.{Setup}
use Rattle.line_world.specs.Journals.{AreFirst}
use Rattle.line_world.specs.Occasions.{Moment, Occasion, moments}
use Rattle.line_world.specs.Occasions.Occasion.{arrival, departure, sampling, slot}
use Rattle.line_world.specs.Run.{after, run_through, start}
use Rattle.calm_channel.specs.Coming.{asked, asks}
use Rattle.calm_channel.proofs.Pace.{Paced, at, touches}

-- one moment more
pub run-push : (s : Setup) (these : List Moment) (m : Moment) → run_through s (these ++ m ∷ []) ≡ after s (run_through s these) m
run-push s these m = fold-append (after s) (start s) these (m ∷ [])

-- and first moments without the last of them
pub first-before : (s : Setup) (these : List Moment) (m : Moment) → AreFirst s (these ++ m ∷ []) → AreFirst s these
first-before s these m first = record { left = m ∷ first.left; are = sym (append_assoc these (m ∷ []) first.left) ∙ first.are }

abbrev pub is_asking : ℕ → ℕ → Moment → ℕ
is_asking from to m = cond (asks from to m.occasion) 1 0

pub asked-push : (from to : ℕ) (these : List Moment) (m : Moment) → asked from to (these ++ m ∷ []) ≡ asked from to these + cond (asks from to m.occasion) 1 0
asked-push from to these m = sum_by-append (is_asking from to) these (m ∷ []) ∙ (omega (arith))

-- at an occasion that doesn't touch the line it isn't asked
pub untouched-unasked : (from to : ℕ) (o : Occasion) → touches from to o ≡ false → asks from to o ≡ false
untouched-unasked from to (arrival receiver sender) is = is
untouched-unasked from to (sampling station) is = refl
untouched-unasked from to (slot station) is = refl
untouched-unasked from to (departure sender receiver) is = refl

pub asked-itself : (from to : ℕ) → asks from to (arrival to from) ≡ true
asked-itself from to = and_from (from == from) (to == to) (eq-eqb from from refl) (eq-eqb to to refl)

-- what holds before the first moment, and is kept by each, holds after any first moments
module _ (s : Setup) (from to : ℕ) (P : ℕ → ℕ → ℕ → List Moment → Type 0)
    (untouched : (ticks sent slots : ℕ) (these : List Moment) (m : Moment) → touches from to m.occasion ≡ false
    → P ticks sent slots these → P ticks sent slots (these ++ m ∷ []))
    (is_asked : (ticks sent : ℕ) (these : List Moment) → AreFirst s (these ++ at ticks (arrival to from) ∷ []) → asked from to these ≡ ticks → ticks ≤ 125 * sent
    → P ticks sent sent these → P (suc ticks) sent sent (these ++ at ticks (arrival to from) ∷ []))
    (has_slot : (sent : ℕ) (these : List Moment) → P (125 * sent + 1) sent sent these → P (125 * sent + 1) sent (suc sent) (these ++ at (125 * sent) (slot from) ∷ []))
    (sends : (sent : ℕ) (these : List Moment) → AreFirst s (these ++ at (125 * sent) (departure from to) ∷ [])
    → P (125 * sent + 1) sent (suc sent) these → P (125 * sent + 1) (suc sent) (suc sent) (these ++ at (125 * sent) (departure from to) ∷ []))
  where
    -- with how often the line was asked
    abbrev Q : ℕ → ℕ → ℕ → List Moment → Type 0
    Q ticks sent slots these = (asked from to these ≡ ticks) × P ticks sent slots these

    unasked : (ticks : ℕ) (these : List Moment) (m : Moment) → asks from to m.occasion ≡ false → asked from to these ≡ ticks → asked from to (these ++ m ∷ []) ≡ ticks
    unasked ticks these m not_asked is = asked-push from to these m ∙ ap (λ (b : Bool). asked from to these + cond b 1 0) not_asked ∙ (omega (arith, is))

    pub record Reached (these : List Moment) : Type 0 where
      pub sent : ℕ
      pub slots : ℕ
      pub holds : P (asked from to these) sent slots these

    abbrev Next : List Moment → Moment → List Moment → ℕ → ℕ → ℕ → Type 0
    Next these m ms ticks sent slots = (next_ticks : ℕ) × (next_sent : ℕ) × (next_slots : ℕ) × Paced from to ms next_ticks next_sent next_slots × Q next_ticks next_sent next_slots (these ++ m ∷ [])

    step : (these : List Moment) (m : Moment) (ms : List Moment) (ticks sent slots : ℕ) → AreFirst s (these ++ m ∷ []) → Paced from to (m ∷ ms) ticks sent slots
        → Q ticks sent slots these → Next these m ms ticks sent slots
    step these m ms ticks sent slots first (inl x) holds =
        (ticks, sent, slots, x.1, (unasked ticks these m (untouched-unasked from to m.occasion x.0) holds.0, untouched ticks sent slots these m x.0 holds.1))
    step these m ms ticks sent slots first (inr (inl x)) holds =
        let next : List Moment = these ++ at ticks (arrival to from) ∷ [] in
        let counted : asked from to next ≡ suc ticks =
        asked-push from to these (at ticks (arrival to from)) ∙ ap (λ (b : Bool). asked from to these + cond b 1 0) (asked-itself from to) ∙ (omega (arith, holds.0)) in
        let now : P (suc ticks) sent sent next =
        is_asked ticks sent these (subst (λ (m : Moment). AreFirst s (these ++ m ∷ [])) x.0 first) holds.0 x.2 (subst (λ (n : ℕ). P ticks sent n these) x.1 holds.1) in (
          suc ticks,
          sent,
          sent,
          subst (λ (n : ℕ). Paced from to ms (suc ticks) sent n) x.1 x.4,
          subst (λ (m : Moment). Q (suc ticks) sent sent (these ++ m ∷ [])) (sym x.0) (counted, now),
        )
    step these m ms ticks sent slots first (inr (inr (inl x))) holds =
        let time : ℕ = 125 * sent + 1 in
        let now : P time sent (suc sent) (these ++ at (125 * sent) (slot from) ∷ []) =
        has_slot sent these (subst (λ (t : ℕ). P t sent sent these) x.2 (subst (λ (n : ℕ). P ticks sent n these) x.1 holds.1)) in (
          time,
          sent,
          suc sent,
          subst (λ (t : ℕ). Paced from to ms t sent (suc sent)) x.2 (subst (λ (n : ℕ). Paced from to ms ticks sent (suc n)) x.1 x.3),
          subst (λ (m : Moment). Q time sent (suc sent) (these ++ m ∷ [])) (sym x.0) (unasked time these (at (125 * sent) (slot from)) refl (holds.0 ∙ x.2), now),
        )
    step these m ms ticks sent slots first (inr (inr (inr x))) holds =
        let time : ℕ = 125 * sent + 1 in
        let now : P time (suc sent) (suc sent) (these ++ at (125 * sent) (departure from to) ∷ []) =
        sends sent these (subst (λ (m : Moment). AreFirst s (these ++ m ∷ [])) x.0 first)
        (subst (λ (t : ℕ). P t sent (suc sent) these) x.2 (subst (λ (n : ℕ). P ticks sent n these) x.1 holds.1)) in (
          time,
          suc sent,
          suc sent,
          subst (λ (t : ℕ). Paced from to ms t (suc sent) (suc sent)) x.2 (subst (λ (n : ℕ). Paced from to ms ticks (suc sent) n) x.1 x.3),
          subst (λ (m : Moment). Q time (suc sent) (suc sent) (these ++ m ∷ [])) (sym x.0) (unasked time these (at (125 * sent) (departure from to)) refl (holds.0 ∙ x.2), now),
        )

    along_moments : (these ms left : List Moment) (ticks sent slots : ℕ) → these ++ (ms ++ left) ≡ moments s.settings s.end → Paced from to (ms ++ left) ticks sent slots
        → Q ticks sent slots these → Reached (these ++ ms)
    along_moments these [] left ticks sent slots are paced holds =
        subst Reached (sym (append-nil these)) (record { sent = sent; slots = slots; holds = subst (λ (t : ℕ). P t sent slots these) (sym holds.0) holds.1 })
    along_moments these (m ∷ ms) left ticks sent slots are paced holds =
        let split : (these ++ m ∷ []) ++ (ms ++ left) ≡ moments s.settings s.end = append_assoc these (m ∷ []) (ms ++ left) ∙ are in
        let next = step these m (ms ++ left) ticks sent slots (record { left = ms ++ left; are = split }) paced holds in
        subst Reached (append_assoc these (m ∷ []) ms) (along_moments (these ++ m ∷ []) ms left next.0 next.1 next.2 split next.3 next.4)

    pub walk : Paced from to (moments s.settings s.end ++ []) 0 0 0 → P 0 0 0 [] → (these : List Moment) → AreFirst s these → Reached these
    walk paced holds these first =
        let all : these ++ first.left ≡ moments s.settings s.end ++ [] = first.are ∙ sym (append-nil (moments s.settings s.end)) in
        along_moments [] these first.left 0 0 0 first.are (subst (λ (ms : List Moment). Paced from to ms 0 0 0) (sym all) paced) (refl, holds)
