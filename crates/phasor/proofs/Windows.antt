-- What a window stands for once it has taken one set more, and the sums of what it stands for.
use Rattle.std.proofs.Common.{◌≡◌, ℕ, zero, suc, ◌+◌, ◌<◌, ◌≤◌, List, [], ◌∷◌, ◌++◌, length, Some, None, option_map, refl, ap, ◌∙◌, arith}
use Rattle.std.proofs.lemmas.List.{length_push}
use Rattle.ld_base.specs.declared.phases.Phases.{Phases}
use Rattle.ld_base.specs.declared.phases.SampleSet.{SampleSet}
use Rattle.phasor.specs.Sum.{set_numbered, followed_by, sets_before, sums_of, sums_before}
use Rattle.phasor.specs.Ring.{IsPushed}
use Rattle.phasor.specs.Window.{Kept, StandsFor}
use Rattle.phasor.proofs.Lookups.{set_numbered-push_other, sets_before-push_same, sets_before-fewer, sets_before-none}
use Rattle.phasor.proofs.Pushes.{pushed_by}

-- where a number is left out, an empty window stands for the same sets
pub StandsFor-gap : (window : Kept) (pushed : List SampleSet) (number : ℕ) → StandsFor window pushed → window.next < number
    → StandsFor (record { cycle = window.cycle; next = number; sets = [] }) pushed
StandsFor-gap window pushed zero stands gap = absurd (omega arith)
StandsFor-gap window pushed (suc number) stands gap = record {
  kept = refl;
  whole = λ room. rw (stands.below number (omega arith)) refl;
  below = λ n past. stands.below n (omega arith);
}

-- with one set more: `stays` are the last sets below its number, and where they and the new one are less than a cycle, no more of
-- them follow each other
push_behind : (cycle next : ℕ) (pushed stays : List SampleSet) (set : SampleSet) → next ≡ set.number + 1
    → ((n : ℕ) → set.number ≤ n → set_numbered n pushed ≡ None)
    → sets_before pushed (length stays) set.number ≡ Some stays
    → (suc (length stays) < cycle → sets_before pushed (suc (length stays)) set.number ≡ None)
    → StandsFor (record { cycle = cycle; next = next; sets = stays ++ set ∷ [] }) (pushed ++ set ∷ [])
push_behind cycle next pushed stays set next_is below kept whole =
    let last : next ≡ suc set.number = omega arith in
    let one_more : length (stays ++ set ∷ []) ≡ suc (length stays) = omega (arith, length_push stays set) in
    let fresh = below set.number (omega arith) in
    record {
      kept = rw (one_more, last) (sets_before-push_same pushed set (length stays) fresh ∙ ap (λ s. followed_by s (Some set)) kept);
      whole = λ room. rw (one_more, last) (sets_before-push_same pushed set (suc (length stays)) fresh ∙ ap (λ s. followed_by s (Some set)) (whole (omega (arith, one_more))));
      below = λ n past. set_numbered-push_other n pushed set (omega arith) ∙ below n (omega arith);
    }

-- so a window with one set more stands for the sets that were pushed and that one
pub StandsFor-push : (ring new : Kept) (pushed : List SampleSet) (set : SampleSet) (leaving : List Phases) → IsPushed ring new set leaving
    → length ring.sets ≤ ring.cycle → 0 < ring.cycle → ring.next ≡ set.number → StandsFor ring pushed → StandsFor new (pushed ++ set ∷ [])
StandsFor-push ring new pushed set leaving is_pushed few some follows stands =
    rw is_pushed.cycle (pushed_by (λ old sets out. StandsFor (record { cycle = ring.cycle; next = new.next; sets = sets }) (pushed ++ set ∷ []))
    ring new set leaving is_pushed few some
    (λ room. push_behind ring.cycle new.next pushed ring.sets set is_pushed.next below (rw follows at stands.kept) (λ longer. rw follows at (stands.whole room)))
    (λ oldest rest is whole apart.
    let one_less : length ring.sets ≡ suc (length rest) = ap length is in
    push_behind ring.cycle new.next pushed rest set is_pushed.next below
    (sets_before-fewer pushed (length rest) set.number oldest rest (rw (one_less, is, follows) at stands.kept))
    (λ longer. absurd (omega arith))))
  where
    below : (n : ℕ) → set.number ≤ n → set_numbered n pushed ≡ None
    below n past = stands.below n (omega arith)

-- there are no sums where less than a cycle is kept
pub sums_before-short : (window : Kept) (pushed : List SampleSet) → StandsFor window pushed → length window.sets < window.cycle
    → sums_before window.cycle pushed window.next ≡ None
sums_before-short window pushed stands short =
    ap (option_map (sums_of window.cycle)) (sets_before-none pushed (suc (length window.sets)) window.cycle window.next (omega arith) (stands.whole short))

-- the sums are those of the kept sets where a full cycle is kept
pub sums_before-full : (window : Kept) (pushed : List SampleSet) → StandsFor window pushed → length window.sets ≡ window.cycle
    → sums_before window.cycle pushed window.next ≡ Some (sums_of window.cycle window.sets)
sums_before-full window pushed stands full =
    ap (option_map (sums_of window.cycle)) (rw full at stands.kept)
