-- The sums of the kept sets once a set came in, and the oldest went out where a full cycle was kept.
use Rattle.std.proofs.Common.{◌≡◌, ◌∙◌, sym, ap, refl, ℕ, zero, suc, ◌+◌, ◌<◌, ◌≤◌, ℤ, pos, ◌+ℤ◌, ◌-ℤ◌, ◌*ℤ◌, List, [], ◌∷◌, ◌++◌, length, slice_index_or, inl, inr, arith}
use Rattle.std.specs.List.{All}
use Rattle.std.proofs.Math.Nat.{add-mod_right}
use Rattle.std.proofs.lemmas.Bool.{cases_lt}
use Rattle.std.proofs.lemmas.Int.{ints}
use Rattle.std.proofs.lemmas.List.{length_push}
use Rattle.std.proofs.lemmas.List.Elements.{All-push, All-tail}
use Rattle.std.proofs.lemmas.List.Sums.{fold_push}
use Rattle.ld_base.specs.declared.phases.Phases.{Phases}
use Rattle.ld_base.specs.declared.phases.SampleSet.{SampleSet}
use Rattle.phasor.specs.Changes.{changed}
use Rattle.phasor.specs.Factors.{factor, weighed}
use Rattle.phasor.specs.Point.{Point, origin, plus, scaled}
use Rattle.phasor.specs.Ring.{quiet, IsPushed}
use Rattle.phasor.specs.Sizes.{IsOfSamples}
use Rattle.ld_base.specs.Phases.{no_current}
use Rattle.phasor.specs.Sum.{phase_of, current, sum_of, sums_of}
use Rattle.phasor.specs.Window.{Kept}
use Rattle.phasor.proofs.Differences.{number, sum, negation, times, equal}
use Rattle.phasor.proofs.Linear.{sum_from}
use Rattle.phasor.proofs.Points.{same_point}

-- a difference of two values by a factor
difference-*ℤ : (a b f : ℤ) → (a -ℤ b) *ℤ f ≡ a *ℤ f -ℤ b *ℤ f
difference-*ℤ a b f =
    let x = number a in
    let y = number b in
    let z = number f in
    equal (times (sum x (negation y)) z) (sum (times x z) (negation (times y z))) (omega arith)

module _ (c : ℕ) (value : SampleSet → ℤ) where
  -- a sum that goes on from p and q is the one from p, and q
  sum_from-shift : (p q : Point) (sets : List SampleSet) → sum_from c value (plus p q) sets ≡ plus (sum_from c value p sets) q
  sum_from-shift p q [] = refl
  sum_from-shift p q (set ∷ sets) =
      ap (λ r. sum_from c value r sets) (swapped p q (weighed c set.number (value set))) ∙ sum_from-shift (plus p (weighed c set.number (value set))) q sets
    where
      swapped : (p q r : Point) → plus (plus p q) r ≡ plus (plus p r) q
      swapped p q r = same_point _ _ (omega (arith, ints)) (omega (arith, ints))

  -- one set more
  sum_of-room : (sets : List SampleSet) (set : SampleSet) (none : ℤ) → none ≡ pos 0
      → sum_of c value (sets ++ set ∷ []) ≡ plus (sum_of c value sets) (scaled (value set -ℤ none) (factor c set.number))
  sum_of-room sets set none zero_is =
      fold_push (λ sum set. plus sum (weighed c set.number (value set))) origin sets set
      ∙ ap (λ v. plus (sum_of c value sets) (scaled v (factor c set.number))) (whole (value set) none zero_is)
    where
      whole : (v none : ℤ) → none ≡ pos 0 → v ≡ v -ℤ none
      whole v none zero_is = omega (arith, ints)

  -- one set more for one a whole cycle before it, which has the same factor
  sum_of-full : (oldest : SampleSet) (rest : List SampleSet) (set : SampleSet) → oldest.number + c ≡ set.number
      → sum_of c value (rest ++ set ∷ []) ≡ plus (sum_of c value (oldest ∷ rest)) (scaled (value set -ℤ value oldest) (factor c set.number))
  sum_of-full oldest rest set cycle_apart =
      fold_push (λ sum set. plus sum (weighed c set.number (value set))) origin rest set
      ∙ turned (sum_of c value rest) (value oldest) (value set) (factor c set.number)
      ∙ ap (λ f. plus (plus (sum_of c value rest) (scaled (value oldest) f)) (scaled (value set -ℤ value oldest) (factor c set.number))) one_factor
      ∙ ap (λ p. plus p (scaled (value set -ℤ value oldest) (factor c set.number))) (sym (sum_from-shift origin (weighed c oldest.number (value oldest)) rest))
    where
      one_factor : factor c set.number ≡ factor c oldest.number
      one_factor = rw (← cycle_apart, add-mod_right oldest.number c) refl

      part : (x old new f : ℤ) → x +ℤ new *ℤ f ≡ (x +ℤ old *ℤ f) +ℤ (new -ℤ old) *ℤ f
      part x old new f = let one = old *ℤ f in let other = new *ℤ f in rw (difference-*ℤ new old f) (omega (arith, ints))

      turned : (p : Point) (old new : ℤ) (f : Point) → plus p (scaled new f) ≡ plus (plus p (scaled old f)) (scaled (new -ℤ old) f)
      turned p old new f = same_point _ _ (part p.re old new f.re) (part p.im old new f.im)

-- no current is zero everywhere
quiet_at : (station phase : ℕ) → phase_of phase (slice_index_or quiet station no_current) ≡ pos 0
quiet_at station phase = by station phase
  where
    none : (phase : ℕ) → phase_of phase no_current ≡ pos 0
    none zero = refl
    none (suc zero) = refl
    none (suc (suc phase)) = refl

    by : (station phase : ℕ) → phase_of phase (slice_index_or quiet station no_current) ≡ pos 0
    by zero phase = none phase
    by (suc zero) phase = none phase
    by (suc (suc zero)) phase = none phase
    by (suc (suc (suc station))) phase = none phase

-- the sums change as each of them does
sums_of-changed : (c : ℕ) (old new : List SampleSet) (set : SampleSet) (leaving : List Phases)
    → ((station phase : ℕ) → sum_of c (current station phase) new
    ≡ plus (sum_of c (current station phase) old) (scaled (current station phase set -ℤ phase_of phase (slice_index_or leaving station no_current)) (factor c set.number)))
    → sums_of c new ≡ changed (sums_of c old) set.values leaving (factor c set.number)
sums_of-changed c old new set leaving each = λ i.
    (each 0 0 i ∷ each 0 1 i ∷ each 0 2 i ∷ []) ∷ (each 1 0 i ∷ each 1 1 i ∷ each 1 2 i ∷ []) ∷ (each 2 0 i ∷ each 2 1 i ∷ each 2 2 i ∷ []) ∷ []

-- what holds where a set comes in and where one goes out for it too, holds of each push
pub pushed_by : (P : List SampleSet → List SampleSet → List Phases → Type 0) (ring new : Kept) (set : SampleSet) (leaving : List Phases)
    → IsPushed ring new set leaving → length ring.sets ≤ ring.cycle → 0 < ring.cycle
    → (length ring.sets < ring.cycle → P ring.sets (ring.sets ++ set ∷ []) quiet)
    → ((oldest : SampleSet) (rest : List SampleSet) → ring.sets ≡ oldest ∷ rest → length ring.sets ≡ ring.cycle → oldest.number + ring.cycle ≡ ring.next
    → P ring.sets (rest ++ set ∷ []) oldest.values)
    → P ring.sets new.sets leaving
pushed_by P ring new set leaving pushed few some in_room in_full = elim (cases_lt (length ring.sets) ring.cycle) [
  | inl room ↦ rw (pushed.room room, pushed.leaves.room room) (in_room room)
  | inr reached ↦ by ring.sets refl (omega arith)
]
  where
    by : (sets : List SampleSet) → ring.sets ≡ sets → length ring.sets ≡ ring.cycle → P ring.sets new.sets leaving
    by [] is whole = let none : length ring.sets ≡ 0 = ap length is in absurd (omega arith)
    by (oldest ∷ rest) is whole =
        let leaves = pushed.leaves.full oldest rest whole is in
        rw (pushed.full oldest rest whole is, leaves.0) (in_full oldest rest is whole leaves.1)

-- so the sums stay those of the kept sets
pub sums_of-pushed : (ring new : Kept) (set : SampleSet) (leaving : List Phases) → IsPushed ring new set leaving
    → length ring.sets ≤ ring.cycle
    → 0 < ring.cycle → set.number ≡ ring.next
    → sums_of ring.cycle new.sets ≡ changed (sums_of ring.cycle ring.sets) set.values leaving (factor ring.cycle set.number)
sums_of-pushed ring new set leaving pushed few some follows =
    pushed_by (λ old sets out. sums_of ring.cycle sets ≡ changed (sums_of ring.cycle old) set.values out (factor ring.cycle set.number)) ring new set leaving pushed few some
    (λ room. sums_of-changed ring.cycle ring.sets (ring.sets ++ set ∷ []) set quiet
    (λ station phase. sum_of-room ring.cycle (current station phase) ring.sets set _ (quiet_at station phase)))
    (λ oldest rest is whole cycle_apart.
    let apart : oldest.number + ring.cycle ≡ set.number = omega arith in
    sums_of-changed ring.cycle (oldest ∷ rest) (rest ++ set ∷ []) set oldest.values (λ station phase. sum_of-full ring.cycle (current station phase) oldest rest set apart)
    ∙ ap (λ old. changed (sums_of ring.cycle old) set.values oldest.values (factor ring.cycle set.number)) (sym is))

-- the kept sets are samples
pub All-pushed : (ring new : Kept) (set : SampleSet) (leaving : List Phases) → IsPushed ring new set leaving → length ring.sets ≤ ring.cycle
    → 0 < ring.cycle → All IsOfSamples ring.sets → IsOfSamples set → All IsOfSamples new.sets
All-pushed ring new set leaving pushed few some all one =
    pushed_by (λ old sets out. All IsOfSamples sets) ring new set leaving pushed few some
    (λ room. All-push IsOfSamples ring.sets set all one)
    (λ oldest rest is whole cycle_apart. All-push IsOfSamples rest set (All-tail IsOfSamples oldest rest (rw is at all)) one)

-- and at most a cycle
pub length-pushed : (ring new : Kept) (set : SampleSet) (leaving : List Phases) → IsPushed ring new set leaving
    → length ring.sets ≤ ring.cycle
    → 0 < ring.cycle → length new.sets ≤ ring.cycle
length-pushed ring new set leaving pushed few some =
    pushed_by (λ old sets out. length sets ≤ ring.cycle) ring new set leaving pushed few some
    (λ room. omega (arith, length_push ring.sets set))
    (λ oldest rest is whole cycle_apart. omega (arith, length_push rest set, ap length is))

-- the same as the code computes the next sums
pub sums_next : (ring new : Kept) (set : SampleSet) (leaving : List Phases) (sums next : List (List Point)) (cycle : ℕ) (f : Point)
    → IsPushed ring new set leaving
    → length ring.sets ≤ ring.cycle → 0 < ring.cycle → ring.next ≡ set.number → sums ≡ sums_of ring.cycle ring.sets → cycle ≡ new.cycle
    → f ≡ factor cycle set.number → next ≡ changed sums set.values leaving f → next ≡ sums_of new.cycle new.sets
sums_next ring new set leaving sums next cycle f pushed few some follows sums_are cycle_is f_is next_is =
    let same : cycle ≡ ring.cycle = cycle_is ∙ pushed.cycle in
    next_is
    ∙ (λ i. changed (sums_are i) set.values leaving ((f_is ∙ ap (λ c. factor c set.number) same) i))
    ∙ sym (sums_of-pushed ring new set leaving pushed few some (sym follows))
    ∙ ap (λ c. sums_of c new.sets) (sym pushed.cycle)
