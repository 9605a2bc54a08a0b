-- Sums of cycles are linear in the values.
use Rattle.std.proofs.Common.{◌≡◌, ◌∙◌, ap, refl, ℤ, pos, ◌+ℤ◌, ◌*ℤ◌, ℕ, List, [], ◌∷◌, fold, arith}
use Rattle.std.specs.List.{All}
use Rattle.std.proofs.Math.IntN.{zero-*ℤ}
use Rattle.std.proofs.lemmas.Int.{ints}
use Rattle.std.proofs.lemmas.List.Elements.{All-head, All-tail}
use Rattle.ld_base.specs.declared.phases.SampleSet.{SampleSet}
use Rattle.phasor.specs.Factors.{factor, weighed}
use Rattle.phasor.specs.Point.{Point, origin, plus}
use Rattle.phasor.specs.Sum.{sum_of}
use Rattle.phasor.proofs.Differences.{+ℤ-*ℤ}
use Rattle.phasor.proofs.Points.{same_point}

-- the sum of these sets' values, going on from a point
abbrev pub sum_from : ℕ → (SampleSet → ℤ) → Point → List SampleSet → Point
sum_from c value p sets = fold (λ sum set. plus sum (weighed c set.number (value set))) p sets

-- the sum of two values each is that of the ones and that of the others
module _ (c : ℕ) (u v : SampleSet → ℤ) where
  sum_from-plus : (p q : Point) (sets : List SampleSet)
      → sum_from c (λ set. u set +ℤ v set) (plus p q) sets ≡ plus (sum_from c u p sets) (sum_from c v q sets)
  sum_from-plus p q [] = refl
  sum_from-plus p q (set ∷ sets) =
      ap (λ r. sum_from c (λ s. u s +ℤ v s) r sets) (taken p q (u set) (v set) (factor c set.number))
      ∙ sum_from-plus (plus p (weighed c set.number (u set))) (plus q (weighed c set.number (v set))) sets
    where
      part : (x y a b f : ℤ) → (x +ℤ y) +ℤ (a +ℤ b) *ℤ f ≡ (x +ℤ a *ℤ f) +ℤ (y +ℤ b *ℤ f)
      part x y a b f = let one = a *ℤ f in let other = b *ℤ f in rw (+ℤ-*ℤ a b f) (omega (arith, ints))

      taken : (p q : Point) (a b : ℤ) (f : Point)
          → ◌≡◌ {A = Point} (record { re = (p.re +ℤ q.re) +ℤ (a +ℤ b) *ℤ f.re; im = (p.im +ℤ q.im) +ℤ (a +ℤ b) *ℤ f.im })
          (record { re = (p.re +ℤ a *ℤ f.re) +ℤ (q.re +ℤ b *ℤ f.re); im = (p.im +ℤ a *ℤ f.im) +ℤ (q.im +ℤ b *ℤ f.im) })
      taken p q a b f = same_point _ _ (part p.re q.re a b f.re) (part p.im q.im a b f.im)

  pub sum_of-plus : (sets : List SampleSet) → sum_of c (λ set. u set +ℤ v set) sets ≡ plus (sum_of c u sets) (sum_of c v sets)
  sum_of-plus sets = sum_from-plus origin origin sets

-- values that are all zero add up to nothing
pub sum_of-zero : (c : ℕ) (v : SampleSet → ℤ) (sets : List SampleSet) → All (λ set. v set ≡ pos 0) sets → sum_of c v sets ≡ origin
sum_of-zero c v [] all = refl
sum_of-zero c v (set ∷ sets) all =
    let none : v set ≡ pos 0 = All-head (λ s. v s ≡ pos 0) set sets all in
    ap (λ p. sum_from c v p sets) (nothing (v set) (factor c set.number) none) ∙ sum_of-zero c v sets (All-tail (λ s. v s ≡ pos 0) set sets all)
  where
    nothing : (a : ℤ) (f : Point) → a ≡ pos 0 → ◌≡◌ {A = Point} (record { re = pos 0 +ℤ a *ℤ f.re; im = pos 0 +ℤ a *ℤ f.im }) origin
    nothing a f none = rw (none, zero-*ℤ f.re, zero-*ℤ f.im) refl
