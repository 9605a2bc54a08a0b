-- The sequences are linear: of each station and of all together.
use Rattle.std.proofs.Common.{◌≡◌, ◌∙◌, sym, ap, refl, ℕ, ℤ, pos, ◌+ℤ◌, ◌-ℤ◌, ◌*ℤ◌, List, [], ◌∷◌, map, arith}
use Rattle.std.proofs.Math.IntN.{*ℤ-zero}
use Rattle.std.proofs.lemmas.Int.{ints}
use Rattle.phasor.specs.Point.{Point, origin, plus, scaled, total}
use Rattle.phasor.proofs.Points.{same_point}
use Rattle.phasor.proofs.Differences.{*ℤ-+ℤ}
use Rattle.alpha_plane.specs.Product.{product}
use Rattle.sequence_element.specs.Sequences.{of_phase, zero_sequence, turned_sum}

-- a factor goes into a sum
scaled-plus : (k : ℤ) (p q : Point) → scaled k (plus p q) ≡ plus (scaled k p) (scaled k q)
scaled-plus k p q = same_point _ _ (*ℤ-+ℤ k p.re q.re) (*ℤ-+ℤ k p.im q.im)

-- and so does a turn
product-plus : (z p q : Point) → product z (plus p q) ≡ plus (product z p) (product z q)
product-plus z p q = same_point _ _
    (regrouped (z.re *ℤ p.re) (z.re *ℤ q.re) (z.im *ℤ p.im) (z.im *ℤ q.im) _ _ (*ℤ-+ℤ z.re p.re q.re) (*ℤ-+ℤ z.im p.im q.im))
    (added (z.re *ℤ p.im) (z.re *ℤ q.im) (z.im *ℤ p.re) (z.im *ℤ q.re) _ _ (*ℤ-+ℤ z.re p.im q.im) (*ℤ-+ℤ z.im p.re q.re))
  where
    regrouped : (a b c d e f : ℤ) → e ≡ a +ℤ b → f ≡ c +ℤ d → e -ℤ f ≡ (a -ℤ c) +ℤ (b -ℤ d)
    regrouped a b c d e f he hf = omega (arith, ints)

    added : (a b c d e f : ℤ) → e ≡ a +ℤ b → f ≡ c +ℤ d → e +ℤ f ≡ (a +ℤ c) +ℤ (b +ℤ d)
    added a b c d e f he hf = omega (arith, ints)

-- nothing turned is nothing
pub product-origin : (z : Point) → product z origin ≡ origin
product-origin z = same_point _ _ (rw (*ℤ-zero z.re, *ℤ-zero z.im) refl) (rw (*ℤ-zero z.re, *ℤ-zero z.im) refl)

-- sums of three, added up
three-plus : (a b c p q r : Point) → plus (plus (plus a b) c) (plus (plus p q) r) ≡ plus (plus (plus a p) (plus b q)) (plus c r)
three-plus a b c p q r = same_point _ _ (omega (arith, ints)) (omega (arith, ints))

-- the sums of one phase of all stations
abbrev pub phase_total : ℕ → List (List Point) → Point
phase_total phase sums = total (map (of_phase phase) sums)

-- the zero sequences add up to that of the phases added up
pub total-zero_sequence : (sums : List (List Point))
    → total (map zero_sequence sums) ≡ plus (plus (phase_total 0 sums) (phase_total 1 sums)) (phase_total 2 sums)
total-zero_sequence [] = refl
total-zero_sequence (station ∷ sums) =
    ap (plus (zero_sequence station)) (total-zero_sequence sums)
    ∙ three-plus (of_phase 0 station) (of_phase 1 station) (of_phase 2 station) (phase_total 0 sums) (phase_total 1 sums) (phase_total 2 sums)

-- and so do the turned ones
pub total-turned_sum : (g h : Point) (sums : List (List Point))
    → total (map (turned_sum g h) sums)
    ≡ plus (plus (scaled (pos 1024) (phase_total 0 sums)) (product g (phase_total 1 sums))) (product h (phase_total 2 sums))
total-turned_sum g h [] = λ i. plus (plus origin (sym (product-origin g) i)) (sym (product-origin h) i)
total-turned_sum g h (station ∷ sums) =
    ap (plus (turned_sum g h station)) (total-turned_sum g h sums)
    ∙ three-plus (scaled (pos 1024) (of_phase 0 station)) (product g (of_phase 1 station)) (product h (of_phase 2 station))
    (scaled (pos 1024) (phase_total 0 sums)) (product g (phase_total 1 sums)) (product h (phase_total 2 sums))
    ∙ (λ i. plus (plus (sym (scaled-plus (pos 1024) (of_phase 0 station) (phase_total 0 sums)) i)
    (sym (product-plus g (of_phase 1 station) (phase_total 1 sums)) i)) (sym (product-plus h (of_phase 2 station) (phase_total 2 sums)) i))
