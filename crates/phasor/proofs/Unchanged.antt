-- Where the values of a station stay, so do its sums.
use Rattle.std.proofs.Common.{◌≡◌, ap, ℤ, pos, ◌+ℤ◌, ◌-ℤ◌, ◌*ℤ◌, List, [], ◌∷◌, length, arith}
use Rattle.std.proofs.Math.IntN.{zero-*ℤ}
use Rattle.std.proofs.lemmas.Int.{ints}
use Rattle.ld_base.specs.declared.phases.Phases.{Phases}
use Rattle.phasor.specs.Changes.{changed_station}
use Rattle.phasor.specs.Point.{Point, plus, scaled}
use Rattle.phasor.proofs.Points.{same_point}

-- a part of a sum
part : (x v w f : ℤ) → v ≡ w → x ≡ x +ℤ (v -ℤ w) *ℤ f
part x v w f same =
    let none : v -ℤ w ≡ pos 0 = omega (arith, ints) in
    rw (none, zero-*ℤ f) (omega (arith, ints))

-- a sum
point : (p f : Point) (v w : ℤ) → v ≡ w → p ≡ plus p (scaled (v -ℤ w) f)
point p f v w same = same_point _ _ (part p.re v w f.re same) (part p.im v w f.im same)

pub unchanged : (sums : List Point) (newest oldest : Phases) (factor : Point) → length sums ≡ 3 → newest ≡ oldest
    → sums ≡ changed_station sums newest oldest factor
unchanged [] newest oldest factor three same = absurd (omega arith)
unchanged (p ∷ []) newest oldest factor three same = absurd (omega arith)
unchanged (p ∷ q ∷ []) newest oldest factor three same = absurd (omega arith)
unchanged (p ∷ q ∷ r ∷ []) newest oldest factor three same = λ i.
    point p factor newest.a oldest.a (ap (λ (s : Phases). s.a) same) i
    ∷ point q factor newest.b oldest.b (ap (λ (s : Phases). s.b) same) i
    ∷ point r factor newest.c oldest.c (ap (λ (s : Phases). s.c) same) i ∷ []
unchanged (p ∷ q ∷ r ∷ s ∷ more) newest oldest factor three same = absurd (omega arith)
