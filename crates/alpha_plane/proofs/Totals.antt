-- Totals of points: at a loop's step, and with one of the points taken away again.
use Rattle.std.proofs.Common.{◌≡◌, ◌∙◌, sym, ap, ℕ, ◌+◌, ◌<◌, List, [], ◌∷◌, ◌++◌, length, get_or, take, arith}
use Rattle.std.proofs.lemmas.Int.{ints}
use Rattle.std.proofs.lemmas.List.{take_more}
use Rattle.ld_base.proofs.Sizes.{unsigned_abs-add}
use Rattle.phasor.proofs.Points.{same_point}
use Rattle.phasor.specs.Point.{Point, origin, plus, minus, total}

-- the sum of three points does not depend on their grouping
plus_assoc : (p q r : Point) → plus p (plus q r) ≡ plus (plus p q) r
plus_assoc p q r = same_point _ _ (omega (arith, ints)) (omega (arith, ints))

-- the origin adds nothing, on either side
pub plus-origin : (p : Point) → plus p origin ≡ p
plus-origin p = same_point _ _ (omega (arith, ints)) (omega (arith, ints))

origin-plus : (p : Point) → plus origin p ≡ p
origin-plus p = same_point _ _ (omega (arith, ints)) (omega (arith, ints))

-- the total of two lists, one after the other, is the sum of their totals
total-append : (ps qs : List Point) → total (ps ++ qs) ≡ plus (total ps) (total qs)
total-append [] qs = sym (origin-plus (total qs))
total-append (p ∷ ps) qs = ap (plus p) (total-append ps qs) ∙ plus_assoc p (total ps) (total qs)

-- one point more is added to the total
pub total_more : (ps : List Point) (i : ℕ) (d : Point) → i < length ps → total (take (i + 1) ps) ≡ plus (total (take i ps)) (get_or ps i d)
total_more ps i d h =
    let p = get_or ps i d in
    ap total (take_more ps i d h) ∙ total-append (take i ps) (p ∷ []) ∙ ap (plus (total (take i ps))) (plus-origin p)

-- one point less is taken from it
pub total-without : (before rest : List Point) (p : Point) → total (before ++ rest) ≡ minus (total (before ++ p ∷ rest)) p
total-without before rest p = total-append before rest ∙ taken (total before) (total rest) ∙ ap (λ t. minus t p) (sym (total-append before (p ∷ rest)))
  where
    taken : (q r : Point) → plus q r ≡ minus (plus q (plus p r)) p
    taken q r = same_point _ _ (omega (arith, ints)) (omega (arith, ints))

-- for a loop that adds
pub ruleset steps = (total_more, unsigned_abs-add)
