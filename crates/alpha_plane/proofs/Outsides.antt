-- The test of each station, at a loop's step and end.
use Rattle.std.proofs.Common.{◌≡◌, ◌∙◌, sym, ap, ℕ, ◌+◌, ◌<◌, ◌≤◌, Bool, true, false, refl, arith, ◌&&◌, not, List, [], ◌∷◌, ◌++◌, length, get_or, take, drop}
use Rattle.std.proofs.lemmas.List.{take_more, drop_more, drop_all, take-append-drop}
use Rattle.ld_base.proofs.Sizes.{unsigned_abs-sub}
use Rattle.phasor.specs.Point.{Point, minus, total}
use Rattle.alpha_plane.specs.Inside.{Sector, Inside}
use Rattle.alpha_plane.specs.Outside.{each_outside}
use Rattle.alpha_plane.proofs.Insides.{Inside_comm}
use Rattle.alpha_plane.proofs.Totals.{total-without, plus-origin}

-- one station more is judged, against the total without it
each_outside_more : (s : Sector) (ps : List Point) (i : ℕ) (d : Point) → i < length ps
    → each_outside s (take i ps) (drop i ps) ≡ (not (Inside s (get_or ps i d) (minus (total ps) (get_or ps i d))) && each_outside s (take (i + 1) ps) (drop (i + 1) ps))
each_outside_more s ps i d h =
    let p = get_or ps i d in
    let rest = drop (i + 1) ps in
    let whole : take i ps ++ p ∷ rest ≡ ps = ap (λ qs. take i ps ++ qs) (sym (drop_more ps i d h)) ∙ take-append-drop i ps in
    let others : total (take i ps ++ rest) ≡ minus (total ps) p = total-without (take i ps) rest p ∙ ap (λ qs. minus (total qs) p) whole in
    let before : take i ps ++ p ∷ [] ≡ take (i + 1) ps = sym (take_more ps i d h) in
    ap (each_outside s (take i ps)) (drop_more ps i d h) ∙ (λ j. not (Inside s p (others j)) && each_outside s (before j) rest)

-- the same by the values of the code: the station p, the total t, the sum of the others and the judgement
pub each_outside_judged : (s : Sector) (ps : List Point) (i : ℕ) (p t others : Point) (inside : Bool)
    → i < length ps → p ≡ get_or ps i p → t ≡ total ps → others ≡ minus t p → inside ≡ Inside s p others
    → each_outside s (take i ps) (drop i ps) ≡ (not inside && each_outside s (take (i + 1) ps) (drop (i + 1) ps))
each_outside_judged s ps i p t others inside h read sum rest judged =
    each_outside_more s ps i p h ∙ ap (λ b. not b && each_outside s (take (i + 1) ps) (drop (i + 1) ps)) (sym same)
  where
    same : inside ≡ Inside s (get_or ps i p) (minus (total ps) (get_or ps i p))
    same = judged ∙ ap (Inside s p) (rest ∙ ap (λ q. minus q p) sum) ∙ ap (λ q. Inside s q (minus (total ps) q)) read

-- no station is left at the end
pub each_outside_all : (s : Sector) (ps : List Point) (i : ℕ) → length ps ≤ i → each_outside s (take i ps) (drop i ps) ≡ true
each_outside_all s ps i h = ap (each_outside s (take i ps)) (drop_all i ps h)

-- of two stations one lies outside as the other does
two_outside : (s : Sector) (ps : List Point) (d e : Point) → length ps ≡ 2
    → not (Inside s (get_or ps 0 d) (get_or ps 1 e)) ≡ each_outside s [] ps
two_outside s [] d e two = absurd (omega arith)
two_outside s (p ∷ []) d e two = absurd (omega arith)
two_outside s (p ∷ q ∷ []) d e two =
    alike (Inside s p q)
    ∙ (λ i. not ((ap (Inside s p) (sym (plus-origin q))) i) && (not ((Inside_comm s p q ∙ ap (Inside s q) (sym (plus-origin p))) i) && true))
  where
    alike : (b : Bool) → not b ≡ (not b && (not b && true))
    alike true = refl
    alike false = refl
two_outside s (p ∷ q ∷ r ∷ more) d e two = absurd (omega arith)

-- the same by the values of the code
pub each_outside_two : (s : Sector) (ps : List Point) (p q : Point) (inside : Bool) → length ps ≡ 2 → p ≡ get_or ps 0 p → q ≡ get_or ps 1 q
    → inside ≡ Inside s p q → not inside ≡ each_outside s [] ps
each_outside_two s ps p q inside two first second judged =
    ap not (judged ∙ ap (λ l. Inside s l q) first ∙ ap (Inside s (get_or ps 0 p)) second) ∙ two_outside s ps p q two

-- for the loop over the stations
pub ruleset stations = (each_outside_all, unsigned_abs-sub)
