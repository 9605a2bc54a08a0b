-- Where the values of a phase add up to zero over the stations, its differential current is zero.
use Rattle.std.proofs.Common.{◌≡◌, ◌∙◌, sym, ap, refl, ℕ, zero, suc, ◌*◌, ◌<◌, ◌&&◌, ℤ, pos, false, List, [], Option, Some, None, option_map, slice_index_or, arith}
use Rattle.std.specs.List.{All}
use Rattle.std.specs.Prelude.{nat_lt}
use Rattle.std.proofs.lemmas.Bool.{le-ltb}
use Rattle.std.proofs.lemmas.Int.{ints}
use Rattle.ld_base.specs.declared.fields.Fields.{Fields}
use Rattle.ld_base.specs.declared.phases.SampleSet.{SampleSet}
use Rattle.phasor.specs.Factors.{scale}
use Rattle.phasor.specs.Point.{Point, origin, plus, total}
use Rattle.phasor.specs.Sum.{of_three, sets_before, current, sum_of, sums_of}
use Rattle.phasor.proofs.Linear.{sum_of-plus, sum_of-zero}
use Rattle.phasor.proofs.Lookups.{All-sets_before}
use Rattle.phasor.proofs.Points.{same_point}
use Rattle.phasor.proofs.Threes.{of_three_at}
use Rattle.alpha_plane.specs.Inside.{norm, square}
use Rattle.alpha_plane.specs.Outside.{each_outside}
use Rattle.trip_logic.specs.Through.{sum_over_stations, IsThrough}
use Rattle.trip_logic.specs.TripAt.{sector_of, column, is_outside, passes_where_known, Out}

-- the total over the stations is the sum of their values
module _ (c phase : ℕ) (sets : List SampleSet) (within : phase < 3) where
  -- a station's sum of the phase, and its place among the sums
  abbrev sum_at_station : ℕ → Point
  sum_at_station station = sum_of c (current station phase) sets

  placed : (station : ℕ) → slice_index_or (of_three (λ p. sum_of c (current station p) sets)) phase origin ≡ sum_at_station station
  placed station = of_three_at (λ p. sum_of c (current station p) sets) phase origin within

  -- the values of the first stations, added up one by one
  abbrev value_of : ℕ → SampleSet → ℤ
  value_of stations set = sum_over_stations stations phase set

  none : sum_of c (value_of 0) sets ≡ origin
  none = sum_of-zero c (value_of 0) sets (λ k d within. refl)

  one : sum_of c (value_of 1) sets ≡ plus origin (sum_at_station 0)
  one = sum_of-plus c (value_of 0) (current 0 phase) sets ∙ ap (λ p. plus p (sum_at_station 0)) none

  two : sum_of c (value_of 2) sets ≡ plus (plus origin (sum_at_station 0)) (sum_at_station 1)
  two = sum_of-plus c (value_of 1) (current 1 phase) sets ∙ ap (λ p. plus p (sum_at_station 1)) one

  three : sum_of c (value_of 3) sets ≡ plus (plus (plus origin (sum_at_station 0)) (sum_at_station 1)) (sum_at_station 2)
  three = sum_of-plus c (value_of 2) (current 2 phase) sets ∙ ap (λ p. plus p (sum_at_station 2)) two

  -- sums from the left and from the right
  total_one : (p : Point) → plus p origin ≡ plus origin p
  total_one p = same_point _ _ (omega (arith, ints)) (omega (arith, ints))

  total_two : (p q : Point) → plus p (plus q origin) ≡ plus (plus origin p) q
  total_two p q = same_point _ _ (omega (arith, ints)) (omega (arith, ints))

  total_three : (p q r : Point) → plus p (plus q (plus r origin)) ≡ plus (plus (plus origin p) q) r
  total_three p q r = same_point _ _ (omega (arith, ints)) (omega (arith, ints))

  total-column_all : total (column 3 phase (sums_of c sets)) ≡ sum_of c (value_of 3) sets
  total-column_all =
      (λ i. plus (placed 0 i) (plus (placed 1 i) (plus (placed 2 i) origin))) ∙ total_three (sum_at_station 0) (sum_at_station 1) (sum_at_station 2) ∙ sym three

  total-column : (stations : ℕ) → total (column stations phase (sums_of c sets)) ≡ sum_of c (value_of stations) sets
  total-column zero = sym none
  total-column (suc zero) = (λ i. plus (placed 0 i) origin) ∙ total_one (sum_at_station 0) ∙ sym one
  total-column (suc (suc zero)) = (λ i. plus (placed 0 i) (plus (placed 1 i) origin)) ∙ total_two (sum_at_station 0) (sum_at_station 1) ∙ sym two
  total-column (suc (suc (suc zero))) = total-column_all
  total-column (suc (suc (suc (suc stations)))) = total-column_all

-- so it is zero where these are
pub total-zero : (c phase : ℕ) (sets : List SampleSet) (stations : ℕ) → phase < 3
    → All (λ set. sum_over_stations stations phase set ≡ pos 0) sets
    → total (column stations phase (sums_of c sets)) ≡ origin
total-zero c phase sets stations within all =
    total-column c phase sets within stations ∙ sum_of-zero c (sum_over_stations stations phase) sets all

-- no differential current passes no pickup
pub Out-through : (f : Fields) (judged : List SampleSet) (phase n : ℕ) → phase < 3 → IsThrough f judged phase n
    → Out f judged phase n ≡ false
Out-through f judged phase n within through =
    by (sets_before judged f.cycle (suc n))
    (λ all. All-sets_before (λ set. sum_over_stations f.stations phase set ≡ pos 0) judged f.cycle (suc n) all (λ k from below. through k (omega arith) (omega arith)))
  where
    by : (sets : Option (List SampleSet))
        → ((all : List SampleSet) → sets ≡ Some all → All (λ set. sum_over_stations f.stations phase set ≡ pos 0) all)
        → passes_where_known (is_outside f phase) (option_map (sums_of f.cycle) sets) ≡ false
    by None all_zero = refl
    by (Some sets) all_zero =
        let none = total-zero f.cycle phase sets f.stations within (all_zero sets refl) in
        ap (λ p. nat_lt (square (f.pickup * f.cycle * scale)) (4 * norm p) && each_outside (sector_of f) [] (column f.stations phase (sums_of f.cycle sets))) none
        ∙ ap (λ b. b && each_outside (sector_of f) [] (column f.stations phase (sums_of f.cycle sets))) (le-ltb _ _ (omega arith))
