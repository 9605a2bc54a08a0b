-- Where the values of each phase add up to zero over the stations, the differential current of both sequences is zero.
use Rattle.std.proofs.Common.{◌≡◌, ◌∙◌, ap, refl, ℕ, suc, ◌*◌, ◌<◌, ◌&&◌, pos, false, List, [], Option, Some, None, option_map, take, arith}
use Rattle.std.specs.List.{All}
use Rattle.std.specs.Prelude.{nat_lt}
use Rattle.std.proofs.lemmas.Bool.{le-ltb}
use Rattle.ld_base.specs.declared.fields.Fields.{Fields}
use Rattle.ld_base.specs.declared.phases.SampleSet.{SampleSet}
use Rattle.phasor.specs.Point.{Point, origin, plus, scaled, total}
use Rattle.phasor.specs.Sum.{sets_before, sums_of}
use Rattle.phasor.proofs.Lookups.{All-sets_before}
use Rattle.alpha_plane.specs.Inside.{Sector, norm, square}
use Rattle.alpha_plane.specs.Outside.{OutsideBeyond, each_outside, pickup_limit}
use Rattle.alpha_plane.specs.Product.{product}
use Rattle.trip_logic.specs.Through.{sum_over_stations, IsThrough}
use Rattle.trip_logic.specs.TripAt.{Test, OutBy, passes_where_known, sector_of}
use Rattle.trip_logic.proofs.Through.{total-zero}
use Rattle.sequence_element.specs.Sequences.{backwards, forwards, negative_sequence, zero_sequence, turned_sum}
use Rattle.sequence_element.specs.SequenceOut.{of_stations, is_zero_outside, is_negative_outside}
use Rattle.sequence_element.proofs.Linear.{phase_total, product-origin, total-zero_sequence, total-turned_sum}

-- no differential current passes no limit
not_outside : (s : Sector) (limit : ℕ) (currents : List Point) → total currents ≡ origin → OutsideBeyond s limit currents ≡ false
not_outside s limit currents none =
    ap (λ p. nat_lt (square limit) (4 * norm p) && each_outside s [] currents) none
    ∙ ap (λ b. b && each_outside s [] currents) (le-ltb _ _ (omega arith))

-- the sums of the first stations add up to zero in each phase
AddUpToZero : ℕ → List (List Point) → Type 0
AddUpToZero stations sums = (phase : ℕ) → phase < 3 → phase_total phase (take stations sums) ≡ origin

-- then so do their sequences
zero_total : (stations : ℕ) (sums : List (List Point)) → AddUpToZero stations sums → total (of_stations zero_sequence stations sums) ≡ origin
unfolding AddUpToZero
zero_total stations sums none =
    total-zero_sequence (take stations sums)
    ∙ (λ i. plus (plus (none 0 (omega arith) i) (none 1 (omega arith) i)) (none 2 (omega arith) i))

turned_total : (g h : Point) (stations : ℕ) (sums : List (List Point)) → AddUpToZero stations sums
    → total (of_stations (turned_sum g h) stations sums) ≡ origin
unfolding AddUpToZero
turned_total g h stations sums none =
    total-turned_sum g h (take stations sums)
    ∙ (λ i. plus (plus (scaled (pos 1024) (none 0 (omega arith) i)) (product g (none 1 (omega arith) i))) (product h (none 2 (omega arith) i)))
    ∙ (λ i. plus (plus origin (product-origin g i)) (product-origin h i))

-- a test that isn't passed where they add up to zero is never passed by current through the line
test-through : (f : Fields) (test : Test) (judged : List SampleSet) (n : ℕ) → ((sums : List (List Point)) → AddUpToZero f.stations sums → test sums ≡ false)
    → ((phase : ℕ) → phase < 3 → IsThrough f judged phase n) → OutBy test f.cycle judged n ≡ false
unfolding AddUpToZero
test-through f test judged n failed through =
    by (sets_before judged f.cycle (suc n))
    (λ phase within all. All-sets_before (λ set. sum_over_stations f.stations phase set ≡ pos 0) judged f.cycle (suc n) all
    (λ k from below. through phase within k (omega arith) (omega arith)))
  where
    by : (sets : Option (List SampleSet))
        → ((phase : ℕ) → phase < 3 → (all : List SampleSet) → sets ≡ Some all → All (λ set. sum_over_stations f.stations phase set ≡ pos 0) all)
        → passes_where_known test (option_map (sums_of f.cycle) sets) ≡ false
    by None all_zero = refl
    by (Some sets) all_zero = failed (sums_of f.cycle sets) (λ phase within. total-zero f.cycle phase sets f.stations within (all_zero phase within sets refl))

-- so neither sequence is
pub zero-through : (f : Fields) (pickup : ℕ) (judged : List SampleSet) (n : ℕ) → ((phase : ℕ) → phase < 3 → IsThrough f judged phase n)
    → OutBy (is_zero_outside f pickup) f.cycle judged n ≡ false
zero-through f pickup judged n =
    test-through f (is_zero_outside f pickup) judged n (λ sums none. not_outside (sector_of f) (pickup_limit pickup f.cycle) (of_stations zero_sequence f.stations sums) (zero_total f.stations sums none))

pub negative-through : (f : Fields) (pickup : ℕ) (judged : List SampleSet) (n : ℕ) → ((phase : ℕ) → phase < 3 → IsThrough f judged phase n)
    → OutBy (is_negative_outside f pickup) f.cycle judged n ≡ false
negative-through f pickup judged n =
    test-through f (is_negative_outside f pickup) judged n (λ sums none. not_outside (sector_of f) (pickup_limit pickup f.cycle * 1024) (of_stations negative_sequence f.stations sums)
    (turned_total forwards backwards f.stations sums none))
