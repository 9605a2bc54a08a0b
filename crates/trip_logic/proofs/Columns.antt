-- One phase of the sums, for as many stations as there are.
use Rattle.std.proofs.Common.{◌≡◌, ℕ, ◌<◌, List, [], ◌∷◌, length, take, slice_index_or, arith}
use Rattle.std.specs.List.{All}
use Rattle.std.proofs.lemmas.List.{get_or_default, take-map}
use Rattle.std.proofs.lemmas.List.Elements.{All-map, All-take}
use Rattle.phasor.specs.Point.{Point, IsWithin, origin}
use Rattle.phasor.specs.Sizes.{AreWithin}
use Rattle.trip_logic.specs.TripAt.{column}

-- the phase's sum of a station
abbrev at_phase : ℕ → List Point → Point
at_phase phase station = slice_index_or station phase origin

-- the sums of a phase, read one by one
pub column_read : (sums : List (List Point)) (stations phase : ℕ) (a b c : Point) → length sums ≡ 3
    → phase < length (slice_index_or sums 0 [])
    → phase < length (slice_index_or sums 1 []) → phase < length (slice_index_or sums 2 [])
    → take stations (slice_index_or (slice_index_or sums 0 []) phase a ∷ slice_index_or (slice_index_or sums 1 []) phase b
    ∷ slice_index_or (slice_index_or sums 2 []) phase c ∷ [])
    ≡ column stations phase sums
column_read [] stations phase a b c three ha hb hc = absurd (omega arith)
column_read (x ∷ []) stations phase a b c three ha hb hc = absurd (omega arith)
column_read (x ∷ y ∷ []) stations phase a b c three ha hb hc = absurd (omega arith)
column_read (x ∷ y ∷ z ∷ []) stations phase a b c three ha hb hc =
    rw (get_or_default x phase a origin ha, get_or_default y phase b origin hb, get_or_default z phase c origin hc)
    (take-map (at_phase phase) stations (x ∷ y ∷ z ∷ []))
column_read (x ∷ y ∷ z ∷ u ∷ more) stations phase a b c three ha hb hc = absurd (omega arith)

-- they are no larger than all sums
pub All-column : (bits : ℕ) (sums : List (List Point)) (stations phase : ℕ) → AreWithin bits sums
    → All (IsWithin bits) (column stations phase sums)
All-column bits sums stations phase size =
    All-map (IsWithin bits) (at_phase phase) (take stations sums)
    (All-take (λ station. IsWithin bits (at_phase phase station)) stations sums (λ k d within. rw (get_or_default sums k d [] within) (size k phase)))
