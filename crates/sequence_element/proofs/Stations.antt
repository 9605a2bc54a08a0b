-- A sequence of each station, for as many stations as there are.
use Rattle.std.proofs.Common.{◌≡◌, ◌∙◌, ℕ, List, [], ◌∷◌, length, take, slice_index_or, arith}
use Rattle.std.proofs.lemmas.List.{take-map}
use Rattle.phasor.specs.Point.{Point}
use Rattle.sequence_element.specs.SequenceOut.{of_stations}

-- the sequences of three stations, of which the first are taken
pub sequences_read : (sequence : List Point → Point) (sums : List (List Point)) (stations : ℕ) (a b c : Point) → length sums ≡ 3
    → a ≡ sequence (slice_index_or sums 0 []) → b ≡ sequence (slice_index_or sums 1 []) → c ≡ sequence (slice_index_or sums 2 [])
    → take stations (a ∷ b ∷ c ∷ []) ≡ of_stations sequence stations sums
sequences_read sequence [] stations a b c three ha hb hc = absurd (omega arith)
sequences_read sequence (x ∷ []) stations a b c three ha hb hc = absurd (omega arith)
sequences_read sequence (x ∷ y ∷ []) stations a b c three ha hb hc = absurd (omega arith)
sequences_read sequence (x ∷ y ∷ z ∷ []) stations a b c three ha hb hc =
    (λ i. take stations (ha i ∷ hb i ∷ hc i ∷ [])) ∙ take-map sequence stations (x ∷ y ∷ z ∷ [])
sequences_read sequence (x ∷ y ∷ z ∷ u ∷ more) stations a b c three ha hb hc = absurd (omega arith)
