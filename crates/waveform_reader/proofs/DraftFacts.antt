-- What the records so far say of each station.
use Rattle.std.proofs.Common.{◌≡◌, refl, arith, ℕ, zero, suc, ◌-◌, ◌≤◌, List, [], ◌∷◌}
use Rattle.std.specs.Prelude.{slice_index}
use Rattle.waveform_reader.specs.Draft.{latest}
use Rattle.waveform_reader.specs.declared.shape.ShapeFrom.{ShapeFrom}

-- the greatest first ticks of the three stations, at a station's place
pub newest_is : (station : ℕ) (shapes : List ShapeFrom) → 1 ≤ station → station ≤ 3
    → slice_index (latest 1 shapes ∷ latest 2 shapes ∷ latest 3 shapes ∷ []) (station - 1) ≡ latest station shapes
newest_is zero shapes low high = absurd (omega arith)
newest_is (suc zero) shapes low high = refl
newest_is (suc (suc zero)) shapes low high = refl
newest_is (suc (suc (suc zero))) shapes low high = refl
newest_is (suc (suc (suc (suc n)))) shapes low high = absurd (omega arith)
