-- The fields of a row by their places.
use Rattle.std.proofs.Common.{◌≡◌, refl, ℕ, zero, suc, [], ◌∷◌}
use Rattle.std.specs.Prelude.{unwrap_or}
use Rattle.csv.specs.Records.{field_at}
use Rattle.row_reader.specs.Rows.{Row}
use Rattle.row_reader.specs.RowFields.{field_of}

-- the field at a place, or an empty one
pub field_at_or : (fields : Row) (place : ℕ) → field_of fields place ≡ unwrap_or (field_at fields place) []
unfolding field_at
field_at_or [] place = refl
field_at_or (f ∷ fields) zero = refl
field_at_or (f ∷ fields) (suc place) = field_at_or fields place
