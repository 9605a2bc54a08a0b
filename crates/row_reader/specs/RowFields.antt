-- The fields of a row by their places.
use Rattle.std.specs.Prelude.{ℕ, List, [], slice_index_or}
use Rattle.row_reader.specs.Rows.{Row}

-- the field at a place of a row, or an empty one where there is none
abbrev pub field_of : Row → ℕ → List ℕ
field_of row place = slice_index_or row place []

-- the first field of a row
abbrev pub name_of : Row → List ℕ
name_of row = field_of row 0
