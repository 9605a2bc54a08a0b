-- The numbers of a row, and the ranges in which they lie.
use Rattle.std.specs.Prelude.{ℕ, Bool, ◌&&◌, int_le, ℤ, pos, List, [], ◌∷◌, Option, Some, None, slice_index_or}
use Rattle.row_reader.specs.Numbers.{number}
use Rattle.row_reader.specs.Rows.{Row}

-- a number in front of others, where all are there
abbrev pub both : Option ℤ → Option (List ℤ) → Option (List ℤ)
both None rest = None
both (Some first) None = None
both (Some first) (Some rest) = Some (first ∷ rest)

-- the numbers of some fields, where each field is one
abbrev pub numbers_of : Row → Option (List ℤ)
numbers_of [] = Some []
numbers_of (field ∷ fields) = both (number field) (numbers_of fields)

-- the number at a place
abbrev pub number_at : List ℤ → ℕ → ℤ
number_at numbers place = slice_index_or numbers place (pos 0)

-- whether a number lies in a range, its least and its greatest number included
abbrev pub is_between : ℤ × ℤ → ℤ → Bool
is_between range number = int_le range.0 number && int_le number range.1
