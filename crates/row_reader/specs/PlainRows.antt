-- Plain rows, and their text: lines of fields with commas between them.
use Rattle.std.specs.Prelude.{◌==◌, ℕ, Bool, false, ◌&&◌, ◌||◌, not, nat_lt, List, [], ◌∷◌, ◌++◌, flat_map, length}
use Rattle.std.specs.List.{list_all}
use Rattle.row_reader.specs.Rows.{Row}

-- whether a byte is an ASCII character other than a comma, a quote, a carriage return and a line feed
abbrev pub is_plain : ℕ → Bool
is_plain b = nat_lt b 128 && not ((b == 44) || (b == 34) || (b == 13) || (b == 10))

-- whether a row has plain fields alone, the first of which isn't empty
abbrev pub is_plain_row : Row → Bool
is_plain_row [] = false
is_plain_row (first ∷ rest) = nat_lt 0 (length first) && list_all (list_all is_plain) (first ∷ rest)

-- fields, each with a comma in front
abbrev pub behind_commas : Row → List ℕ
behind_commas fields = flat_map (λ field. 44 ∷ field) fields

-- the line of a row
abbrev pub line_of : Row → List ℕ
line_of [] = 10 ∷ []
line_of (first ∷ rest) = first ++ behind_commas rest ++ 10 ∷ []

-- the text of some rows
abbrev pub text_of : List Row → List ℕ
text_of rows = flat_map line_of rows
