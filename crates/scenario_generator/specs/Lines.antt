-- The stations of a generated scenario and the lines between them. (This project's own.)
use Rattle.std.specs.Prelude.{ℕ, ◌&&◌, nat_le, List, [], ◌∷◌, filter, length, slice_index_or}

-- a directed line: its sender and its receiver
abbrev pub Line : Type 0
Line = ℕ × ℕ

-- the lines between so many stations, by sender and then by receiver
abbrev pub lines_of : ℕ → List Line
lines_of stations =
    filter (λ line. nat_le line.0 stations && nat_le line.1 stations)
    ((1, 2) ∷ (1, 3) ∷ (2, 1) ∷ (2, 3) ∷ (3, 1) ∷ (3, 2) ∷ [])

-- how many there are
abbrev pub line_count : ℕ → ℕ
line_count stations = length (lines_of stations)

-- the line of a number, the first of which is 0
abbrev pub line_at : ℕ → ℕ → Line
line_at stations number = slice_index_or (lines_of stations) number (0, 0)
