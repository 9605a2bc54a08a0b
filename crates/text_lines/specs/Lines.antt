-- A line of text: its kind, fields each behind a comma, and its end. (This project's own; `FORMATS.md` has the lines.)
use Rattle.std.specs.Prelude.{ℕ, List, [], ◌∷◌, ◌++◌, codes}

-- the most bytes of a line
abbrev pub longest : ℕ
longest = 256

-- a field behind a comma, and the rest of its line
abbrev pub field_and : List ℕ → List ℕ → List ℕ
field_and field rest = codes "," ++ field ++ rest

-- fields, each behind a comma, and the rest of their line
abbrev pub fields_and : List (List ℕ) → List ℕ → List ℕ
fields_and [] rest = rest
fields_and (field ∷ fields) rest = field_and field (fields_and fields rest)

-- a line of a kind with some fields
abbrev pub row : List ℕ → List (List ℕ) → List ℕ
row kind fields = kind ++ fields_and fields (codes "\n")
