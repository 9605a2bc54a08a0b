-- What the text of plain rows is read as.
use Rattle.std.proofs.Common.{◌≡◌, ◌∙◌, refl, ap, arith, ℕ, zero, suc, ◌+◌, ◌≤◌, ◌==◌, true, false, List, [], ◌∷◌, ◌++◌, length, Some, append_assoc, length-append}
use Rattle.std.specs.Prelude.{All}
use Rattle.std.specs.List.{list_all}
use Rattle.std.proofs.lemmas.Bool.{and_parts}
use Rattle.std.proofs.lemmas.Bool.Decides.{nat_tests}
use Rattle.std.proofs.lemmas.List.{append-nil}
use Rattle.std.proofs.lemmas.List.Elements.{All-head, All-tail}
use Rattle.csv.specs.Machine.{next_record}
use Rattle.csv.specs.Reading.{default_config, records_from, strip_bom}
use Rattle.csv.specs.declared.parser.State.TheVariants as st
use Rattle.row_reader.specs.PlainRows.{behind_commas, is_plain, is_plain_row, line_of, text_of}
use Rattle.row_reader.specs.Rows.{Row, rows_of}

-- a plain byte is none of the bytes that csv looks at, and begins no byte order mark
plain_tests : (b : ℕ) → is_plain b ≡ true → ((b == 44) ≡ false) × ((b == 34) ≡ false) × ((b == 13) ≡ false) × ((b == 10) ≡ false) × ((b == 239) ≡ false)
plain_tests b plain = (grind (arith, nat_tests), grind (arith, nat_tests), grind (arith, nat_tests), grind (arith, nat_tests), grind (arith, nat_tests))

-- the bytes of a plain field join the field at hand
field_run : (fields : Row) (field x tail : List ℕ) → list_all is_plain x ≡ true
    → next_record default_config st.InField fields field (x ++ tail) ≡ next_record default_config st.InField fields (field ++ x) tail
unfolding next_record
field_run fields field [] tail plain = rw (append-nil field) refl
field_run fields field (b ∷ x) tail plain =
    let both = and_parts _ _ plain in
    let is = plain_tests b both.0 in
    rw (is.0, is.2, is.3) (field_run fields (field ++ b ∷ []) x tail both.1
    ∙ ap (λ (f : List ℕ). next_record default_config st.InField fields f tail) (append_assoc field (b ∷ []) x))

-- a plain field from its start
start_run : (fields : Row) (x : List ℕ) (rest : Row) (tail : List ℕ) → list_all is_plain x ≡ true
    → next_record default_config st.StartField fields [] (x ++ (behind_commas rest ++ 10 ∷ tail)) ≡ next_record default_config st.InField fields x (behind_commas rest ++ 10 ∷ tail)
unfolding next_record
start_run fields [] [] tail plain = refl
start_run fields [] (y ∷ ys) tail plain = refl
start_run fields (b ∷ x) rest tail plain =
    let both = and_parts _ _ plain in
    let is = plain_tests b both.0 in
    rw (is.0, is.1, is.2, is.3) (field_run fields (b ∷ []) x (behind_commas rest ++ 10 ∷ tail) both.1)

-- the fields behind one
rest_run : (fields : Row) (x : List ℕ) (rest : Row) (tail : List ℕ) → list_all (list_all is_plain) rest ≡ true
    → next_record default_config st.InField fields x (behind_commas rest ++ 10 ∷ tail) ≡ Some (fields ++ x ∷ rest, st.StartRecord, tail)
unfolding next_record
rest_run fields x [] tail plain = refl
rest_run fields x (y ∷ ys) tail plain =
    let both = and_parts _ _ plain in
    rw (append_assoc y (behind_commas ys) (10 ∷ tail)) (start_run (fields ++ x ∷ []) y ys tail both.0
    ∙ rest_run (fields ++ x ∷ []) y ys tail both.1
    ∙ ap (λ (all : Row). Some (all, st.StartRecord, tail)) (append_assoc fields (x ∷ []) (y ∷ ys)))

-- a plain row is the next record of its line
row_run : (row : Row) (tail : List ℕ) → is_plain_row row ≡ true → next_record default_config st.StartRecord [] [] (line_of row ++ tail) ≡ Some (row, st.StartRecord, tail)
unfolding next_record
row_run [] tail plain = cc plain
row_run ([] ∷ rest) tail plain = cc plain
row_run ((b ∷ x) ∷ rest) tail plain =
    let all = and_parts _ _ (and_parts _ _ plain).1 in
    let both = and_parts _ _ all.0 in
    let is = plain_tests b both.0 in
    let text : (x ++ behind_commas rest ++ 10 ∷ []) ++ tail ≡ x ++ (behind_commas rest ++ 10 ∷ tail) =
    append_assoc (x ++ behind_commas rest) (10 ∷ []) tail ∙ append_assoc x (behind_commas rest) (10 ∷ tail) in
    rw (is.0, is.1, is.2, is.3, text) (field_run [] (b ∷ []) x (behind_commas rest ++ 10 ∷ tail) both.1 ∙ rest_run [] (b ∷ x) rest tail all.1)

-- as many turns as there are rows give all of them
rows_run : (rows : List Row) (n : ℕ) → length rows ≤ n → All (λ row. is_plain_row row ≡ true) rows → records_from default_config n st.StartRecord (text_of rows) ≡ rows
unfolding records_from next_record
rows_run [] zero few plain = refl
rows_run [] (suc n) few plain = refl
rows_run (row ∷ rows) zero few plain = absurd (omega arith)
rows_run (row ∷ rows) (suc n) few plain =
    rw (row_run row (text_of rows) (All-head (λ r. is_plain_row r ≡ true) row rows plain))
    (ap (λ (more : List Row). row ∷ more) (rows_run rows n (omega arith) (All-tail (λ r. is_plain_row r ≡ true) row rows plain)))

-- each line has a byte
length-line_of : (row : Row) → 1 ≤ length (line_of row)
length-line_of [] = omega arith
length-line_of (first ∷ rest) = omega (arith, length-append (first ++ behind_commas rest) (10 ∷ []))

length-text_of : (rows : List Row) → length rows ≤ length (text_of rows)
length-text_of [] = omega arith
length-text_of (row ∷ rows) = omega (arith, length-append (line_of row) (text_of rows), length-line_of row, length-text_of rows)

-- a text that begins with a plain byte has no byte order mark
no_mark : (b : ℕ) (rest : List ℕ) → (b == 239) ≡ false → strip_bom (b ∷ rest) ≡ b ∷ rest
unfolding strip_bom
no_mark b [] other = refl
no_mark b (c ∷ []) other = refl
no_mark b (c ∷ d ∷ rest) other = rw other refl

strip_bom-text_of : (rows : List Row) → All (λ row. is_plain_row row ≡ true) rows → strip_bom (text_of rows) ≡ text_of rows
unfolding strip_bom
strip_bom-text_of [] plain = refl
strip_bom-text_of (row ∷ rows) plain = by row (All-head (λ r. is_plain_row r ≡ true) row rows plain)
  where
    by : (row : Row) → is_plain_row row ≡ true → strip_bom (line_of row ++ text_of rows) ≡ line_of row ++ text_of rows
    by [] plain = cc plain
    by ([] ∷ rest) plain = cc plain
    by ((b ∷ x) ∷ rest) plain = no_mark b _ (plain_tests b (and_parts _ _ (and_parts _ _ (and_parts _ _ plain).1).0).0).4

-- plain rows are read from their text
pub plain_rows : (rows : List Row) → All (λ row. is_plain_row row ≡ true) rows → rows_of (text_of rows) ≡ rows
plain_rows rows plain = rw (strip_bom-text_of rows plain) (rows_run rows (length (text_of rows) + 1) (omega (arith, length-text_of rows)) plain)
