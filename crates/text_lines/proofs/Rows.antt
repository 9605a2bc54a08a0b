-- Lines of text are those of plain rows.
use Rattle.std.proofs.Common.{◌≡◌, ◌∙◌, refl, sym, ap, ℕ, List, [], ◌∷◌, ◌++◌, append_assoc}
use Rattle.row_reader.specs.PlainRows.{behind_commas, line_of}
use Rattle.text_lines.specs.Lines.{field_and, fields_and, row}

-- fields behind commas, and the rest of their line
pub fields_and-behind_commas : (fields : List (List ℕ)) (rest : List ℕ) → fields_and fields rest ≡ behind_commas fields ++ rest
fields_and-behind_commas [] rest = refl
fields_and-behind_commas (field ∷ fields) rest =
    ap (field_and field) (fields_and-behind_commas fields rest) ∙ sym (append_assoc (44 ∷ field) (behind_commas fields) rest)

-- a line of text is the line of a row
pub row-line_of : (kind : List ℕ) (fields : List (List ℕ)) → row kind fields ≡ line_of (kind ∷ fields)
row-line_of kind fields =
    ap (λ (t : List ℕ). kind ++ t) (fields_and-behind_commas fields (10 ∷ [])) ∙ sym (append_assoc kind (behind_commas fields) (10 ∷ []))
