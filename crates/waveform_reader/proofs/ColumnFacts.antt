-- Numbers in the ranges of their columns.
use Rattle.std.proofs.Common.{◌≡◌, refl, ℕ, ◌+◌, ◌<◌, length, drop, ℤ, List, ◌&&◌, add-one, ◌∷◌, get_or}
use Rattle.std.proofs.Math.Seq.{drop-cons}
use Rattle.row_reader.specs.RowNumbers.{is_between, number_at}
use Rattle.waveform_reader.specs.Columns.{are_between, span_of}
use Rattle.waveform_reader.specs.declared.column.Column.{Column}

-- the numbers from a place on: the one there, and those behind it
pub between_more : (drift place : ℕ) (columns : List Column) (numbers : List ℤ) (here : Column) → place < length columns → get_or columns place here ≡ here
    → are_between drift place (drop place columns) numbers
    ≡ is_between (span_of drift here) (number_at numbers place) && are_between drift (place + 1) (drop (place + 1) columns) numbers
between_more drift place columns numbers here inside is =
    let front : drop place columns ≡ here ∷ drop (place + 1) columns = rw (add-one, drop-cons columns place here, is) refl in rw front refl
