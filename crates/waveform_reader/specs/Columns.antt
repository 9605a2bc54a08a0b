-- The numbers of each kind of record and the ranges in which they lie. (This project's own.)
use Rattle.std.specs.Prelude.{ℕ, ◌+◌, Bool, true, ◌&&◌, ℤ, pos, neg_ℤ, negsuc, List, [], ◌∷◌}
use Rattle.row_reader.specs.RowNumbers.{is_between, number_at}
use Rattle.waveform_reader.specs.declared.column.Column.{Column}
use Rattle.waveform_reader.specs.declared.column.Column.TheVariants as column
use Rattle.waveform_reader.specs.declared.kind.Kind.{Kind}
use Rattle.waveform_reader.specs.declared.kind.Kind.TheVariants as kind

-- the numbers that stand after the name of a record
abbrev pub columns_of : Kind → List Column
columns_of kind.Clock = column.Station ∷ column.Start ∷ []
columns_of kind.Rate = column.Tick ∷ column.Station ∷ column.Rate ∷ []
columns_of kind.Hold = column.Tick ∷ column.Station ∷ column.Value ∷ column.Value ∷ column.Value ∷ []
columns_of kind.Wave = column.Tick ∷ column.Station ∷ column.Amplitude ∷ column.Step ∷ column.Amplitude ∷ column.Step ∷ column.Amplitude ∷ column.Step ∷ []
columns_of kind.Delay = column.Tick ∷ column.Station ∷ column.Station ∷ column.Delay ∷ []
columns_of kind.Lose = column.Tick ∷ column.Tick ∷ column.Station ∷ column.Station ∷ []
columns_of kind.Flip = column.Tick ∷ column.Tick ∷ column.Station ∷ column.Station ∷ column.Bit ∷ []
columns_of kind.Repeat = column.Tick ∷ column.Tick ∷ column.Station ∷ column.Station ∷ column.Extra ∷ []
columns_of kind.Cut = column.Tick ∷ column.Tick ∷ column.Station ∷ column.Station ∷ column.Bits ∷ []
columns_of kind.Slip = column.Tick ∷ column.Tick ∷ column.Station ∷ column.Station ∷ column.Bits ∷ []
columns_of kind.FailSend = column.Tick ∷ column.Tick ∷ column.Station ∷ column.Station ∷ []
columns_of kind.FailTake = column.Tick ∷ column.Tick ∷ column.Station ∷ column.Station ∷ []

-- the least and the greatest number of a column, where clocks may drift so much either way
abbrev pub span_of : ℕ → Column → ℤ × ℤ
span_of drift column.Tick = (pos 0, pos 20000000)
span_of drift column.Station = (pos 1, pos 3)
span_of drift column.Start = (pos 0, pos 1000000000000)
span_of drift column.Rate = (neg_ℤ (pos drift), pos drift)
span_of drift column.Value = (negsuc 32767, pos 32767)
span_of drift column.Amplitude = (pos 0, pos 32767)
span_of drift column.Step = (pos 0, pos 19)
span_of drift column.Delay = (pos 1, pos 100000)
span_of drift column.Bit = (pos 0, pos 255)
span_of drift column.Extra = (pos 1, pos 1000000)
span_of drift column.Bits = (pos 1, pos 255)

-- whether the numbers from a place on lie in the spans of these columns
abbrev pub are_between : ℕ → ℕ → List Column → List ℤ → Bool
are_between drift place [] numbers = true
are_between drift place (column ∷ columns) numbers = is_between (span_of drift column) (number_at numbers place) && are_between drift (place + 1) columns numbers
