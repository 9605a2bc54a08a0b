-- The rows of an input, as csv reads them.
use Rattle.std.specs.Prelude.{◌≡◌, ℕ, ◌+◌, true, false, List, [], length, Option, Some, None, IsSome}
use Rattle.std.specs.Borrow.{Bor}
use Rattle.csv.specs.Reading.{Ready, default_config, has_failed, is_flexible, reader_config, reader_state, reader_trim, records, records_from, source_of, strip_bom}
use Rattle.csv.specs.declared.parser.State.{State}
use Rattle.csv.specs.declared.reader.Reader.{Reader}
use Rattle.csv.specs.declared.reader.Trim.TheVariants as trim

-- a row: the bytes of each field
abbrev pub Row : Type 0
Row = List (List ℕ)

-- the rows of a text: each of its records, in order, after a byte order mark
abbrev pub rows_of : List ℕ → List Row
rows_of text = records default_config (strip_bom text)

-- a reader of a text in memory
abbrev pub TextReader : Type 0
TextReader = Reader (Bor (List ℕ))

-- the bytes that a reader has left, unless it has failed
abbrev pub bytes_left : TextReader → Option (List ℕ)
bytes_left r = source_of (λ (s : Bor (List ℕ)). Some s.now) r

-- the rows of these bytes from a state: inside a row there may be one more than there are bytes
abbrev pub rows_from : State → Option (List ℕ) → List Row
rows_from s None = []
rows_from s (Some bytes) = records_from default_config (length bytes + 1) s bytes

-- the rows that a reader has left
abbrev pub rows_left : TextReader → List Row
rows_left r = rows_from (reader_state r) (bytes_left r)

-- a reader whose next read is of the next row
pub record IsAtRow (r : TextReader) : Type 0 where
  pub known : IsSome (bytes_left r)
  pub ready : Ready r
  pub config : reader_config r ≡ default_config
  pub trim : reader_trim r ≡ trim.None
  pub flexible : is_flexible r ≡ true

-- a reader of rows, which gives none once it has failed
abbrev pub ReadsRows : TextReader → Type 0
ReadsRows r = has_failed r ≡ false → IsAtRow r
