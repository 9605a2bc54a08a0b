use Rattle.row_reader.proofs.PlainRows.{plain_rows}
use Rattle.row_reader.proofs.laws.plain_rows_are_read.Goals as goal

pub returns : goal.returns
returns c = plain_rows
