use Rattle.row_reader.proofs.RowFacts.{rows_left-read}
use Rattle.row_reader.proofs.rows.Rows.read.Goals as goal

pub returns-clause-read : goal.returns-clause-read
returns-clause-read c =
    rw (← c.self.view_is) (rows_left-read c.self.inside.reader c.read_byte_record.new.self c.in-Ok.found _ c.self.invariant
    (λ failed. cc (c.in-Ok.is, c.read_byte_record.ensures.failed failed)) c.in-Ok.ensures.reads)
