use Rattle.row_reader.specs.Rows.{rows_of}
use Rattle.waveform_reader.proofs.ReadFacts.{accepted, refused_body}
use Rattle.waveform_reader.proofs.reading.read.Goals as goal

pub returns-clause-refused : goal.returns-clause-refused
returns-clause-refused c =
    rw c.into.ensures
    (refused_body (rows_of c.args.text.now) c.in_ok-head.head _ _ (rw c.in_ok-rows.ensures at c.in_ok-head.ensures.read) c.in-Some.ensures.closed.0 c.in-Err.ensures.refused)

pub returns-in-Ok-clause-read : goal.returns-in-Ok-clause-read
returns-in-Ok-clause-read c =
    rw (c.finish.ensures.whole, c.in-Some.ensures.closed.1, c.end.ensures)
    (accepted (rows_of c.args.text.now) c.in_ok-head.head _ _ (rw c.in_ok-rows.ensures at c.in_ok-head.ensures.read) c.in-Some.ensures.closed.0 c.in-Ok.ensures.read)
