use Rattle.std.proofs.Common.{◌≡◌, rules}
use Rattle.row_reader.specs.Rows.{rows_left, rows_of}
use Rattle.row_reader.proofs.RowFacts.{length-rows_of}
use Rattle.row_reader.proofs.rows.Rows.new.Goals as goal

pub returns-clause-few : goal.returns-clause-few
returns-clause-few c =
    let all : rows_left c.from_reader-reader.result ≡ rows_of c.args.text.now = search rules in
    rw all (length-rows_of c.args.text.now)
