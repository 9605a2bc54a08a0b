-- What is tested is the phase's column of the sums.
use Rattle.std.proofs.Common.{rules}
use Rattle.trip_logic.proofs.Columns.{column_read, All-column}
use Rattle.trip_logic.proofs.trip.is_outside.Goals as goal

pub outside_all-requires-clause-size : goal.outside_all-requires-clause-size
outside_all-requires-clause-size c =
    let sums = c.args.sums.now in
    let read = column_read sums c.from-stations.result c.args.phase c.index-sums-0.result c.index-sums-1.result c.index-sums-2.result
    (search rules) (search rules) (search rules) (search rules) in
    rw read (All-column 34 sums c.from-stations.result c.args.phase c.requires.size)

pub returns : goal.returns
returns c =
    let sums = c.args.sums.now in
    let read = column_read sums c.from-stations.result c.args.phase c.index-sums-0.result c.index-sums-1.result c.index-sums-2.result
    (search rules) (search rules) (search rules) (search rules) in
    rw (read, c.from-stations.ensures, c.requires.region) at c.outside_all.ensures
