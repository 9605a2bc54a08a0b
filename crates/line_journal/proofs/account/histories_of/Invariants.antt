use Rattle.std.specs.Prelude.{◌≡◌, All, map, take}
use Rattle.line_journal.specs.Inside.{IsEmpty, way_of}
use Rattle.line_journal.specs.Stations.{way_between}
use Rattle.line_journal.proofs.account.histories_of.Given as goal

abbrev pub invariant-loop-from : goal.invariant-loop-from
invariant-loop-from l = record {
  ways : map way_of l.histories.items ≡ map way_between (take l.from-index l.from-items);
  empty : All IsEmpty l.histories.items;
}
