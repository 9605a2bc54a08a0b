use Rattle.std.proofs.Common.{◌≡◌, ◌++◌, ◌+◌, drop}
use Rattle.bench_cmd.specs.ReportLines.{totals_from}
use Rattle.bench_cmd.proofs.report_text.write_totals.Given as goal

-- what is written and what is still to be written are all
abbrev pub invariant-loop-total : goal.invariant-loop-total
invariant-loop-total l = record {
  written : l.text.items ++ totals_from l.station (drop l.total-index l.totals) ≡ l.fn.text.items ++ totals_from 1 l.totals;
  station : l.station ≡ l.total-index + 1;
}
