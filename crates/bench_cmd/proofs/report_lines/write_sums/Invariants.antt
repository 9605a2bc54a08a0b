use Rattle.std.proofs.Common.{◌≡◌, ◌*◌, ◌^◌, ◌≤◌, take}
use Rattle.std.specs.List.{sum_by}
use Rattle.bench_cmd.proofs.report_lines.write_sums.Given as goal

-- the sums so far, and that they are small
abbrev pub invariant-loop-total : goal.invariant-loop-total
invariant-loop-total l = record {
  accepted : l.accepted ≡ sum_by (λ total. total.accepted) (take l.total-index l.totals);
  sets : l.sets ≡ sum_by (λ total. total.sets) (take l.total-index l.totals);
  trips : l.trips ≡ sum_by (λ total. total.trips) (take l.total-index l.totals);
  few : l.accepted ≤ l.total-index * 2 ^ 64;
  few_sets : l.sets ≤ l.total-index * 2 ^ 64;
  few_trips : l.trips ≤ l.total-index * 2 ^ 64;
}
