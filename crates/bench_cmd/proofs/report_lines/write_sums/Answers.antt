use Rattle.std.proofs.Common.{arith}
use Rattle.std.proofs.lemmas.List.Sums.{sum_by_more}
use Rattle.line_journal.specs.Totals.{no_total}
use Rattle.line_journal.specs.declared.line.Total.{Total}
use Rattle.bench_cmd.proofs.report_lines.write_sums.Goals as goal

pub loop-total-preserved : goal.loop-total-preserved
loop-total-preserved c =
    let totals = c.args.totals.now in
    let at = c.loop-total.total-index in
    record {
      accepted = omega (arith, sum_by_more (λ (t : Total). t.accepted) totals at no_total (omega arith));
      sets = omega (arith, sum_by_more (λ (t : Total). t.sets) totals at no_total (omega arith));
      trips = omega (arith, sum_by_more (λ (t : Total). t.trips) totals at no_total (omega arith));
      few = omega arith;
      few_sets = omega arith;
      few_trips = omega arith;
    }
