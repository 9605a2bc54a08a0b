use Rattle.std.proofs.Common.{◌∙◌, ap, ◌++◌, map, arith}
use Rattle.bench_cmd.specs.Judge.{line_of, set_of}
use Rattle.bench_cmd.proofs.Judging.{Judged-more}
use Rattle.bench_cmd.proofs.judge.judge.Goals as goal

pub overflow_add-at : goal.overflow_add-at
overflow_add-at c =
    let taken = rw c.if-branch.true at c.in_ok-read.ensures.read in
    omega (arith, rw c.new-rows.ensures.all at c.new-rows.ensures.few, rw taken at c.judging.invariant.1)

pub judging-preserved : goal.judging-preserved
judging-preserved c =
    let taken = rw c.if-branch.true at c.in_ok-read.ensures.read in
    let before = rw taken at c.judging.invariant.0 in
    let trip = c.judge-verdicts.ensures in
    let sets = map set_of before.done in
    let line = c.in_ok-write_line-in-Ok.ensures ∙ ap (λ v. c.judging.text.items ++ line_of c.in-Ok.set.number v) (trip.verdicts sets before.stands) in
    let after = Judged-more _ _ _ c.judge-verdicts.new.self _ c.in-Ok.set _ _ c.write_line.new.text.items _ _ before
    c.in-Ok.ensures.0 c.in-Ok.ensures.1 trip.settings trip.next (trip.stands sets before.stands) (trip.earlier sets) line in
    (rw c.from-next.ensures after, omega (arith, rw taken at c.judging.invariant.1))
