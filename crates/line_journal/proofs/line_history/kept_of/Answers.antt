use Rattle.std.proofs.Common.{◌≡◌, true, false}
use Rattle.line_journal.specs.LineHistory.{is_same_exchange}
use Rattle.line_journal.proofs.Beginnings.{find-first, find-further}
use Rattle.line_journal.proofs.line_history.kept_of.Goals as goal

pub returns-then-is_same_exchange : goal.returns-then-is_same_exchange
returns-then-is_same_exchange c =
    let passes : is_same_exchange c.crossing-item.result.exchange c.args.exchange.now ≡ true = cc in
    let found = find-first (λ crossing. is_same_exchange crossing.exchange c.args.exchange.now) c.args.newest_first.now c.loop-crossing.crossing-index c.crossing-item.result
    c.loop-crossing-test.true c.loop-crossing.invariant in
    cc (found (cc))

pub loop-crossing-preserved : goal.loop-crossing-preserved
loop-crossing-preserved c =
    let fails : is_same_exchange c.crossing-item.result.exchange c.args.exchange.now ≡ false = cc in
    find-further (λ crossing. is_same_exchange crossing.exchange c.args.exchange.now) c.args.newest_first.now c.loop-crossing.crossing-index c.crossing-item.result
    c.loop-crossing-test.true c.loop-crossing.invariant (cc)
