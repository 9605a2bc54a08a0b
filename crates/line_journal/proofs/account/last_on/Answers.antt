use Rattle.std.specs.Prelude.{◌==◌, ◌&&◌}
use Rattle.std.specs.Option.{option_and_then}
use Rattle.std.proofs.Common.{◌≡◌, Bool, ◌∙◌, true, false, ap, sym}
use Rattle.line_journal.specs.LineHistory.{LineHistory}
use Rattle.line_journal.proofs.Beginnings.{find-first, find-further}
use Rattle.line_journal.proofs.account.last_on.Goals as goal

pub returns-then-goes : goal.returns-then-goes
returns-then-goes c =
    let goes : LineHistory → Bool = λ l. (l.from == c.args.from) && (l.to == c.args.to) in
    let passes : goes c.history-item.result ≡ true = sym c.goes.ensures ∙ c.if-goes.true in
    let found = find-first goes c.args.histories.now c.loop-history.history-index c.history-item.result c.loop-history-test.true c.loop-history.invariant
    (ap goes (sym c.history-item.is) ∙ passes) in
    c.last.ensures ∙ ap (λ l. l.last) c.history-item.is ∙ sym (ap (option_and_then (λ l. l.last)) found)

pub loop-history-preserved : goal.loop-history-preserved
loop-history-preserved c =
    let goes : LineHistory → Bool = λ l. (l.from == c.args.from) && (l.to == c.args.to) in
    let fails : goes c.history-item.result ≡ false = sym c.goes.ensures ∙ c.if-goes.false in
    find-further goes c.args.histories.now c.loop-history.history-index c.history-item.result c.loop-history-test.true c.loop-history.invariant
    (ap goes (sym c.history-item.is) ∙ fails)
