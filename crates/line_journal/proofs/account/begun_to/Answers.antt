use Rattle.std.specs.Prelude.{◌==◌}
use Rattle.std.specs.Option.{option_and_then}
use Rattle.std.proofs.Common.{◌≡◌, Bool, ◌∙◌, true, false, ap, arith, sym}
use Rattle.std.proofs.lemmas.Bool.Decides.{nat_tests}
use Rattle.relay_core.specs.declared.answers.Outgoing.{Outgoing}
use Rattle.line_journal.proofs.Beginnings.{find-first, find-further}
use Rattle.line_journal.proofs.account.begun_to.Goals as goal

pub returns-then-eq : goal.returns-then-eq
returns-then-eq c =
    let goes : Outgoing → Bool = λ o. o.to == c.args.to in
    let passes : goes c.outgoing-item.result ≡ true = grind (arith, nat_tests) in
    let found = find-first goes c.args.frames.now c.loop-outgoing.outgoing-index c.outgoing-item.result c.loop-outgoing-test.true c.loop-outgoing.invariant
    (ap goes (sym c.outgoing-item.is) ∙ passes) in
    ap (λ o. o.begun) c.outgoing-item.is ∙ sym (ap (option_and_then (λ o. o.begun)) found)

pub loop-outgoing-preserved : goal.loop-outgoing-preserved
loop-outgoing-preserved c =
    let goes : Outgoing → Bool = λ o. o.to == c.args.to in
    let fails : goes c.outgoing-item.result ≡ false = grind (arith, nat_tests) in
    find-further goes c.args.frames.now c.loop-outgoing.outgoing-index c.outgoing-item.result c.loop-outgoing-test.true c.loop-outgoing.invariant
    (ap goes (sym c.outgoing-item.is) ∙ fails)
