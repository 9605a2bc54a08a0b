use Rattle.std.proofs.Common.{◌≡◌, ◌≤◌, ◌∙◌, ap, arith, length, rules, sym, subst}
use Rattle.relay_core.proofs.InPlace.{IsWritten-more, get_or-drop_same}
use Rattle.line_journal.specs.Told.{heard_from, with_slot}
use Rattle.line_journal.proofs.account.begin_on.Goals as goal

pub begin-requires : goal.begin-requires
begin-requires c =
    let i = c.loop-history.history-index in
    let long : length c.loop-history.histories ≡ length c.args.histories.now = search rules in
    subst (λ l. 1 ≤ l.room) (sym (get_or-drop_same c.loop-history.histories c.args.histories.now i c.history-item.result c.loop-history.invariant.rest))
    (c.requires i c.history-item.result (omega (arith, c.loop-history-test.true, long)))

pub loop-history-preserved : goal.loop-history-preserved
loop-history-preserved c =
    let i = c.loop-history.history-index in
    let slot = with_slot c.args.now.now.tick c.args.me (heard_from c.args.heard.now) c.args.frames.now in
    let long : length c.loop-history.histories ≡ length c.args.histories.now = search rules in
    IsWritten-more slot i c.args.histories.now c.loop-history.histories c.history-item.result c.begin.new.history (omega (arith, c.loop-history-test.true, long)) long c.history-item.is
    (c.begin.ensures ∙ ap slot (sym c.history-item.is)) c.loop-history.invariant
