use Rattle.std.proofs.Common.{◌≡◌, ◌≤◌, ◌∙◌, inl, inr, ap, arith, get_or, length, rules, set, sym, subst}
use Rattle.std.proofs.lemmas.Bool.{cases_lt}
use Rattle.std.proofs.lemmas.List.{get_or-set_other, get_or-set_same}
use Rattle.line_journal.specs.Inside.{roomless}
use Rattle.line_journal.proofs.Histories.{map-set_alike}
use Rattle.line_journal.proofs.account.make_room_on.Goals as goal

pub returns-in_err-make_room-clause-same : goal.returns-in_err-make_room-clause-same
returns-in_err-make_room-clause-same c =
    map-set_alike roomless c.loop-history.histories c.loop-history.history-index c.make_room.new.self c.history-item.result (ap roomless c.make_room.ensures.same)
    ∙ c.loop-history.invariant.same

pub loop-history-preserved : goal.loop-history-preserved
loop-history-preserved c =
    let i = c.loop-history.history-index in
    let histories = c.loop-history.histories in
    let long : length histories ≡ length c.args.histories.now = search rules in
    record {
      same = map-set_alike roomless histories i c.make_room.new.self c.history-item.result (ap roomless c.make_room.ensures.same) ∙ c.loop-history.invariant.same;
      room = λ k d below. elim (cases_lt k i) [
        | inl before ↦ rw (get_or-set_other histories i k c.make_room.new.self d (omega (arith, before))) (c.loop-history.invariant.room k d before)
        | inr behind ↦
            let here : k ≡ i = omega (arith, behind, below) in
            let is = ap (λ j. get_or (set histories i c.make_room.new.self) j d) here ∙ get_or-set_same histories i c.make_room.new.self d (omega (arith, c.loop-history-test.true, long)) in
            subst (λ l. c.args.messages ≤ l.room) (sym is) c.in_ok-make_room.ensures.room
      ];
    }
