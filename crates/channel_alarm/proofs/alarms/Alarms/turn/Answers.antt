use Rattle.std.proofs.Common.{◌≡◌, arith, length-append, sym}
use Rattle.channel_alarm.proofs.Turns.{turns_one, turns_none}
use Rattle.channel_alarm.proofs.alarms.Alarms.turn.Goals as goal
use Rattle.channel_alarm.proofs.alarms.Alarms.turn.Goals.{then-on-k, else-on-k}

pub loop-k-preserved : goal.loop-k-preserved
loop-k-preserved c = elim c.if-on-k.branch [
  | then-on-k w ↦
      record {
        few = rw w.changed-is (grind (arith, w.push.ensures.items, length-append, c.loop-k.invariant.few));
        turned = λ new is. rw (w.changed-is, w.push.ensures.items, c.loop-k.invariant.turned new is, ← c.self.view_is)
            (sym (turns_one (record { silent = c.self.inside.silent; on = c.self.inside.on }) new _ c.loop-k.k c.loop-k-test.true is w.if-on-k.true));
      }
  | else-on-k w ↦
      record {
        few = rw w.changed-is (grind (arith, c.loop-k.invariant.few));
        turned = λ new is. rw (w.changed-is, c.loop-k.invariant.turned new is, ← c.self.view_is)
            (sym (turns_none (record { silent = c.self.inside.silent; on = c.self.inside.on }) new _ c.loop-k.k c.loop-k-test.true is w.if-on-k.false));
      }
]

pub returns-clause-turns : goal.returns-clause-turns
returns-clause-turns c new is =
    let e : c.loop-k.k ≡ 5 = grind arith in
    rw e at (c.loop-k.invariant.turned new is)
