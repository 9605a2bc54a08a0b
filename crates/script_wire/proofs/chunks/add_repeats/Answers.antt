use Rattle.std.proofs.lemmas.Grind.{common_steps}
use Rattle.std.proofs.Common.{append_assoc, refl, arith}
use Rattle.std.proofs.lemmas.List.{map-append}
use Rattle.script_wire.proofs.Acts.{repeat_more, no_repeat_more}
use Rattle.script_wire.proofs.chunks.add_repeats.Goals as goal
use Rattle.script_wire.proofs.chunks.add_repeats.Goals.{in-Repeat+in_ok-push, in_default}

pub loop-act-preserved : goal.loop-act-preserved
loop-act-preserved c =
    elim c.match-act.branch [
      | in-Repeat+in_ok-push w ↦
          let more = repeat_more c.args.acts.now c.loop-act.act-index w.in-Repeat.extra c.args.due c.args.chunk c.loop-act-test.true w.in-Repeat.is in
          let so_far = c.loop-act.invariant in
          rw (w.chunks-is, more, w.in_ok-push.ensures.items, map-append, w.from.ensures) (rw (so_far, append_assoc) refl)
      | in_default w ↦
          let more = no_repeat_more c.args.acts.now c.loop-act.act-index c.args.due c.args.chunk c.loop-act-test.true w.in_default.not-Repeat in
          rw (w.chunks-is, more) (grind (arith, common_steps, c.loop-act.invariant))
    ]
