use Rattle.std.proofs.Common.{◌∙◌, ap, fold, List}
use Rattle.std.proofs.lemmas.List.{take_all}
use Rattle.ld_base.specs.Bits.{line_bits}
use Rattle.ld_base.specs.Script.{flipped}
use Rattle.ld_base.specs.declared.rule.Act.{Act}
use Rattle.script_wire.proofs.Acts.{flip_more, no_flip_more}
use Rattle.script_wire.proofs.chunks.with_flips.Goals as goal
use Rattle.script_wire.proofs.chunks.with_flips.Goals.{in-Flip, in_default}

pub loop-act-preserved : goal.loop-act-preserved
loop-act-preserved c =
    elim c.match-act.branch [
      | in-Flip w ↦ flip_more c.args.acts.now c.loop-act.act-index w.in-Flip.bit (line_bits 256 c.args.frame.now) (line_bits 256 c.loop-act.bytes) (line_bits 256 c.match-act.bytes)
          c.loop-act-test.true w.in-Flip.is c.loop-act.invariant (rw w.bytes-is w.flip.ensures)
      | in_default w ↦ rw w.bytes-is (no_flip_more c.args.acts.now c.loop-act.act-index (line_bits 256 c.args.frame.now) (line_bits 256 c.loop-act.bytes) c.loop-act-test.true
          w.in_default.not-Flip c.loop-act.invariant)
    ]

pub returns : goal.returns
returns c = c.loop-act.invariant ∙ ap (λ (acts : List Act). fold flipped (line_bits 256 c.args.frame.now) acts) (take_all c.loop-act.act-index c.args.acts.now c.loop-act-test.false)
