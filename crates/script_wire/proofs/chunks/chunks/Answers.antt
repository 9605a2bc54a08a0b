use Rattle.std.proofs.Common.{◌≡◌, ℕ, false, map, min, ap, ◌∙◌, rules}
use Rattle.std.specs.List.{list_any}
use Rattle.ld_base.specs.Bits.{line_bits}
use Rattle.ld_base.specs.Script.{is_loss}
use Rattle.script_wire.specs.Wires.{due_of}
use Rattle.script_wire.proofs.Acts.{all_chunks}
use Rattle.script_wire.proofs.chunks.chunks.Goals as goal

pub returns : goal.returns
returns c =
    let kept : list_any is_loss c.args.acts.now ≡ false = search rules in
    let first = c.in_ok-add_first.ensures in
    all_chunks c.args.acts.now c.args.due c.min-slip.result (line_bits 256 c.args.frame.now) c.with_flips-frame.result c.bits_from.result
    (map due_of c.add_first.new.chunks.items) (map due_of c.add_repeats.new.chunks.items) kept c.with_flips-frame.ensures
    (c.min-slip.ensures ∙ ap (λ (n : ℕ). min n 256) c.slip.ensures) c.bits_from.ensures
    (simp (c.new-chunks.ensures.items, c.cut.ensures) at first) c.in_ok-add_repeats.ensures
