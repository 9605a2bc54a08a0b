use Rattle.std.proofs.Common.{◌∙◌, ap, arith, get_or}
use Rattle.phasor.specs.Point.{Point}
use Rattle.sequence_element.specs.Sequences.{combined, negative_sequence}
use Rattle.sequence_element.proofs.Combined.{combined_is, three_read, IsWithin-minus}
use Rattle.sequence_element.proofs.sequences.negative_of.Goals as goal

pub combined-requires-clause-apart : goal.combined-requires-clause-apart
combined-requires-clause-apart c =
    let b : Point = get_or c.args.p.now 1 c.index-p-1.result in
    let d : Point = get_or c.args.p.now 2 c.index-p-2.result in
    rw c.minus.ensures (IsWithin-minus b d (c.requires 1 c.index-p-1.result (omega arith)) (c.requires 2 c.index-p-2.result (omega arith)))

pub returns-clause-sequence : goal.returns-clause-sequence
returns-clause-sequence c =
    let sums = c.args.p.now in
    let a : Point = get_or sums 0 c.index-p-0.result in
    let b : Point = get_or sums 1 c.index-p-1.result in
    let d : Point = get_or sums 2 c.index-p-2.result in
    c.combined.ensures.sequence ∙ (λ i. combined a (c.plus.ensures i) (c.minus.ensures i))
    ∙ combined_is a b d ∙ ap negative_sequence (three_read sums c.index-p-0.result c.index-p-1.result c.index-p-2.result c.type_inv.p)
