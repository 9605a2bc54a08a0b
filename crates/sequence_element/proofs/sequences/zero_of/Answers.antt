use Rattle.std.proofs.Common.{◌∙◌, ap, [], ◌∷◌}
use Rattle.phasor.specs.Point.{Point}
use Rattle.sequence_element.specs.Sequences.{zero_sequence}
use Rattle.sequence_element.proofs.Combined.{zero_kept, three_read}
use Rattle.sequence_element.proofs.sequences.zero_of.Goals as goal

pub returns-clause-sequence : goal.returns-clause-sequence
returns-clause-sequence c =
    let a : Point = record { re = c.a.inside.re; im = c.a.inside.im } in
    let b : Point = record { re = c.b.inside.re; im = c.b.inside.im } in
    let d : Point = record { re = c.c.inside.re; im = c.c.inside.im } in
    zero_kept a b d c.a.invariant c.b.invariant c.c.invariant
    ∙ (λ i. zero_sequence (c.a.view_is i ∷ c.b.view_is i ∷ c.c.view_is i ∷ []))
    ∙ ap zero_sequence (three_read c.args.p.now c.index-p-0.result c.index-p-1.result c.index-p-2.result c.type_inv.p)
