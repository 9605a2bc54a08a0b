-- Each part is computed as it is.
use Rattle.std.proofs.Common.{◌∙◌}
use Rattle.sequence_element.specs.Sequences.{combined}
use Rattle.sequence_element.proofs.Combined.{less_fits, more_fits, combined_kept, combined_size, combined_fits}
use Rattle.sequence_element.proofs.sequences.combined.Goals as goal

pub overflow_sub-result-2 : goal.overflow_sub-result-2
overflow_sub-result-2 c =
    let a = rw (← c.a.view_is) at c.requires.a in
    let both = rw (← c.both.view_is) at c.requires.both in
    let apart = rw (← c.apart.view_is) at c.requires.apart in
    less_fits c.a.inside.re c.both.inside.re c.apart.inside.im a.0 both.0 apart.1

pub overflow_add-result : goal.overflow_add-result
overflow_add-result c =
    let a = rw (← c.a.view_is) at c.requires.a in
    let both = rw (← c.both.view_is) at c.requires.both in
    let apart = rw (← c.apart.view_is) at c.requires.apart in
    more_fits c.a.inside.im c.both.inside.im c.apart.inside.re a.1 both.1 apart.0

pub invariant_of-result : goal.invariant_of-result
invariant_of-result c =
    let a = rw (← c.a.view_is) at c.requires.a in
    let both = rw (← c.both.view_is) at c.requires.both in
    let apart = rw (← c.apart.view_is) at c.requires.apart in
    combined_fits c.a.inside.re c.a.inside.im c.both.inside.re c.both.inside.im c.apart.inside.re c.apart.inside.im a both apart

pub returns-clause-sequence : goal.returns-clause-sequence
returns-clause-sequence c =
    let a = rw (← c.a.view_is) at c.requires.a in
    let both = rw (← c.both.view_is) at c.requires.both in
    let apart = rw (← c.apart.view_is) at c.requires.apart in
    combined_kept c.a.inside.re c.a.inside.im c.both.inside.re c.both.inside.im c.apart.inside.re c.apart.inside.im a both apart
    ∙ (λ i. combined (c.a.view_is i) (c.both.view_is i) (c.apart.view_is i))

pub returns-clause-size : goal.returns-clause-size
returns-clause-size c =
    let a = rw (← c.a.view_is) at c.requires.a in
    let both = rw (← c.both.view_is) at c.requires.both in
    let apart = rw (← c.apart.view_is) at c.requires.apart in
    combined_size c.a.inside.re c.a.inside.im c.both.inside.re c.both.inside.im c.apart.inside.re c.apart.inside.im a both apart
