use Rattle.std.proofs.Common.{refl, arith}
use Rattle.phasor.proofs.Entries.{cosine_read, sine_read, IsWithin-factor}
use Rattle.phasor.proofs.factors.factor.Goals as goal

pub invariant_of-result : goal.invariant_of-result
invariant_of-result c =
    let re = cosine_read c.args.cycle c.args.number c.cosines-cosines.result.now c.requires c.cosines-cosines.ensures in
    let im = sine_read c.args.cycle c.args.number c.cosines-cosines.result.now c.requires c.cosines-cosines.ensures in
    let small = IsWithin-factor c.args.cycle c.args.number in
    rw (re, im) (omega (arith, small.0), omega (arith, small.1))

pub returns-clause-factor : goal.returns-clause-factor
returns-clause-factor c =
    let re = cosine_read c.args.cycle c.args.number c.cosines-cosines.result.now c.requires c.cosines-cosines.ensures in
    let im = sine_read c.args.cycle c.args.number c.cosines-cosines.result.now c.requires c.cosines-cosines.ensures in
    rw (re, im) refl

pub returns-clause-size : goal.returns-clause-size
returns-clause-size c =
    let re = cosine_read c.args.cycle c.args.number c.cosines-cosines.result.now c.requires c.cosines-cosines.ensures in
    let im = sine_read c.args.cycle c.args.number c.cosines-cosines.result.now c.requires c.cosines-cosines.ensures in
    rw (re, im) (IsWithin-factor c.args.cycle c.args.number)
