-- Each table is what the rule computes at its cycle.
use Rattle.std.proofs.Common.{refl, arith}
use Rattle.phasor.specs.Factors.{cosine}
use Rattle.phasor.proofs.Cycles.{cycle_last}
use Rattle.phasor.proofs.factors.cosines.Goals as goal

pub returns-in-4 : goal.returns-in-4
unfolding cosine
returns-in-4 c = rw c.in-4.is refl

pub returns-in-8 : goal.returns-in-8
unfolding cosine
returns-in-8 c = rw c.in-8.is refl

pub returns-in-12 : goal.returns-in-12
unfolding cosine
returns-in-12 c = rw c.in-12.is refl

pub returns-in-16 : goal.returns-in-16
unfolding cosine
returns-in-16 c = rw c.in-16.is refl

pub returns-in_default : goal.returns-in_default
unfolding cosine
returns-in_default c = rw (cycle_last c.args.cycle c.requires (omega arith) (omega arith) (omega arith) (omega arith)) refl
