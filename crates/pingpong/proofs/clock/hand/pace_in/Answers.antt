use Rattle.pingpong.proofs.Paces.{IsPace-now, IsPace-most}
use Rattle.pingpong.proofs.clock.hand.pace_in.Goals as goal

pub returns-else-rates-passed-clause-gain : goal.returns-else-rates-passed-clause-gain
returns-else-rates-passed-clause-gain c =
    IsPace-now c.args.rates.now c.args.time c.loop-passed.passed c.loop-passed.gain _ c.loop-passed.invariant c.requires.in_turn
    c.loop-passed-test.true c.if-rates-passed.false

pub returns-else-rates-passed-clause-most : goal.returns-else-rates-passed-clause-most
returns-else-rates-passed-clause-most c = IsPace-most c.args.rates.now c.args.time c.loop-passed.passed c.loop-passed.gain c.loop-passed.invariant c.requires.in_range

pub returns-after-loop-passed-clause-most : goal.returns-after-loop-passed-clause-most
returns-after-loop-passed-clause-most c = IsPace-most c.args.rates.now c.args.time c.loop-passed.passed c.loop-passed.gain c.loop-passed.invariant c.requires.in_range
