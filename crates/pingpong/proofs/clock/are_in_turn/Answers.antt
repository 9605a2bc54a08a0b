use Rattle.std.proofs.Common.{take_all, arith, rules}
use Rattle.pingpong.proofs.Turns.{in_turn-more, last-more}
use Rattle.pingpong.proofs.clock.are_in_turn.Goals as goal

pub loop-entry-preserved : goal.loop-entry-preserved
loop-entry-preserved c = record {
  so_far =
      in_turn-more c.args.rates.now c.loop-entry.entry-index c.loop-entry.last (record { from = 0; rate = _ }) c.loop-entry-test.true
      c.loop-entry.invariant.so_far c.loop-entry.invariant.last c.if-entry-last.false;
  first = λ none. absurd (omega arith);
  last = λ d some. last-more c.args.rates.now c.loop-entry.entry-index _ d c.loop-entry-test.true;
}

pub returns : goal.returns
returns c = (
  λ yes. rw (take_all c.loop-entry.entry-index c.args.rates.now c.loop-entry-test.false) at c.loop-entry.invariant.so_far,
  λ turn. search rules,
)
