use Rattle.std.proofs.Common.{◌+◌, ◌*◌, arith, sym}
use Rattle.c3794_frame.proofs.Pairs.{no_broken_pair}
use Rattle.c3794_frame.proofs.Words.{first_in_word, turn_word, whole_word}
use Rattle.c3794_frame.proofs.complements.broken_pair.Goals as goal

pub returns-then-equal-ne0 : goal.returns-then-equal-ne0
returns-then-equal-ne0 c =
    let word = turn_word c.args.bits.now c.loop-k.k _ _ _ _ c.told-bits c.min-from.ensures c.from.ensures c.word_at.ensures c.equal_pairs-equal.ensures in
    sym (first_in_word _ _ _ _ (32 * c.loop-k.k) word c.loop-k.invariant c.if-equal-ne0.true (omega (arith, c.min-from.ensures)))

pub loop-k-preserved : goal.loop-k-preserved
loop-k-preserved c =
    let word = turn_word c.args.bits.now c.loop-k.k _ _ _ _ c.told-bits c.min-from.ensures c.from.ensures c.word_at.ensures c.equal_pairs-equal.ensures in
    whole_word _ _ _ _ (32 * c.loop-k.k) (32 * (c.loop-k.k + 1)) word c.loop-k.invariant c.if-equal-ne0.false (omega (arith, c.min-from.ensures))
    (λ k within below. omega (arith, c.min-from.ensures, within, below))

pub returns : goal.returns
returns c = sym (no_broken_pair _ (λ k below. c.loop-k.invariant.each k below (omega (arith, c.loop-k-test.false, below))))
