use Rattle.std.proofs.Common.{arith, lit<}
use Rattle.std.proofs.lemmas.Nat.{mod_below, or_lt}
use Rattle.bit_sync.proofs.Registers.{fits_word, pushed_out, word_pushed}
use Rattle.bit_sync.proofs.register.pushed.Goals as goal

pub overflow_cast-out-2 : goal.overflow_cast-out-2
overflow_cast-out-2 c = record { fits = fits_word c.args.count _ c.requires.few.1 (pushed_out 128 c.args.word c.args.count (omega arith) c.ranges.word.fits) }

pub returns-clause-all : goal.returns-clause-all
returns-clause-all c = rw c.from.ensures (word_pushed 128 c.args.word c.args.value c.args.count (omega arith) c.ranges.word.fits c.requires.small)

pub returns-clause-out : goal.returns-clause-out
returns-clause-out c = pushed_out 128 c.args.word c.args.count (omega arith) c.ranges.word.fits

pub returns-clause-word : goal.returns-clause-word
returns-clause-word c = or_lt 128 _ _ (mod_below _ _ (lit< tt)) c.from.type_inv
