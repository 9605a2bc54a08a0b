use Rattle.std.proofs.Common.{rules, refl}
use Rattle.c3794_frame.proofs.Words.{are_equal_pairs}
use Rattle.c3794_frame.proofs.complements.equal_pairs.Goals as goal

pub returns : goal.returns
returns c = are_equal_pairs _ _ c.ranges.word.fits (search rules) refl
