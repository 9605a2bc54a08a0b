use Rattle.std.proofs.Common.{arith}
use Rattle.std.proofs.lemmas.List.{length-set}
use Rattle.scenario_generator.proofs.Draws.{drawn_all, drawn_more}
use Rattle.scenario_generator.proofs.words.words_of.Goals as goal

pub loop-k-preserved : goal.loop-k-preserved
loop-k-preserved c = record {
  places = simp length-set c.loop-k.invariant.places;
  words = drawn_more _ _ _ _ _ _ (omega arith) c.next_word.ensures c.loop-k.invariant.words;
}

pub returns : goal.returns
returns c = drawn_all _ _ _ _ c.loop-k.invariant.places (omega arith) c.loop-k.invariant.words
