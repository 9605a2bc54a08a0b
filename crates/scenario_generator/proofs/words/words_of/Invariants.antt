use Rattle.std.proofs.Common.{◌≡◌, ◌++◌, ◌+◌, ℕ, length, take}
use Rattle.scenario_generator.specs.Words.{words_from, words_of}
use Rattle.scenario_generator.proofs.words.words_of.Given as goal

-- the words so far and those that are left are all
abbrev pub invariant-loop-k : goal.invariant-loop-k
invariant-loop-k l = record {
  places : length l.words ≡ 46;
  words : (left : ℕ) → l.k + left ≡ 46 → take l.k l.words ++ words_from left l.source ≡ words_of l.fn.number;
}
