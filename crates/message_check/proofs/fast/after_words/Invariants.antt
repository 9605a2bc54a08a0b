use Rattle.std.proofs.Common.{ℕ, List, ◌++◌, take}
use Rattle.std.specs.List.{concat}
use Rattle.message_check.specs.Check.{divisor, dividend}
use Rattle.message_check.specs.Polynomials.{IsRemainder}
use Rattle.message_check.proofs.fast.after_words.Given as goal

-- the remainder with the words so far
abbrev pub invariant-loop-word : goal.invariant-loop-word
invariant-loop-word l = (front : List ℕ) → IsRemainder 32 divisor (dividend front) l.fn.remainder
    → IsRemainder 32 divisor (dividend (front ++ concat (take l.word-index l.words))) l.remainder
