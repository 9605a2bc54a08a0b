use Rattle.std.proofs.Common.{◌≡◌, ℕ, ◌<◌, ◌≤◌, false}
use Rattle.bit_sync.specs.Frames.{are_both}
use Rattle.bit_sync.specs.Step.{window}
use Rattle.bit_sync.proofs.hunting.earliest.Given as goal

-- none of the windows behind k has the words
abbrev pub invariant-loop-k : goal.invariant-loop-k
invariant-loop-k l = (l.k ≤ l.count) × ((j : ℕ) → l.k ≤ j → j < l.count → are_both l.words (window l.oldest j) (window l.newest j) ≡ false)

abbrev pub decreases-loop-k : goal.decreases-loop-k
decreases-loop-k l = l.k
