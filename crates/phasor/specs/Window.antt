-- What a window keeps of the sets that were pushed, and which lists of sets it stands for.
use Rattle.std.specs.Prelude.{◌≡◌, ℕ, suc, ◌<◌, ◌≤◌, List, length, Some, None}
use Rattle.ld_base.specs.declared.phases.SampleSet.{SampleSet}
use Rattle.phasor.specs.Sum.{set_numbered, sets_before}

-- the samples of a cycle, the number that would follow the last one pushed, and the kept sets, oldest first
pub record Kept : Type 0 where
  pub cycle : ℕ
  pub next : ℕ
  pub sets : List SampleSet

-- a window stands for the sets that were pushed
pub record StandsFor (window : Kept) (pushed : List SampleSet) : Type 0 where
  -- the kept sets are the last ones, without a gap
  pub kept : sets_before pushed (length window.sets) window.next ≡ Some window.sets
  -- where they are less than a cycle, no more of them follow each other without a gap
  pub whole : length window.sets < window.cycle → sets_before pushed (suc (length window.sets)) window.next ≡ None
  -- no set has that number or a later one
  pub below : (n : ℕ) → window.next ≤ n → set_numbered n pushed ≡ None
