-- What a ring keeps at its places, and how it goes on from set to set.
use Rattle.std.specs.Prelude.{◌≡◌, ℕ, zero, suc, ◌+◌, ◌%◌, ◌<◌, List, [], ◌∷◌, ◌++◌, length, slice_index_or}
use Rattle.ld_base.specs.declared.phases.Phases.{Phases}
use Rattle.ld_base.specs.declared.phases.SampleSet.{SampleSet}
use Rattle.ld_base.specs.Phases.{no_current}
use Rattle.phasor.specs.Window.{Kept}

-- the `count` sets below `stop`, oldest first, each with the values at the place of its number
abbrev pub sets_below : ℕ → List (List Phases) → ℕ → ℕ → List SampleSet
sets_below cycle places zero stop = []
sets_below cycle places (suc count) zero = []
sets_below cycle places (suc count) (suc stop) =
    sets_below cycle places count stop ++ record { number = stop; values = slice_index_or places (stop % cycle) [] } ∷ []

-- no current at any station
abbrev pub quiet : List Phases
quiet = no_current ∷ no_current ∷ no_current ∷ []

-- the values that leave with one set more: those of the oldest set where a full cycle is kept, and else none
pub record Leaves (ring : Kept) (values : List Phases) : Type 0 where
  pub room : length ring.sets < ring.cycle → values ≡ quiet
  pub full : (oldest : SampleSet) (rest : List SampleSet) → length ring.sets ≡ ring.cycle → ring.sets ≡ oldest ∷ rest
      → (values ≡ oldest.values) × (oldest.number + ring.cycle ≡ ring.next)

-- a ring with one set more keeps the last ones
pub record IsPushed (ring new : Kept) (set : SampleSet) (leaving : List Phases) : Type 0 where
  pub leaves : Leaves ring leaving
  pub cycle : new.cycle ≡ ring.cycle
  pub next : new.next ≡ set.number + 1
  pub room : length ring.sets < ring.cycle → new.sets ≡ ring.sets ++ set ∷ []
  pub full : (oldest : SampleSet) (rest : List SampleSet) → length ring.sets ≡ ring.cycle → ring.sets ≡ oldest ∷ rest
      → new.sets ≡ rest ++ set ∷ []
