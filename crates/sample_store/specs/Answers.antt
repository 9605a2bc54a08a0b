-- What a store answers to an own sample, to a peer's value and to the question for a set, by what it keeps.
use Rattle.std.specs.Prelude.{ℕ, ◌+◌, ◌-◌, ◌*◌, ◌/◌, ◌%◌, ℤ, pos, negsuc, nat_le, nat_lt, ◌&&◌, if◌then◌else◌, List, [], Option, Some, None, is_some, slice_index_or}
use Rattle.ld_base.specs.declared.fields.Fields.{Fields}
use Rattle.ld_base.specs.declared.phases.Phases.{Phases}
use Rattle.ld_base.specs.declared.phases.SampleSet.{SampleSet}
use Rattle.ld_base.specs.Phases.{no_current}
use Rattle.sample_store.specs.JudgedSet.{together}
use Rattle.sample_store.specs.Stock.{Stock, held_at}
use Rattle.sample_store.specs.declared.ring.Ring.{Ring}
use Rattle.sample_store.specs.declared.store.OwnTaken.{OwnTaken}
use Rattle.sample_store.specs.declared.store.OwnTaken.TheVariants.{Took, OffGrid, Again}
use Rattle.sample_store.specs.declared.store.Placed.{Placed}
use Rattle.sample_store.specs.declared.store.Placed.TheVariants.{Stale, Ahead, Double, Stored}

-- to an own sample, where `next` is the least number above those of all samples taken
abbrev pub own_answer : ℕ → ℕ → ℕ → OwnTaken
own_answer spacing next now =
    if nat_le (now % spacing) 1 then (if nat_le next (now / spacing) then Took (now / spacing) else Again (next - 1)) else OffGrid

-- to a peer's value that is aligned to a number, by the values of the peer that are kept under numbers
abbrev pub place_answer : ℕ → ℕ → ℕ → (ℕ → Option Phases) → ℤ → Placed
place_answer spacing limit now held (negsuc n) = Stale (negsuc n)
place_answer spacing limit now held (pos n) =
    if nat_le (n * spacing + limit) now then Stale (pos n)
    else if nat_lt (now + spacing) (n * spacing) then Ahead (pos n)
    else if is_some (held n) then Double n
    else Stored n

-- the values kept of a station under a number, in its ring: of one past the line's stations zero
abbrev pub kept_in : ℕ → ℕ → Ring → ℕ → Option Phases
kept_in stations station ring n = if nat_lt stations station then Some no_current else held_at ring n

-- the set kept under a number, in the rings of all stations
abbrev pub whole_at : ℕ → List Ring → ℕ → Option SampleSet
whole_at stations rings n =
    together n
    (kept_in stations 1 (slice_index_or rings 0 (record { places = [] })) n)
    (kept_in stations 2 (slice_index_or rings 1 (record { places = [] })) n)
    (kept_in stations 3 (slice_index_or rings 2 (record { places = [] })) n)

-- to the question for the set of a number, where `next` is the least number above those of all sets given
abbrev pub set_answer : Fields → ℕ → List Ring → ℕ → ℕ → Option SampleSet
set_answer f next rings now n = if nat_lt now (n * f.spacing + f.limit) && nat_le next n then whole_at f.stations rings n else None

-- a store that gave a set or none
abbrev pub with_given : Stock → Option SampleSet → Stock
with_given stock None = stock
with_given stock (Some set) = record stock { given_next = set.number + 1 }
