-- What a store keeps of its calls, and which lists of calls it stands for.
use Rattle.std.specs.Prelude.{◌≡◌, ◌≢◌, ℕ, ◌+◌, ◌-◌, ◌*◌, ◌%◌, ◌<◌, ◌≤◌, ◌==◌, if◌then◌else◌, List, [], Option, Some, None, slice_index_or}
use Rattle.ld_base.specs.declared.fields.Fields.{Fields}
use Rattle.ld_base.specs.declared.phases.Phases.{Phases}
use Rattle.sample_store.specs.Calls.{Call, offers_of, Given}
use Rattle.sample_store.specs.JudgedSet.{next_set}
use Rattle.sample_store.specs.Offers.{numbered, next_number, Taken, Placed}
use Rattle.sample_store.specs.declared.ring.Numbered.{Numbered}
use Rattle.sample_store.specs.declared.ring.Ring.{Ring}

-- the settings, the own station, the stamp of the last change, the next number of an own sample and of a set, and the rings
pub record Stock : Type 0 where
  pub fields : Fields
  pub me : ℕ
  pub now : ℕ
  pub own_next : ℕ
  pub given_next : ℕ
  pub rings : List Ring

-- the values of a place, if they stand there under that number
abbrev pub values_under : ℕ → Option Numbered → Option Phases
values_under n None = None
values_under n (Some place) = if place.number == n then Some place.values else None

-- the values that a ring holds under a number
abbrev pub held_at : Ring → ℕ → Option Phases
held_at ring n = values_under n (slice_index_or ring.places (n % 64) None)

-- a ring with one value more, which drives out that of any number 64, 128 .. away
pub record Puts (old new : Ring) (n : ℕ) (values : Phases) : Type 0 where
  pub here : held_at new n ≡ Some values
  pub out : (k : ℕ) → k ≢ n → k % 64 ≡ n % 64 → held_at new k ≡ None
  pub others : (k : ℕ) → k % 64 ≢ n % 64 → held_at new k ≡ held_at old k

-- the ring of a station
abbrev pub ring_of : Stock → ℕ → Ring
ring_of stock station = slice_index_or stock.rings (station - 1) (record { places = [] })

-- a station is one of the line's other stations
pub record IsPeer (stock : Stock) (station : ℕ) : Type 0 where
  pub in_range : (1 ≤ station) × (station ≤ stock.fields.stations)
  pub other : station ≢ stock.me

-- a store stands for its calls. A value that is younger than the limit is in its ring, where a later one can't drive it out: no
-- number that far above it comes so soon, since the limit is at most 48 spacings
pub record StandsFor (stock : Stock) (calls : List Call) : Type 0 where
  pub own_next : stock.own_next ≡ next_number (Taken stock.fields.spacing (offers_of calls))
  pub own : (n : ℕ) → stock.now < n * stock.fields.spacing + stock.fields.limit
      → held_at (ring_of stock stock.me) n ≡ numbered n (Taken stock.fields.spacing (offers_of calls))
  pub peers : (peer : ℕ) → IsPeer stock peer → (n : ℕ) → stock.now < n * stock.fields.spacing + stock.fields.limit
      → held_at (ring_of stock peer) n ≡ numbered n (Placed stock.fields.spacing stock.fields.limit peer (offers_of calls))
  pub ahead : (peer n : ℕ) → stock.now + stock.fields.spacing < n * stock.fields.spacing
      → numbered n (Placed stock.fields.spacing stock.fields.limit peer (offers_of calls)) ≡ None
  pub given_next : stock.given_next ≡ next_set (Given stock.fields stock.me calls)
