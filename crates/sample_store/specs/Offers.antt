-- What a store is offered, and the values that it takes from that: own samples and placed values of peers, by number.
use Rattle.std.specs.Prelude.{ℕ, ◌+◌, ◌*◌, ◌/◌, ◌%◌, max, ℤ, pos, negsuc, nat_le, nat_lt, ◌&&◌, ◌==◌, if◌then◌else◌, List, [], ◌∷◌, find, Option, Some, None, option_map, is_none}
use Rattle.ld_base.specs.declared.phases.Phases.{Phases}
use Rattle.offset_track.specs.Track.{Chosen}
use Rattle.pingpong.specs.Exchange.{estimate2}
use Rattle.sample_store.specs.Aligned.{Aligned}
use Rattle.sample_store.specs.Along.{along}
use Rattle.sample_store.specs.declared.ring.Numbered.{Numbered}

-- an own sample at a stamp, or a peer's sample of a number with the exchange in force
pub data Offer : Type 0 where
  Own : ℕ → Phases → Offer
  Value : Chosen → ℕ → ℕ → Phases → Offer

-- the values under a number, the first of them
abbrev pub numbered : ℕ → List Numbered → Option Phases
numbered n xs = option_map (λ x. x.values) (find (λ x. x.number == n) xs)

-- the least number above all of these
abbrev pub next_number : List Numbered → ℕ
next_number [] = 0
next_number (x ∷ xs) = max (x.number + 1) (next_number xs)

-- a sample is taken at a multiple of the spacing or a tick later, if its number is above those of all taken before
abbrev pub own_number : ℕ → List Numbered → ℕ → Option ℕ
own_number spacing taken now = if nat_le (now % spacing) 1 && nat_le (next_number taken) (now / spacing) then Some (now / spacing) else None

-- a value is placed at its aligned number, unless that is negative, too old or too early, or has a value already
abbrev pub place_at : ℕ → ℕ → ℕ → List Numbered → ℤ → Option ℕ
place_at spacing limit now placed (negsuc n) = None
place_at spacing limit now placed (pos n) =
    if nat_lt now (n * spacing + limit) && nat_le (n * spacing) (now + spacing) && is_none (numbered n placed) then Some n else None

-- none or one value under a number
abbrev pub under : Option ℕ → Phases → List Numbered
under None values = []
under (Some n) values = record { number = n; values = values } ∷ []

abbrev pub taken_by : ℕ → List Numbered → Offer → List Numbered
taken_by spacing taken (Own now values) = under (own_number spacing taken now) values
taken_by spacing taken (Value fresh peer number values) = []

abbrev pub placed_by : ℕ → ℕ → ℕ → List Numbered → Offer → List Numbered
placed_by spacing limit peer placed (Own now values) = []
placed_by spacing limit peer placed (Value fresh from number values) =
    if from == peer then under (place_at spacing limit fresh.at placed (Aligned spacing number (estimate2 fresh.exchange))) values else []

-- the own samples that were taken
abbrev pub Taken : ℕ → List Offer → List Numbered
Taken spacing offers = along (λ before taken offer. taken_by spacing taken offer) offers

-- Placed: the values of a peer
abbrev pub Placed : ℕ → ℕ → ℕ → List Offer → List Numbered
Placed spacing limit peer offers = along (λ before placed offer. placed_by spacing limit peer placed offer) offers
