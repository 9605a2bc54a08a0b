-- JudgedSet: the sets of a station that are whole, each once and in rising order.
use Rattle.std.specs.Prelude.{ℕ, ◌+◌, ◌*◌, max, nat_le, nat_lt, ◌&&◌, ◌==◌, if◌then◌else◌, List, [], ◌∷◌, ◌++◌, Option, Some, None}
use Rattle.ld_base.specs.Phases.{no_current}
use Rattle.ld_base.specs.declared.fields.Fields.{Fields}
use Rattle.ld_base.specs.declared.phases.Phases.{Phases}
use Rattle.ld_base.specs.declared.phases.SampleSet.{SampleSet}
use Rattle.pingpong.specs.Exchange.{estimate2}
use Rattle.sample_store.specs.Aligned.{Aligned}
use Rattle.sample_store.specs.Along.{along}
use Rattle.sample_store.specs.Offers.{Offer, Own, Value, numbered, own_number, place_at, Taken, Placed}

-- the values that a station has in set n: for one past the line's stations zero
abbrev pub part : Fields → ℕ → List Offer → ℕ → ℕ → Option Phases
part f me offers n station =
    if nat_lt f.stations station then Some no_current
    else if station == me then numbered n (Taken f.spacing offers)
    else numbered n (Placed f.spacing f.limit station offers)

-- three parts together, where none is missing
abbrev pub together : ℕ → Option Phases → Option Phases → Option Phases → Option SampleSet
together n (Some a) (Some b) (Some c) = Some (record { number = n; values = a ∷ b ∷ c ∷ [] })
together n (Some a) (Some b) None = None
together n (Some a) None c = None
together n None b c = None

-- set n, where none of its parts is missing
abbrev pub set_of : Fields → ℕ → List Offer → ℕ → Option SampleSet
set_of f me offers n = together n (part f me offers n 1) (part f me offers n 2) (part f me offers n 3)

-- the least number above those of all these sets
abbrev pub next_set : List SampleSet → ℕ
next_set [] = 0
next_set (s ∷ sets) = max (s.number + 1) (next_set sets)

-- a set is given where it is whole, younger than the limit, and above all sets given before
abbrev pub given_of : Fields → ℕ → ℕ → Option SampleSet → List SampleSet
given_of f now next None = []
given_of f now next (Some set) = if nat_lt now (set.number * f.spacing + f.limit) && nat_le next set.number then set ∷ [] else []

-- the stamp of an offer
abbrev pub stamp_of : Offer → ℕ
stamp_of (Own now values) = now
stamp_of (Value fresh peer number values) = fresh.at

-- the number under which an offer puts a value, if it does
abbrev pub put_by : Fields → List Offer → Offer → Option ℕ
put_by f before (Own now values) = own_number f.spacing (Taken f.spacing before) now
put_by f before (Value fresh peer number values) =
    place_at f.spacing f.limit fresh.at (Placed f.spacing f.limit peer before) (Aligned f.spacing number (estimate2 fresh.exchange))

-- the set that is judged when its last part was put
abbrev pub judged_at : Fields → ℕ → List Offer → ℕ → ℕ → Option ℕ → List SampleSet
judged_at f me offers now next None = []
judged_at f me offers now next (Some n) = given_of f now next (set_of f me offers n)

-- the sets of station `me` by all that its store was offered
abbrev pub JudgedSet : Fields → ℕ → List Offer → List SampleSet
JudgedSet f me offers =
    along (λ before judged offer. judged_at f me (before ++ offer ∷ []) (stamp_of offer) (next_set judged) (put_by f before offer)) offers
