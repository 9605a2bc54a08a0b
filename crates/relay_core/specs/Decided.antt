-- What a terminal places and judges: its own samples, its peers' values, the sets, and the verdicts.
use Rattle.std.specs.Prelude.{ℕ, List, [], ◌∷◌, ◌++◌, map, Option, Some, slice_get, reverse}
use Rattle.std.specs.List.{flat_map}
use Rattle.std.specs.Option.{option_to_list}
use Rattle.ld_base.specs.declared.fields.Fields.{Fields}
use Rattle.ld_base.specs.declared.phases.Phases.{Phases}
use Rattle.ld_base.specs.declared.phases.SampleSet.{SampleSet}
use Rattle.pingpong.specs.Exchange.{Stamps}
use Rattle.relay_message.specs.Messages.{added}
use Rattle.sample_store.specs.Along.{along}
use Rattle.sample_store.specs.JudgedSet.{JudgedSet}
use Rattle.sample_store.specs.Offers.{Offer, Own, Value, Taken}
use Rattle.sample_store.specs.declared.ring.Numbered.{Numbered}
use Rattle.sample_store.specs.declared.store.OwnTaken.{OwnTaken}
use Rattle.sample_store.specs.declared.store.OwnTaken.TheVariants.{Took, OffGrid, Again}
use Rattle.relay_core.specs.Accepted.{Accepted, InForceWith}
use Rattle.relay_core.specs.Log.{now}
use Rattle.relay_core.specs.declared.call.Call.{Call}
use Rattle.relay_core.specs.declared.call.Call.TheVariants as made
use Rattle.relay_core.specs.declared.receipt.Receipt.{Receipt}

-- the messages from a peer that are accepted with a call
abbrev pub accepted_by : Fields → ℕ → ℕ → List Call → Call → List Receipt
accepted_by f me peer before call = added (Accepted f me peer) before (call ∷ [])

-- the values of an accepted message, with the exchange in force, that of the message itself counted
abbrev pub values_of : ℕ → Receipt → Stamps → Offer
values_of peer r exchange = Value (record { exchange = exchange; at = r.at }) peer r.message.number r.message.phases

-- the values that bits from a peer bring: none where no message is accepted or nothing is in force
abbrev pub values_by : Fields → ℕ → ℕ → List Call → Call → List Offer
values_by f me peer before call =
    flat_map (λ r. map (values_of peer r) (option_to_list (InForceWith f me peer (before ++ call ∷ [])))) (accepted_by f me peer before call)

-- what a call offers to be put under a number
abbrev pub offered_by : Fields → ℕ → List Call → Call → List Offer
offered_by f me before (made.Sample at values) = Own (now (before ++ made.Sample at values ∷ [])) values ∷ []
offered_by f me before (made.Slot at) = []
offered_by f me before (made.Bits at peer bits) = values_by f me peer before (made.Bits at peer bits)
offered_by f me before (made.Fault at peer) = []

-- all that station `me` is offered: own samples at its time, and peers' values
abbrev pub Offers : Fields → ℕ → List Call → List Offer
Offers f me log = along (λ before offers call. offered_by f me before call) log

-- the newest own sample
abbrev pub Newest : Fields → ℕ → List Call → Option Numbered
Newest f me log = slice_get (reverse (Taken f.spacing (Offers f me log))) 0

-- the newest own sample after this became of one
abbrev pub newest_after : Option Numbered → OwnTaken → Phases → Option Numbered
newest_after newest (Took n) values = Some (record { number = n; values = values })
newest_after newest OffGrid values = newest
newest_after newest (Again n) values = newest

-- JudgedSet: the sets that are judged, in their order
abbrev pub JudgedSets : Fields → ℕ → List Call → List SampleSet
JudgedSets f me log = JudgedSet f me (Offers f me log)
