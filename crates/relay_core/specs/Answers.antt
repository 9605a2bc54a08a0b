-- What a terminal answers to a call, by its log before the call and with it.
use Rattle.std.specs.Prelude.{ℕ, ◌+◌, nat_le, if◌then◌else◌, List, [], ◌∷◌, ◌++◌, map, Option, None, Some, reverse, slice_get}
use Rattle.std.specs.List.{flat_map}
use Rattle.std.specs.Option.{option_to_list}
use Rattle.ld_base.specs.Message.{Contents}
use Rattle.ld_base.specs.declared.fields.Fields.{Fields}
use Rattle.ld_base.specs.declared.phases.SampleSet.{SampleSet}
use Rattle.c3794_frame.specs.Numbers.{bits_of}
use Rattle.relay_message.specs.MessageOf.{address_of}
use Rattle.relay_message.specs.Messages.{added}
use Rattle.relay_message.specs.declared.fault.MessageFault.{MessageFault}
use Rattle.pingpong.specs.Exchange.{Stamps, estimate2}
use Rattle.offset_track.specs.InForce.{is_slow}
use Rattle.offset_track.specs.declared.track.Taken.{Taken}
use Rattle.offset_track.specs.declared.track.Taken.TheVariants as taken
use Rattle.sample_store.specs.Aligned.{Aligned}
use Rattle.sample_store.specs.Answers.{own_answer, place_answer}
use Rattle.sample_store.specs.Offers.{Offer, Own, Value, numbered}
use Rattle.sample_store.specs.Offers as offers
use Rattle.sample_store.specs.declared.store.OwnTaken.{OwnTaken}
use Rattle.sample_store.specs.declared.store.Placed.{Placed}
use Rattle.trip_logic.specs.TripAt.{verdicts}
use Rattle.channel_alarm.specs.Alarms.{turns}
use Rattle.relay_core.specs.Accepted.{Accepted, Exchanges, InForceWith, is_addressed, last_of}
use Rattle.relay_core.specs.AlarmState.{AlarmState}
use Rattle.relay_core.specs.Decided.{JudgedSets, Offers, accepted_by, values_by}
use Rattle.relay_core.specs.Line.{Messages, Refusals}
use Rattle.relay_core.specs.Log.{peers}
use Rattle.relay_core.specs.declared.call.Call.{Call}
use Rattle.relay_core.specs.Sent.{Begun, Sent}
use Rattle.relay_core.specs.declared.answers.Change.{Change}
use Rattle.relay_core.specs.declared.answers.Judged.{Judged}
use Rattle.relay_core.specs.declared.answers.News.{News}
use Rattle.relay_core.specs.declared.answers.News.TheVariants as news
use Rattle.relay_core.specs.declared.answers.Outgoing.{Outgoing}
use Rattle.relay_core.specs.declared.receipt.Receipt.{Receipt}

-- the answer to an own sample at a time
abbrev pub own_at : Fields → ℕ → List Call → ℕ → OwnTaken
own_at f me log at = own_answer f.spacing (offers.next_number (offers.Taken f.spacing (Offers f me log))) at

-- what is told of a set, where these are all sets judged and it is the last of them
abbrev pub judgement : Fields → List SampleSet → SampleSet → Judged
judgement f sets set = record { number = set.number; verdicts = verdicts f sets set.number }

-- what some more elements of a list make a rule judge, of which these are the sets
abbrev pub judgements : {A : Type 0} → Fields → (List A → List SampleSet) → List A → List A → List Judged
judgements f sets before more = map (judgement f (sets (before ++ more))) (added sets before more)

-- what is judged with a call
abbrev pub judged_by : Fields → ℕ → List Call → Call → List Judged
judged_by f me log call = judgements f (JudgedSets f me) log (call ∷ [])

-- the last set judged
abbrev pub last_judged : Fields → ℕ → List Call → Option SampleSet
last_judged f me log = slice_get (reverse (JudgedSets f me log)) 0

-- how the alarms of a peer change with a call
abbrev pub changes_of : Fields → ℕ → List Call → Call → ℕ → List Change
changes_of f me log call peer =
    map (λ turn. record { peer = peer; turn = turn }) (turns (AlarmState f me peer log) (AlarmState f me peer (log ++ call ∷ [])))

-- and those of all peers
abbrev pub changes_by : Fields → ℕ → List Call → Call → List Change
changes_by f me log call = flat_map (changes_of f me log call) (peers f me)

-- what goes to a peer: the bits of frames, and the messages that begin in them
pub record Outgo : Type 0 where
  pub to : ℕ
  pub frames : List (List ℕ)
  pub begun : List Contents

abbrev pub outgo_of : Outgoing → Outgo
outgo_of o = record { to = o.to; frames = bits_of o.bytes ∷ []; begun = option_to_list o.begun }

-- what goes to a peer with a call
abbrev pub outgo_by : Fields → ℕ → List Call → Call → ℕ → Outgo
outgo_by f me log call peer = record { to = peer; frames = added (Sent f me peer) log (call ∷ []); begun = added (Begun f me peer) log (call ∷ []) }

-- the number of the last message accepted
abbrev pub last_number : Option Receipt → ℕ
last_number None = 0
last_number (Some r) = r.message.number

-- the least number above it
abbrev pub number_after : Option Receipt → ℕ
number_after None = 0
number_after (Some r) = r.message.number + 1

-- what a message from a peer is to a terminal that accepted this one last
abbrev pub news_of : ℕ → ℕ → Option Receipt → Contents → News
news_of me peer last m =
    if is_addressed peer me m then (if nat_le (number_after last) m.number then news.Accepted m else news.Repeat m.number (last_number last))
    else news.Stranger (address_of m)

-- news as a list
abbrev pub news_in : News → List News
news_in news.Nothing = []
news_in other = other ∷ []

-- the news of a call
abbrev pub news_by : Fields → ℕ → ℕ → List Call → Call → List News
news_by f me peer log call = map (news_of me peer (last_of (Accepted f me peer log))) (added (Messages f peer) log (call ∷ []))

-- the first fault for which a place is refused with a call
abbrev pub refused_by : Fields → ℕ → List Call → Call → Option MessageFault
refused_by f peer log call = slice_get (added (Refusals f peer) log (call ∷ [])) 0

-- what becomes of an exchange
abbrev pub taken_of : ℕ → Stamps → Taken
taken_of slow e = if is_slow slow e then taken.Slow else taken.Kept

-- what becomes of those that a call completes
abbrev pub taken_by : Fields → ℕ → ℕ → List Call → Call → List Taken
taken_by f me peer log call = map (taken_of f.slow) (added (Exchanges f me peer) log (call ∷ []))

-- the exchange in force with a call by which a message is accepted
abbrev pub chosen_by : Fields → ℕ → ℕ → List Call → Call → List Stamps
chosen_by f me peer log call = flat_map (λ r. option_to_list (InForceWith f me peer (log ++ call ∷ []))) (accepted_by f me peer log call)

-- what becomes of a peer's values, behind all that was offered before
abbrev pub placed_of : Fields → List Offer → Offer → List Placed
placed_of f before (Own at values) = []
placed_of f before (Value fresh peer number values) =
    place_answer f.spacing f.limit fresh.at (λ n. numbered n (offers.Placed f.spacing f.limit peer before)) (Aligned f.spacing number (estimate2 fresh.exchange)) ∷ []

-- what becomes of those that a call brings
abbrev pub placed_by : Fields → ℕ → ℕ → List Call → Call → List Placed
placed_by f me peer log call = flat_map (placed_of f (Offers f me log)) (values_by f me peer log call)
