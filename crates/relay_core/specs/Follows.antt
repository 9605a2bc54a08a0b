-- When what a terminal keeps of a peer follows its log, and what bits of the peer bring.
use Rattle.std.specs.Prelude.{◌≡◌, ℕ, List, [], ◌∷◌, ◌++◌, map, Option, Some, None, option_map}
use Rattle.std.specs.Option.{option_to_list}
use Rattle.bit_sync.specs.declared.told.Got.{Got}
use Rattle.ld_base.specs.declared.fields.Fields.{Fields}
use Rattle.offset_track.specs.InForce.{InForce}
use Rattle.offset_track.specs.Track as track
use Rattle.offset_track.specs.declared.track.Taken.{Taken}
use Rattle.pingpong.specs.Exchange.{Stamps, exchange_of}
use Rattle.relay_message.specs.Messages.{added}
use Rattle.relay_message.specs.declared.fault.MessageFault.{MessageFault}
use Rattle.sample_store.specs.Offers.{Offer, Value}
use Rattle.sample_store.specs.declared.ring.Numbered.{Numbered}
use Rattle.channel_alarm.specs.Alarms.{standing}
use Rattle.relay_core.specs.Accepted.{Accepted, Exchanges, last_of}
use Rattle.relay_core.specs.AlarmState.{AlarmState, is_faulty}
use Rattle.relay_core.specs.Answers.{chosen_by, news_by, news_in, outgo_by, outgo_of, refused_by, taken_by}
use Rattle.relay_core.specs.Decided.{Newest, values_by}
use Rattle.relay_core.specs.Line.{Gots, Line}
use Rattle.relay_core.specs.Listens.{Listens}
use Rattle.relay_core.specs.Log.{now}
use Rattle.relay_core.specs.declared.call.Call.{Call}
use Rattle.relay_core.specs.declared.call.Call.TheVariants as made
use Rattle.relay_core.specs.Sent.{Slots}
use Rattle.relay_core.specs.Talks.{Talks}
use Rattle.relay_core.specs.Turned.{IsCalmTrue}
use Rattle.relay_core.specs.declared.answers.Heard.{Heard}
use Rattle.relay_core.specs.declared.answers.News.{News}
use Rattle.relay_core.specs.declared.answers.News.TheVariants as news
use Rattle.relay_core.specs.declared.answers.Outgoing.{Outgoing}
use Rattle.relay_core.specs.declared.peer.Peer.{Peer}
use Rattle.relay_core.specs.declared.receipt.Receipt.{Receipt}

-- all that is kept but the alarms
pub record Follows (f : Fields) (me : ℕ) (log : List Call) (p : Peer) : Type 0 where
  pub settings : (p.track.slow ≡ f.slow) × (p.track.age ≡ f.age)
  pub listens : Listens f p.listener (Line p.station log)
  pub talks : Talks f p.talker (Slots f me p.station log)
  pub track : track.StandsFor p.track (Exchanges f me p.station log)
  pub last : p.last ≡ last_of (Accepted f me p.station log)
  pub faulty : p.faulty ≡ is_faulty p.station log

-- and the alarms
abbrev pub Signals : Fields → ℕ → List Call → Peer → Type 0
Signals f me log p = p.alarms ≡ standing f.silent (AlarmState f me p.station log)

-- the values of a message that is accepted while an exchange is in force
abbrev pub values_in : ℕ → News → Option track.Chosen → List Offer
values_in peer (news.Accepted m) (Some fresh) = Value fresh peer m.number m.phases ∷ []
values_in peer (news.Accepted m) None = []
values_in peer other fresh = []

-- what is told of bits of a peer, and the exchange that is in force where a message is accepted
pub record Brought : Type 0 where
  pub frame : Option Got
  pub news : News
  pub refused : Option MessageFault
  pub taken : Option Taken
  pub fresh : Option track.Chosen

abbrev pub brought_in : Heard → Option track.Chosen → Brought
brought_in heard fresh = record { frame = heard.frame; news = heard.news; refused = heard.refused; taken = heard.taken; fresh = fresh }

-- what bits of a peer bring
pub record Brings (f : Fields) (me : ℕ) (log : List Call) (peer : ℕ) (call : Call) (b : Brought) : Type 0 where
  pub frame : added (Gots f peer) log (call ∷ []) ≡ option_to_list b.frame
  pub news : news_by f me peer log call ≡ news_in b.news
  pub refused : b.refused ≡ refused_by f peer log call
  pub taken : taken_by f me peer log call ≡ option_to_list b.taken
  pub fresh : map (λ e. record { exchange = e; at = now (log ++ call ∷ []) }) (chosen_by f me peer log call) ≡ option_to_list b.fresh
  pub values : values_by f me peer log call ≡ values_in peer b.news b.fresh

-- the receipt of a message that is accepted
abbrev pub receipts_in : ℕ → News → List Receipt
receipts_in at (news.Accepted m) = record { message = m; at = at } ∷ []
receipts_in at other = []

-- the exchange that it completes
abbrev pub exchanges_in : ℕ → News → List Stamps
exchanges_in at (news.Accepted m) = option_to_list (exchange_of m at)
exchanges_in at other = []

-- the last message accepted, with this news
abbrev pub last_after : Option Receipt → ℕ → News → Option Receipt
last_after last at (news.Accepted m) = Some (record { message = m; at = at })
last_after last at other = last

-- the exchange in force, where a message is accepted
abbrev pub chosen_in : News → Option Stamps → Option Stamps
chosen_in (news.Accepted m) chosen = chosen
chosen_in other chosen = None

-- with the time, and of all that were offered
abbrev pub fresh_in : ℕ → ℕ → List Stamps → ℕ → News → Option track.Chosen
fresh_in slow age offered at n = option_map (λ e. record { exchange = e; at = at }) (chosen_in n (InForce (λ e. e) slow age at offered))

-- a slot of a peer at a terminal's time, with its newest own sample: the peer before it and after it, and what goes to the peer
pub record SendsSlot (me time : ℕ) (newest : Option Numbered) (old new : Peer) (out : Outgoing) : Type 0 where
  pub station : new.station ≡ old.station
  pub alarms : new.alarms ≡ old.alarms
  pub calm : IsCalmTrue old → IsCalmTrue new
  pub follows : (f : Fields) (log : List Call) (at : ℕ) → Follows f me log old → newest ≡ Newest f me log → time ≡ now (log ++ made.Slot at ∷ [])
      → Follows f me (log ++ made.Slot at ∷ []) new
  pub sends : (f : Fields) (log : List Call) (at : ℕ) → Follows f me log old → newest ≡ Newest f me log → time ≡ now (log ++ made.Slot at ∷ [])
      → outgo_of out ≡ outgo_by f me log (made.Slot at) old.station
