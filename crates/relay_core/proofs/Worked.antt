-- The definitions on worked rows: which messages count, when one begins, a terminal's time, and alarms.
use Rattle.std.proofs.Common.{◌≡◌, refl, ℕ, pos, Bool, true, false, List, [], ◌∷◌, map, Some, None}
use Rattle.ld_base.specs.Settings.{usual}
use Rattle.ld_base.specs.declared.phases.Phases.{Phases}
use Rattle.bit_sync.specs.Frames.{frames, steps}
use Rattle.relay_message.specs.Messages.{told_behind}
use Rattle.sample_store.specs.Along.{along_from}
use Rattle.channel_alarm.specs.declared.alarm.Alarm.{Alarm}
use Rattle.channel_alarm.specs.declared.alarm.Alarm.TheVariants as alarm
use Rattle.relay_core.specs.Accepted.{accepted_among}
use Rattle.relay_core.specs.AlarmState.{AlarmState}
use Rattle.relay_core.specs.Answers.{news_of}
use Rattle.relay_core.specs.Log.{clock, peers}
use Rattle.relay_core.specs.declared.call.Call.{Call}
use Rattle.relay_core.specs.declared.call.Call.TheVariants as made
use Rattle.relay_core.specs.Sent.{Begun}
use Rattle.relay_core.specs.declared.answers.News.TheVariants as news
use Rattle.relay_core.specs.declared.receipt.Receipt.{Receipt}

abbrev zero : Phases
zero = record { a = pos 0; b = pos 0; c = pos 0 }

-- a message of that number from one station to another, complete at that time
abbrev came : ℕ → ℕ → ℕ → ℕ → Receipt
came at from to number = record { message = record { from = from; to = to; number = number; sent = at; echo = None; phases = zero }; at = at }

-- one that comes again, the terminal's own, and one that was overtaken don't count
counted : accepted_among 1 2 (came 100 2 1 5 ∷ came 200 2 1 5 ∷ came 300 1 2 9 ∷ came 400 2 1 7 ∷ came 500 2 1 6 ∷ []) ≡ came 100 2 1 5 ∷ came 400 2 1 7 ∷ []
unfolding along_from
counted = refl

-- one of number 0 counts where it is the first
counted_0 : accepted_among 1 3 (came 100 3 1 0 ∷ came 200 2 1 4 ∷ came 300 3 1 0 ∷ []) ≡ came 100 3 1 0 ∷ []
unfolding along_from
counted_0 = refl

-- they are told apart
accepted : news_of 1 2 None (came 100 2 1 5).message ≡ news.Accepted (came 100 2 1 5).message
accepted = refl

repeat : news_of 1 2 (Some (came 100 2 1 5)) (came 200 2 1 5).message ≡ news.Repeat 5 5
repeat = refl

stranger : news_of 1 2 (Some (came 100 2 1 5)) (came 200 1 2 9).message ≡ news.Stranger 18
stranger = refl

-- two samples and the slots of twelve channels, of which a message takes three
abbrev sending : List Call
sending = made.Sample 1000 zero ∷ made.Slot 1000 ∷ made.Slot 1125 ∷ made.Sample 2000 zero ∷ made.Slot 1250 ∷ made.Slot 1375 ∷ made.Slot 1500 ∷ made.Slot 1625 ∷ made.Slot 1750 ∷ []

-- the second begins behind the first, with the terminal's time, and neither begins again
begun : map (λ m. m.number) (Begun (usual 2 12) 1 2 sending) ≡ 1 ∷ 2 ∷ []
unfolding along_from
begun = refl

begun_at : map (λ m. m.sent) (Begun (usual 2 12) 1 2 sending) ≡ 1000 ∷ 2000 ∷ []
unfolding along_from
begun_at = refl

time : clock (made.Slot 300 ∷ made.Slot 200 ∷ []) ≡ Some 300
time = refl

no_time : clock [] ≡ None
no_time = refl

others : peers (usual 3 5) 2 ≡ 1 ∷ 3 ∷ []
others = refl

other : peers (usual 2 5) 2 ≡ 1 ∷ []
other = refl

-- an alarm of peer 2 at station 1
abbrev is_on_after : List Call → Alarm → Bool
is_on_after log alarm = AlarmState (usual 2 5) 1 2 log alarm

off : is_on_after [] alarm.Unlocked ≡ false
off = refl

unlocked : is_on_after (made.Slot 0 ∷ []) alarm.Unlocked ≡ true
unfolding frames steps
unlocked = refl

unaligned : is_on_after (made.Slot 0 ∷ []) alarm.Unaligned ≡ true
unfolding along_from told_behind frames steps
unaligned = refl

quiet : is_on_after (made.Slot 100 ∷ made.Slot 20100 ∷ []) alarm.Silent ≡ false
unfolding along_from told_behind frames steps
quiet = refl

silent : is_on_after (made.Slot 100 ∷ made.Slot 20101 ∷ []) alarm.Silent ≡ true
unfolding along_from told_behind frames steps
silent = refl

faulty : is_on_after (made.Fault 0 2 ∷ made.Sample 1000 zero ∷ made.Bits 1100 3 (1 ∷ []) ∷ []) alarm.Fault ≡ true
faulty = refl

mended : is_on_after (made.Fault 0 2 ∷ made.Bits 100 2 [] ∷ []) alarm.Fault ≡ false
mended = refl
