-- AlarmState: which alarms of a peer are on.
use Rattle.std.specs.Prelude.{ℕ, ◌-◌, Bool, true, false, ◌==◌, if◌then◌else◌, List, [], ◌∷◌, fold, Option, Some, None, is_some}
use Rattle.ld_base.specs.declared.fields.Fields.{Fields}
use Rattle.bit_sync.specs.declared.told.Got.{Got}
use Rattle.bit_sync.specs.declared.told.Got.TheVariants.{Good, Bad}
use Rattle.channel_alarm.specs.Alarms.{is_on}
use Rattle.channel_alarm.specs.declared.alarm.Alarm.{Alarm}
use Rattle.channel_alarm.specs.declared.alarm.Facts.{Facts}
use Rattle.relay_core.specs.Accepted.{Accepted, InForceWith, last_of}
use Rattle.relay_core.specs.Line.{Gots, is_locked_from}
use Rattle.relay_core.specs.Log.{now, since}
use Rattle.relay_core.specs.declared.call.Call.{Call}
use Rattle.relay_core.specs.declared.call.Call.TheVariants as made
use Rattle.relay_core.specs.declared.receipt.Receipt.{Receipt}

-- the yellow bit after a frame: that of a good one, and else as before
abbrev pub yellow_after : Bool → Got → Bool
yellow_after yellow (Good f) = f.yellow
yellow_after yellow (Bad fault) = yellow

-- the yellow bit of the last good frame, off before there is one
abbrev pub last_yellow : List Got → Bool
last_yellow gots = fold yellow_after false gots

-- whether a call on a wire to or from a peer failed and no bits of it came since
abbrev pub faulty_after : ℕ → Bool → Call → Bool
faulty_after peer faulty (made.Sample at values) = faulty
faulty_after peer faulty (made.Slot at) = faulty
faulty_after peer faulty (made.Bits at from bits) = if from == peer then false else faulty
faulty_after peer faulty (made.Fault at from) = if from == peer then true else faulty

abbrev pub is_faulty : ℕ → List Call → Bool
is_faulty peer log = fold (faulty_after peer) false log

-- the time of the last message accepted, or else that of the first call
abbrev pub heard_at : ℕ → Option Receipt → ℕ
heard_at since None = since
heard_at since (Some r) = r.at

-- what is known of a peer's channel
abbrev pub facts : Fields → ℕ → ℕ → List Call → Facts
facts f me peer log = record {
  locked = is_locked_from f peer log;
  yellow = last_yellow (Gots f peer log);
  quiet = now log - heard_at (since log) (last_of (Accepted f me peer log));
  aligned = is_some (InForceWith f me peer log);
  faulty = is_faulty peer log;
}

-- whether an alarm of a peer is on: before the first call none is
abbrev pub AlarmState : Fields → ℕ → ℕ → List Call → Alarm → Bool
AlarmState f me peer [] alarm = false
AlarmState f me peer (call ∷ calls) alarm = is_on f.silent (facts f me peer (call ∷ calls)) alarm
