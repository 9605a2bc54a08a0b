use Rattle.std.proofs.Common.{◌≡◌, ◌≤◌, Bool, length, map}
use Rattle.channel_alarm.specs.Alarms.{all, stands}
use Rattle.channel_alarm.specs.declared.alarm.Alarm.{Alarm}
use Rattle.channel_alarm.proofs.Turns.{turned}
use Rattle.channel_alarm.proofs.alarms.Alarms.turn.Given as goal

abbrev pub invariant-loop-k : goal.invariant-loop-k
invariant-loop-k l = record {
  few : length l.changed.items ≤ l.k;
  turned : (new : Alarm → Bool) → l.on ≡ map new all → l.changed.items ≡ turned (stands l.fn.self) new l.k;
}
