-- From a tick on an exchange is in force at every entry of a station.
use Rattle.std.proofs.Common.{◌≡◌, ℕ, List, [], ◌∷◌, ◌++◌, arith, ap, sym, ◌∙◌}
use Rattle.std.specs.Prelude.{is_some}
use Rattle.pingpong.specs.declared.journal.Entry.{Entry}
use Rattle.relay_core.specs.Accepted.{InForceWith}
use Rattle.relay_core.specs.declared.call.Call.{Call}
use Rattle.waveform_reader.specs.Scenario.{Setup}
use Rattle.waveform_reader.specs.Sound.{IsSetup}
use Rattle.line_world.specs.Journals.{AreFirst}
use Rattle.line_journal.specs.Stations.{ArePair}
use Rattle.line_world.specs.Occasions.{Moment}
use Rattle.line_journal.specs.Report.{station_of}
use Rattle.relay_core.specs.StationLog.{StationLog, calls_by}
use Rattle.line_world.specs.World.{stamp_of}
use Rattle.line_journal.proofs.Entries.{StationLog-push}
use Rattle.calm_channel.specs.Aligned.{AllowsClosely, AllowsExchanges, InForceFrom, aligned_tick, first_aligned_tick}
use Rattle.calm_channel.specs.Coming.{AcceptedAre}
use Rattle.calm_channel.proofs.Numbers.{quick, spacing_range}
use Rattle.calm_channel.proofs.Delays.{delay-range}
use Rattle.calm_channel.proofs.InForce.{IsAt-call, in_force}
use Rattle.calm_channel.proofs.Places.{entry-moment, handed}
use Rattle.calm_channel.proofs.Stations.{journal_of}

module _ (s : Setup) (kept : IsSetup s) (comes : AcceptedAre s) (me peer : ℕ) (pair : ArePair s.settings.stations me peer) (these : List Moment) (first : AreFirst s these) where
  -- from two transits, two spacings and 256 ticks on
  pub from_transits : AllowsClosely s me peer → InForceFrom s.settings (journal_of s these) me peer (first_aligned_tick s me peer)
  from_transits allows before later entry are here late =
      let came = entry-moment s these first.left before later entry first.are are in
      let moment = came.moment in
      let call = handed me (stamp_of s me moment.time) came.what (ap (λ (e : Entry). station_of e.what) (sym came.is) ∙ here) in
      let log : StationLog me (journal_of s (came.done ++ moment ∷ [])) ≡ StationLog me (journal_of s came.done) ++ call.0 ∷ [] =
      ap (StationLog me) came.next ∙ StationLog-push me before entry
      ∙ ap (λ (j : List Entry). StationLog me j ++ calls_by me entry) (sym came.journal)
      ∙ ap (λ (e : Entry). StationLog me (journal_of s came.done) ++ calls_by me e) came.is
      ∙ ap (λ (calls : List Call). StationLog me (journal_of s came.done) ++ calls) call.1 in
      let at = IsAt-call s kept comes me peer pair came.done moment came.left came.are call.0 log call.2 in
      let time : entry.time ≡ moment.time = ap (λ (e : Entry). e.time) came.is in
      let one = delay-range s me peer kept in
      let other = delay-range s peer me kept in
      let slots = quick s.settings kept.settings in
      let spacing = spacing_range s kept in
      ap (λ (j : List Entry). is_some (InForceWith s.settings me peer (StationLog me j))) (sym came.next)
      ∙ in_force s kept comes me peer pair (came.done ++ moment ∷ []) moment.time at (omega (arith, other.0)) (omega (arith, one.1, other.1, slots, spacing.1))
      (omega (arith, allows.slow)) (omega (arith, allows.age)) (omega (arith, late, time))

  -- and so from four spacings, both delays and 400 ticks on
  pub from_delays : AllowsExchanges s me peer → InForceFrom s.settings (journal_of s these) me peer (aligned_tick s me peer)
  from_delays allows before later entry are here late =
      let slots = quick s.settings kept.settings in
      let spacing = spacing_range s kept in
      from_transits (record { slow = omega (arith, slots, spacing.0, allows.slow); age = omega (arith, slots, spacing.0, allows.age) }) before later entry are here
      (omega (arith, slots, spacing.0, late))
