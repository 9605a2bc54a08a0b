-- From a tick on that settings and delays tell, an exchange with a peer is in force at every call of a station.
use Rattle.std.specs.Prelude.{◌-◌, ◌/◌, filter_map, is_some, option_map}
use Rattle.std.proofs.Common.{◌≡◌, ℕ, ◌+◌, ◌*◌, ◌<◌, ◌≤◌, Bool, true, false, cond, List, [], ◌∷◌, ◌++◌, All, Option, Some, map, arith, refl, ap, sym, ◌∙◌, append_assoc}
use Rattle.std.proofs.lemmas.Bool.{eq-eqb, lt-ltb, ltb-true}
use Rattle.std.proofs.lemmas.List.{map-append}
use Rattle.std.proofs.lemmas.List.Elements.{All-contains, filter_map-append}
use Rattle.std.proofs.lemmas.List.Sums.{fold_push, sum_by_push}
use Rattle.ld_base.specs.declared.fields.Fields.{Fields}
use Rattle.ld_base.specs.declared.message.Echo.{Echo}
use Rattle.offset_track.specs.InForce.{InForce, is_candidate, is_slow}
use Rattle.pingpong.specs.Exchange.{Stamps, exchange_of}
use Rattle.relay_core.specs.Accepted.{Accepted, Exchanges, InForceWith, last_of}
use Rattle.relay_core.specs.Log.{now}
use Rattle.relay_core.specs.declared.call.Call.{Call}
use Rattle.relay_core.specs.Log as log
use Rattle.relay_core.specs.Sent.{echo_of}
use Rattle.relay_core.specs.declared.receipt.Receipt.{Receipt}
use Rattle.relay_core.proofs.Accepting.{last_of-push}
use Rattle.waveform_reader.specs.Scenario.{Setup}
use Rattle.waveform_reader.specs.Sound.{IsSetup}
use Rattle.line_journal.specs.Crossings.{Start, Starts}
use Rattle.line_world.specs.Journals.{AreFirst}
use Rattle.line_journal.specs.Stations.{ArePair}
use Rattle.line_world.specs.Occasions.{Moment, moments}
use Rattle.line_world.specs.Occasions.Occasion.{slot}
use Rattle.relay_core.specs.StationLog.{StationLog}
use Rattle.line_world.specs.World.{stamp_of}
use Rattle.calm_channel.specs.Calm.{transit}
use Rattle.calm_channel.specs.Coming.{AcceptedAre, asked, asks, has_come, receipt_of}
use Rattle.calm_channel.proofs.Additions.{now-call}
use Rattle.calm_channel.proofs.Choosing.{newest-in_force}
use Rattle.calm_channel.proofs.Numbers.{paced, phase_of, spacing_range, stamp-by_phase, stamps-up}
use Rattle.calm_channel.proofs.Lasts.{IsLast, last-passing}
use Rattle.calm_channel.proofs.Pace.{at as moment_of}
use Rattle.calm_channel.proofs.RoundTrips.{is_young, not_slow}
use Rattle.calm_channel.proofs.Stations.{IsSpoken, journal_of, keeps, moment-in_step}
use Rattle.calm_channel.proofs.Steps.{asks-are, marked, marks, start}

pub swapped : (stations one other : ℕ) → ArePair stations one other → ArePair stations other one
swapped stations one other pair = record { one_there = pair.other_there; other_there = pair.one_there; differ = λ is. pair.differ (sym is) }

one-made : {X Y : Type 0} (h : X → Option Y) (x : X) (y : Y) → h x ≡ Some y → filter_map h (x ∷ []) ≡ y ∷ []
one-made h x y is = rw is refl

module _ (s : Setup) (kept : IsSetup s) (comes : AcceptedAre s) where
  abbrev f : Fields
  f = s.settings

  -- the last message that a station accepted from another began at most a spacing, 128 ticks and its own way before a tick
  record HasHeard (from to : ℕ) (these : List Moment) (tick : ℕ) : Type 0 where
    one : Start
    spoken : IsSpoken s from to one
    recent : tick ≤ one.time + transit s from to + f.spacing + 128
    come : one.time + transit s from to < asked from to these
    front : List Receipt
    are : Accepted f to from (StationLog to (journal_of s these)) ≡ front ++ receipt_of s from to one ∷ []

  module _ (from to : ℕ) (pair : ArePair f.stations from to) (these : List Moment) (first : AreFirst s these) where
    abbrev way : ℕ
    way = transit s from to

    abbrev starts : List Start
    starts = Starts f from to (journal_of s these)

    abbrev count : ℕ
    count = asked from to these

    last-heard : (tick least : ℕ) → tick ≤ least + way + f.spacing + 128 → All (IsSpoken s from to) starts → IsLast (has_come s from to count) (λ start. start.time) starts least
        → HasHeard from to these tick
    last-heard tick least near spoken last = record {
      one = last.one;
      spoken = All-contains (IsSpoken s from to) starts last.one spoken last.inside;
      recent = omega (arith, near, last.late);
      come = ltb-true (last.one.time + way) count last.passes;
      front = map (receipt_of s from to) last.ends.front;
      are =
          comes these first from to pair
          ∙ ap (map (receipt_of s from to)) last.ends.are
          ∙ map-append (receipt_of s from to) last.ends.front (last.one ∷ []);
    }

    heard : (tick : ℕ) → tick ≤ count → tick ≤ 125 * (marks from to these).slots → way + f.spacing + 128 ≤ tick → HasHeard from to these tick
    heard tick questions turns late =
        let sender = (keeps s kept from to pair these first).has_begun in
        let begun = sender.dense (tick - (way + f.spacing + 128)) (omega (arith, late, turns)) in
        let in_time : begun.one.time + way < count = omega (arith, begun.most, late, questions) in
        last-heard tick begun.one.time (omega (arith, begun.least, late)) sender.spoken
        (last-passing (has_come s from to count) (λ (start : Start). start.time) starts begun.one sender.order begun.inside (lt-ltb (begun.one.time + way) count in_time))

  -- a run has come to a call of a station at a tick
  pub record IsAt (me peer : ℕ) (these : List Moment) (tick : ℕ) : Type 0 where
    pub first : AreFirst s these
    pub asked_least : tick ≤ asked peer me these
    pub asked_most : asked peer me these ≤ tick + 2
    pub slots : tick ≤ 125 * (marks peer me these).slots
    pub time : now (StationLog me (journal_of s these)) ≡ stamp_of s me tick

  module _ (me peer : ℕ) (pair : ArePair f.stations me peer) where
    abbrev there : ArePair f.stations peer me
    there = swapped f.stations me peer pair

    pub IsAt-call : (done : List Moment) (x : Moment) (left : List Moment) → done ++ x ∷ left ≡ moments f s.end → (call : Call)
        → StationLog me (journal_of s (done ++ x ∷ [])) ≡ StationLog me (journal_of s done) ++ call ∷ [] → log.stamp_of call ≡ stamp_of s me x.time
        → IsAt me peer (done ++ x ∷ []) x.time
    IsAt-call done x left are call more stamped =
        let own = moment-in_step s kept me peer pair done x left are in
        let other = moment-in_step s kept peer me there done x left are in
        let questions = asks-are me peer done start in
        let one_more = sum_by_push (λ (moment : Moment). cond (asks peer me moment.occasion) 1 0) done x in
        let few : cond (asks peer me x.occasion) 1 0 ≤ 1 = at_most (asks peer me x.occasion) in
        let turns : (marks peer me (done ++ x ∷ [])).slots ≡ (marked peer me (marks peer me done) x).slots = ap (λ m. m.slots) (fold_push (marked peer me) start done x) in
        let before = keeps s kept me peer pair done (record { left = x ∷ left; are = are }) in
        let early : now (StationLog me (journal_of s done)) ≤ log.stamp_of call =
        omega (arith, before.time, stamps-up s kept me pair.one_there (marks me peer done).latest x.time own.later, stamped) in
        record {
          first = record { left = left; are = joined };
          asked_least = omega (arith, own.asks.0, questions, one_more);
          asked_most = omega (arith, own.asks.1, questions, one_more, few);
          slots = omega (arith, turns, other.slots);
          time = ap now more ∙ now-call (StationLog me (journal_of s done)) call early ∙ stamped;
        }
      where
        at_most : (b : Bool) → cond b 1 0 ≤ 1
        at_most true = omega arith
        at_most false = omega arith

        joined : (done ++ x ∷ []) ++ left ≡ moments f s.end
        joined = append_assoc done (x ∷ []) left ∙ are

    abbrev ways : ℕ
    ways = transit s me peer + transit s peer me

    -- the exchange of the last message that came, and of the last one that its sender had accepted when it began
    module _ (these : List Moment) (tick : ℕ) (at : IsAt me peer these tick) (second : HasHeard peer me these tick)
        (first : HasHeard me peer second.spoken.before second.one.time) (asked_then : asked me peer second.spoken.before ≡ second.one.time + 1)
        (some : 1 ≤ transit s peer me) (few : ways ≤ 220000) where
      abbrev sent : ℕ
      sent = first.one.time

      abbrev came : ℕ
      came = sent + transit s me peer

      abbrev turned : ℕ
      turned = second.one.time

      abbrev back : ℕ
      back = turned + transit s peer me

      held : came ≤ turned
      held = omega (arith, first.come, asked_then)

      abbrev newest : Stamps
      newest = record { a1 = phase_of s me sent / 1000000; b2 = phase_of s peer came / 1000000; b3 = phase_of s peer turned / 1000000; a4 = phase_of s me back / 1000000 }

      echo : second.one.message.echo ≡ Some (record { sent = stamp_of s me sent; came = stamp_of s peer came })
      echo =
          second.spoken.echo ∙ ap echo_of (ap last_of first.are ∙ last_of-push first.front (receipt_of s me peer first.one))
          ∙ ap (λ (t : ℕ). Some (record { sent = t; came = stamp_of s peer came })) first.spoken.sent

      stamps : ◌≡◌ {A = Option Stamps} (Some (record { a1 = stamp_of s me sent; b2 = stamp_of s peer came; b3 = stamp_of s peer turned; a4 = stamp_of s me back })) (Some newest)
      stamps =
          let a = stamp-by_phase s kept me pair.one_there sent in
          let b = stamp-by_phase s kept peer pair.other_there came in
          let c = stamp-by_phase s kept peer pair.other_there turned in
          let d = stamp-by_phase s kept me pair.one_there back in
          cc

      completes : exchange_of second.one.message (stamp_of s me back) ≡ Some newest
      completes =
          ap (option_map (λ (echo : Echo). record { a1 = echo.sent; b2 = echo.came; b3 = second.one.message.sent; a4 = stamp_of s me back })) echo
          ∙ ap (λ (t : ℕ). Some (record { a1 = stamp_of s me sent; b2 = stamp_of s peer came; b3 = t; a4 = stamp_of s me back })) second.spoken.sent
          ∙ stamps

      abbrev others : List Stamps
      others = filter_map (λ r. exchange_of r.message r.at) second.front

      exchanges : Exchanges f me peer (StationLog me (journal_of s these)) ≡ others ++ newest ∷ []
      exchanges =
          ap (filter_map (λ (r : Receipt). exchange_of r.message r.at)) second.are
          ∙ filter_map-append (λ (r : Receipt). exchange_of r.message r.at) second.front (receipt_of s peer me second.one ∷ [])
          ∙ ap (λ (es : List Stamps). others ++ es) (one-made (λ (r : Receipt). exchange_of r.message r.at) (receipt_of s peer me second.one) newest completes)

      quick : ways + 55 ≤ f.slow → is_slow f.slow newest ≡ false
      quick enough =
          let spacing_most = (spacing_range s kept).1 in
          not_slow (phase_of s me) (phase_of s peer) (paced s kept me pair.one_there) (paced s kept peer pair.other_there) sent came turned back
          (omega arith) held (omega arith) f.slow (omega (arith, first.recent, spacing_most)) (omega (arith, few)) (omega (arith, enough))

      young : ways + 2 * f.spacing + 307 ≤ f.age → is_candidate f.age (phase_of s me tick / 1000000) newest ≡ true
      young enough =
          let spacing_most = (spacing_range s kept).1 in
          is_young (phase_of s me) (phase_of s peer) (paced s kept me pair.one_there) (paced s kept peer pair.other_there) sent came turned back
          (omega arith) held (omega arith) f.age tick (omega (arith, held, second.come, at.asked_most, some))
          (omega (arith, first.recent, second.recent, few, spacing_most)) (omega (arith, first.recent, second.recent, enough))

      newest-is_in_force : ways + 55 ≤ f.slow → ways + 2 * f.spacing + 307 ≤ f.age → is_some (InForceWith f me peer (StationLog me (journal_of s these))) ≡ true
      newest-is_in_force is_quick is_young =
          let time : now (StationLog me (journal_of s these)) ≡ phase_of s me tick / 1000000 = at.time ∙ stamp-by_phase s kept me pair.one_there tick in
          ap (λ (t : ℕ). is_some (InForce (λ e. e) f.slow f.age t (Exchanges f me peer (StationLog me (journal_of s these))))) time
          ∙ ap (λ (es : List Stamps). is_some (InForce (λ e. e) f.slow f.age (phase_of s me tick / 1000000) es)) exchanges
          ∙ newest-in_force f.slow f.age (phase_of s me tick / 1000000) others newest (quick is_quick) (young is_young)

    -- it is neither slow nor old
    pub in_force : (these : List Moment) (tick : ℕ) → IsAt me peer these tick → 1 ≤ transit s peer me → ways ≤ 220000 → ways + 55 ≤ f.slow → ways + 2 * f.spacing + 307 ≤ f.age
        → ways + 2 * f.spacing + 256 ≤ tick → is_some (InForceWith f me peer (StationLog me (journal_of s these))) ≡ true
    in_force these tick at some few is_quick is_young late = go (heard peer me there these at.first tick at.asked_least at.slots (omega (arith, late)))
      where
        go : HasHeard peer me these tick → is_some (InForceWith f me peer (StationLog me (journal_of s these))) ≡ true
        go second =
            let before = second.spoken.before in
            let x = moment_of second.one.time (slot peer) in
            let own = moment-in_step s kept me peer pair before x second.spoken.left second.spoken.are in
            let other = moment-in_step s kept peer me there before x second.spoken.left second.spoken.are in
            let turn = other.at_slot (eq-eqb peer peer refl) in
            let questions : asked me peer before ≡ second.one.time + 1 = omega (arith, asks-are peer me before start, turn.1) in
            let first = heard me peer pair before (record { left = x ∷ second.spoken.left; are = second.spoken.are }) second.one.time
            (omega (arith, questions)) own.slots (omega (arith, second.recent, late)) in
            newest-is_in_force these tick at second first questions some few is_quick is_young
