-- The own sample lies between two samples of the peer by an exchange whose messages are honest: so the law of mixed instants holds of
-- the three.
use Rattle.std.specs.Int.{abs_diff}
use Rattle.std.proofs.Common.{ℕ, ◌+◌, ◌-◌, ◌*◌, ◌<◌, ◌≤◌, pos, List, inl, inr, sym, subst, arith}
use Rattle.std.proofs.Math.Nat.{mul-le-mul_left}
use Rattle.ld_base.specs.declared.fields.Fields.{Fields}
use Rattle.pingpong.specs.Bounded.{IsInOrder, Passage, stamps}
use Rattle.pingpong.specs.Exchange.{Stamps, estimate2}
use Rattle.pingpong.specs.Journal.{passage, read_at}
use Rattle.pingpong.specs.Reading.{Reading, SameClock, stamp}
use Rattle.pingpong.specs.declared.journal.Entry.{Entry}
use Rattle.pingpong.proofs.Journals.{Follows-in, SameClock-in}
use Rattle.sample_store.specs.Aligned.{IsSample}
use Rattle.resample.specs.Between.{IsBetween, weight}
use Rattle.resample.specs.Instants.{AreMixed, age_of_mixed, mixed_bound, mixed_error}
use Rattle.resample.proofs.Nearness.{mixed-near}
use Rattle.line_journal.specs.Stations.{ArePair}
use Rattle.line_journal.specs.declared.crossing.Crossing.{Crossing}
use Rattle.line_journal.specs.declared.crossing.Legs.{Legs}
use Rattle.true_time.specs.Estimates.{AreHonest, EstimatesAreBounded, IsTraced}
use Rattle.true_time.specs.Places.{IsAt}
use Rattle.true_time.proofs.Premises.{Stands, of-three}
use Rattle.true_time.proofs.Sampled.{sample-at}
use Rattle.true_time.specs.Mixing.{LiesAt, MixesAreNear, WasSampled}

-- of two samples of one clock that with the greater number was taken later
later : (drift spacing n : ℕ) (one other : Reading) → drift ≤ 200 → 500 ≤ spacing → IsSample spacing n one → IsSample spacing (n + 1) other
    → SameClock drift one other → one.time ≤ other.time
later drift spacing n one other small wide is_one is_other (inl follows) = follows.order
later drift spacing n one other small wide is_one is_other (inr follows) =
    let rises : stamp one < stamp other = omega (arith, is_one.until, is_other.since) in
    let behind : one.phase < other.phase = omega arith in
    absurd (falls drift (one.time - other.time) other.phase one.phase small follows.least behind)
  where
    falls : (drift elapsed phase earlier : ℕ) → drift ≤ 200 → phase + 1000000 * elapsed ≤ earlier + drift * elapsed → earlier < phase → ⊥
    falls drift elapsed phase earlier small least less = let most = mul-le-mul_left elapsed small in omega arith

module _ (f : Fields) (journal : List Entry) (stands : Stands f journal) where
  order : (i j : ℕ) (one other : Entry) → i ≤ j → IsAt journal i one → IsAt journal j other → one.time ≤ other.time
  order i j one other less is_one is_other = (Follows-in f.drift journal i j one other stands.in_turn less is_one is_other).order

  clock : (station : ℕ) → (1 ≤ station) × (station ≤ 3) → (i j : ℕ) (one other : Entry) → IsAt journal i one → IsAt journal j other
      → SameClock f.drift (read_at station one) (read_at station other)
  clock station there i j one other is_one is_other = SameClock-in f.drift journal i j one other stands.in_turn is_one is_other station there

  module _ (me peer place : ℕ) (entry : Entry) (n first : ℕ) (crossing : Crossing) (legs : Legs) (pair : ArePair f.stations me peer)
      (at : LiesAt f me peer journal place entry n first crossing legs) where
    ours : (1 ≤ me) × (me ≤ 3)
    ours = of-three f journal me stands pair.one_there

    theirs : (1 ≤ peer) × (peer ≤ 3)
    theirs = of-three f journal peer stands pair.other_there

    sample : (station k : ℕ) (was : WasSampled f station journal place k) → (1 ≤ station) × (station ≤ f.stations) → IsSample f.spacing k (read_at station was.taken)
    sample station k was there = sample-at f journal stands station was.taken_at was.taken (record { number = k; values = was.values }) there was.sample

    module _ (trace : IsTraced f me peer journal place entry crossing)
        (honest : AreHonest f me peer journal trace.from.back_at trace.from.back trace.from.second legs) where
      abbrev crossed : Passage
      crossed = passage me peer honest.sent honest.came honest.turned trace.from.back

      in-order : IsInOrder crossed entry.time
      in-order = record {
        there = order honest.sent_at honest.came_at honest.sent honest.came (omega (arith, honest.there)) honest.first_began.is_at honest.first_came.is_at;
        held = order honest.came_at honest.turned_at honest.came honest.turned (omega (arith, honest.held)) honest.first_came.is_at honest.second_began.is_at;
        home = order honest.turned_at trace.from.back_at honest.turned trace.from.back (omega (arith, honest.home)) honest.second_began.is_at trace.from.accepted.is_at;
        over = order trace.from.back_at place trace.from.back entry trace.from.by_then trace.from.accepted.is_at at.in_force.is_at;
      }

      are-mixed : AreMixed f.spacing f.drift crossed (read_at me at.own.taken) (read_at peer at.one.taken) (read_at peer at.other.taken) n first entry.time
      are-mixed = record {
        order = in-order;
        own_by_now = order at.own.taken_at place at.own.taken entry at.own.by_then at.own.sample.is_at at.in_force.is_at;
        in_turn = later f.drift f.spacing first (read_at peer at.one.taken) (read_at peer at.other.taken) stands.drift stands.spacing.0
            (sample peer first at.one pair.other_there) (sample peer (first + 1) at.other pair.other_there)
            (clock peer theirs at.one.taken_at at.other.taken_at at.one.taken at.other.taken at.one.sample.is_at at.other.sample.is_at);
        peers_by_now = order at.other.taken_at place at.other.taken entry at.other.by_then at.other.sample.is_at at.in_force.is_at;
        own_sent = clock me ours honest.sent_at at.own.taken_at honest.sent at.own.taken honest.first_began.is_at at.own.sample.is_at;
        own_back = clock me ours trace.from.back_at at.own.taken_at trace.from.back at.own.taken trace.from.accepted.is_at at.own.sample.is_at;
        one_came = clock peer theirs honest.came_at at.one.taken_at honest.came at.one.taken honest.first_came.is_at at.one.sample.is_at;
        one_turned = clock peer theirs honest.turned_at at.one.taken_at honest.turned at.one.taken honest.second_began.is_at at.one.sample.is_at;
        other_came = clock peer theirs honest.came_at at.other.taken_at honest.came at.other.taken honest.first_came.is_at at.other.sample.is_at;
        other_turned = clock peer theirs honest.turned_at at.other.taken_at honest.turned at.other.taken honest.second_began.is_at at.other.sample.is_at;
        own_sample = sample me n at.own pair.one_there;
        one_sample = sample peer first at.one pair.other_there;
        other_sample = sample peer (first + 1) at.other pair.other_there;
        between = subst (λ (e : Stamps). IsBetween f.spacing first (estimate2 e) (pos n)) (trace.stamps_are legs honest) at.between;
      }

      near-one : mixed_error f.spacing (weight f.spacing first (estimate2 crossing.exchange) n) at.own.taken.time at.one.taken.time at.other.taken.time
          ≤ mixed_bound f.spacing f.drift (abs_diff (legs.came - legs.sent) (legs.back - legs.turned)) (age_of_mixed legs.sent at.own.taken.time at.one.taken.time entry.time)
      near-one =
          let close = mixed-near f.spacing f.drift crossed (read_at me at.own.taken) (read_at peer at.one.taken) (read_at peer at.other.taken) n first entry.time are-mixed in
          subst (λ (e : Stamps). mixed_error f.spacing (weight f.spacing first (estimate2 e) n) at.own.taken.time at.one.taken.time at.other.taken.time
          ≤ mixed_bound f.spacing f.drift (abs_diff (legs.came - legs.sent) (legs.back - legs.turned)) (age_of_mixed legs.sent at.own.taken.time at.one.taken.time entry.time))
          (sym (trace.stamps_are legs honest))
          (subst (λ (l : Legs). mixed_error f.spacing (weight f.spacing first (estimate2 (stamps crossed)) n) at.own.taken.time at.one.taken.time at.other.taken.time
          ≤ mixed_bound f.spacing f.drift (abs_diff (l.came - l.sent) (l.back - l.turned)) (age_of_mixed l.sent at.own.taken.time at.one.taken.time entry.time))
          (sym honest.times) close)

-- an exchange in force whose messages are honest
pub near : (f : Fields) (journal : List Entry) → Stands f journal → EstimatesAreBounded f journal → MixesAreNear f journal
near f journal stands bounded me peer place entry n first crossing legs pair at =
    let trace = bounded me peer place entry crossing pair at.in_force in
    near-one f journal stands me peer place entry n first crossing legs pair at trace ((trace.known legs).0 at.traced)
