-- The sets that are judged in an honest journal: each peer's value is a sample that it took, at nearly the time of the own one.
use Rattle.std.specs.Int.{abs_diff}
use Rattle.std.proofs.Common.{ℕ, ◌+◌, ◌*◌, ◌<◌, ◌≤◌, pos, List, sym, subst, arith}
use Rattle.ld_base.specs.declared.fields.Fields.{Fields}
use Rattle.ld_base.specs.declared.phases.SampleSet.{SampleSet}
use Rattle.pingpong.specs.Bounded.{IsInOrder, Passage}
use Rattle.pingpong.specs.Exchange.{estimate2}
use Rattle.pingpong.specs.Journal.{passage, read_at}
use Rattle.pingpong.specs.Reading.{SameClock}
use Rattle.pingpong.specs.declared.journal.Entry.{Entry}
use Rattle.pingpong.proofs.Journals.{Follows-in, SameClock-in}
use Rattle.sample_store.specs.Aligned.{IsAligned}
use Rattle.sample_store.specs.Instants.{AreAligned, AreNear}
use Rattle.sample_store.proofs.Alone.{IsAligned-Aligned}
use Rattle.sample_store.proofs.Instances.{AreNear-aligned}
use Rattle.relay_core.specs.declared.receipt.Receipt.{Receipt}
use Rattle.line_journal.specs.Stations.{ArePair}
use Rattle.line_journal.specs.declared.crossing.Legs.{Legs}
use Rattle.true_time.specs.Estimates.{AreHonest, EstimatesAreBounded, IsTraced}
use Rattle.true_time.specs.Places.{Began, IsAt, WasAccepted, WasTaken, part_of, value_of}
use Rattle.true_time.specs.TrueTime.{AllAreTraced}
use Rattle.true_time.specs.Values.{IsAlignedSet, IsAlignedValue, IsOwnSample, IsPeersSample, IsTrueSet, IsTrueValue, SetsAreTrue, apart_by, nearness}
use Rattle.true_time.proofs.Ages.{triangle}
use Rattle.true_time.proofs.Premises.{Stands, of-three}
use Rattle.true_time.proofs.Sampled.{sample-at, told-sample}
use Rattle.true_time.proofs.Sets.{set-aligned}

-- each accepted message began before, with the same fields
abbrev pub AreSent : Fields → List Entry → Type 0
AreSent f journal =
    (me peer place : ℕ) (entry : Entry) (r : Receipt) → ArePair f.stations me peer → WasAccepted f me peer journal place entry r
    → (turned_at : ℕ) × (turned : Entry) × (turned_at < place) × Began f peer me journal turned_at turned r.message

module _ (f : Fields) (journal : List Entry) (stands : Stands f journal) (me peer place : ℕ) (entry : Entry) (set : SampleSet)
    (pair : ArePair f.stations me peer) (is_at : IsAt journal place entry) where
  order : (i j : ℕ) (one other : Entry) → i ≤ j → IsAt journal i one → IsAt journal j other → one.time ≤ other.time
  order i j one other less is_one is_other = (Follows-in f.drift journal i j one other stands.in_turn less is_one is_other).order

  own-clock : (i j : ℕ) (one other : Entry) → IsAt journal i one → IsAt journal j other → SameClock f.drift (read_at me one) (read_at me other)
  own-clock i j one other is_one is_other = SameClock-in f.drift journal i j one other stands.in_turn is_one is_other me (of-three f journal me stands pair.one_there)

  peers-clock : (i j : ℕ) (one other : Entry) → IsAt journal i one → IsAt journal j other → SameClock f.drift (read_at peer one) (read_at peer other)
  peers-clock i j one other is_one is_other = SameClock-in f.drift journal i j one other stands.in_turn is_one is_other peer (of-three f journal peer stands pair.other_there)

  -- the exchange in force, whose messages are honest, aligns the two samples
  module _ (own : IsOwnSample f me journal place entry set) (value : IsAlignedValue f me peer journal place set) (sample : IsPeersSample f me peer journal place set value)
      (trace : IsTraced f me peer journal value.came_at value.came value.crossing) (legs : Legs)
      (honest : AreHonest f me peer journal trace.from.back_at trace.from.back trace.from.second legs) where
    abbrev crossed : Passage
    crossed = passage me peer honest.sent honest.came honest.turned trace.from.back

    in-order : IsInOrder crossed entry.time
    in-order = record {
      there = order honest.sent_at honest.came_at honest.sent honest.came (omega (arith, honest.there)) honest.first_began.is_at honest.first_came.is_at;
      held = order honest.came_at honest.turned_at honest.came honest.turned (omega (arith, honest.held)) honest.first_came.is_at honest.second_began.is_at;
      home = order honest.turned_at trace.from.back_at honest.turned trace.from.back (omega (arith, honest.home)) honest.second_began.is_at trace.from.accepted.is_at;
      over = order trace.from.back_at place trace.from.back entry (omega (arith, trace.from.by_then, value.by_then)) trace.from.accepted.is_at is_at;
    }

    are-aligned : AreAligned f.spacing f.drift crossed (read_at me own.taken) (read_at peer sample.taken) set.number value.receipt.message.number entry.time
    are-aligned = record {
      order = in-order;
      own_by_now = order own.taken_at place own.taken entry own.by_then own.sample.is_at is_at;
      peer_by_now = order sample.taken_at place sample.taken entry (omega (arith, sample.by_then, value.by_then)) sample.sample.is_at is_at;
      own_sent = own-clock honest.sent_at own.taken_at honest.sent own.taken honest.first_began.is_at own.sample.is_at;
      own_back = own-clock trace.from.back_at own.taken_at trace.from.back own.taken trace.from.accepted.is_at own.sample.is_at;
      peer_came = peers-clock honest.came_at sample.taken_at honest.came sample.taken honest.first_came.is_at sample.sample.is_at;
      peer_turned = peers-clock honest.turned_at sample.taken_at honest.turned sample.taken honest.second_began.is_at sample.sample.is_at;
      own_sample = sample-at f journal stands me own.taken_at own.taken (part_of set me) pair.one_there own.sample;
      peer_sample = sample-at f journal stands peer sample.taken_at sample.taken (record { number = value.receipt.message.number; values = value_of set peer }) pair.other_there sample.sample;
      aligned = subst (λ e. IsAligned f.spacing value.receipt.message.number (estimate2 e) (pos set.number)) (trace.stamps_are legs honest)
          (subst (λ z. IsAligned f.spacing value.receipt.message.number (estimate2 value.crossing.exchange) z) value.aligned
          (IsAligned-Aligned f.spacing value.receipt.message.number (estimate2 value.crossing.exchange) (omega (arith, stands.spacing.0))));
    }

    -- so they were taken at nearly one time
    near-one : 2 * 1000000 * abs_diff own.taken.time sample.taken.time ≤ apart_by f legs own.taken.time sample.taken.time entry.time
    near-one =
        let near : AreNear f.spacing f.drift crossed (read_at me own.taken) (read_at peer sample.taken) entry.time =
        AreNear-aligned f.spacing f.drift crossed (read_at me own.taken) (read_at peer sample.taken) set.number value.receipt.message.number entry.time are-aligned in
        subst (λ l. 2 * 1000000 * abs_diff own.taken.time sample.taken.time ≤ apart_by f l own.taken.time sample.taken.time entry.time) (sym honest.times) near

-- the sample that a peer told of in the placed message
told : (f : Fields) (journal : List Entry) → AreSent f journal → (me peer place : ℕ) (set : SampleSet) → ArePair f.stations me peer
    → (value : IsAlignedValue f me peer journal place set) → IsPeersSample f me peer journal place set value
told f journal sent me peer place set pair value =
    let (turned_at, turned, before, began) = sent me peer value.came_at value.came value.receipt pair value.accepted in
    let (taken_at, taken, earlier, was) = told-sample f peer me journal turned_at turned value.receipt.message began in
    record {
      taken_at = taken_at;
      taken = taken;
      by_then = omega (arith, before, earlier);
      sample = subst (λ v. WasTaken f peer journal taken_at taken (record { number = value.receipt.message.number; values = v })) value.values was;
    }

module _ (f : Fields) (journal : List Entry) (stands : Stands f journal) (bounded : EstimatesAreBounded f journal) (traced : AllAreTraced f journal) (sent : AreSent f journal) where
  value-true : (me peer place : ℕ) (entry : Entry) (set : SampleSet) (own : IsOwnSample f me journal place entry set) → ArePair f.stations me peer → IsAt journal place entry
      → IsAlignedValue f me peer journal place set → IsTrueValue f me peer journal place entry set own
  value-true me peer place entry set own pair is_at value =
      let sample = told f journal sent me peer place set pair value in
      let (legs, known) = traced me peer value.came_at value.came value.crossing pair value.in_force in
      let trace = bounded me peer value.came_at value.came value.crossing pair value.in_force in
      record {
        value = value;
        sample = sample;
        legs = legs;
        traced = known;
        near = near-one f journal stands me peer place entry set pair is_at own value sample trace legs ((trace.known legs).0 known);
      }

  set-true : (me place : ℕ) (entry : Entry) (set : SampleSet) → IsAt journal place entry → IsAlignedSet f me journal place entry set → IsTrueSet f me journal place entry set
  set-true me place entry set is_at aligned = record { own = aligned.own; peers = peers; near = near }
    where
      peers : (peer : ℕ) → ArePair f.stations me peer → IsTrueValue f me peer journal place entry set aligned.own
      peers peer pair = value-true me peer place entry set aligned.own pair is_at (aligned.peers peer pair)

      near : (one other : ℕ) (is_one : ArePair f.stations me one) (is_other : ArePair f.stations me other)
          → 2 * 1000000 * abs_diff (peers one is_one).sample.taken.time (peers other is_other).sample.taken.time ≤ nearness (peers one is_one) + nearness (peers other is_other)
      near one other is_one is_other =
          triangle aligned.own.taken.time (peers one is_one).sample.taken.time (peers other is_other).sample.taken.time
          (nearness (peers one is_one)) (nearness (peers other is_other)) (peers one is_one).near (peers other is_other).near

  -- every judged set
  pub sets-true : SetsAreTrue f journal
  sets-true me place entry set there was = set-true me place entry set was.is_at (set-aligned f journal stands me place entry set there was)
