-- The sets that are judged: the own value of each is a young sample, and those of the peers were placed by exchanges in force.
use Rattle.std.specs.Prelude.{Contains}
use Rattle.std.specs.List.{flat_map}
use Rattle.std.proofs.Common.{◌≡◌, ℕ, suc, ◌+◌, ◌*◌, ◌<◌, ◌≤◌, List, [], ◌∷◌, ◌++◌, Some, take, refl, ap, sym, subst, ◌∙◌, append-nil, arith}
use Rattle.ld_base.specs.declared.fields.Fields.{Fields}
use Rattle.ld_base.specs.declared.phases.SampleSet.{SampleSet}
use Rattle.offset_track.specs.InForce.{kept}
use Rattle.pingpong.specs.Exchange.{Stamps, estimate2}
use Rattle.pingpong.specs.Journal.{read_at}
use Rattle.pingpong.specs.declared.journal.Entry.{Entry}
use Rattle.pingpong.proofs.Journals.{Follows-in}
use Rattle.sample_store.specs.Aligned.{Aligned}
use Rattle.relay_core.specs.Accepted.{InForceWith}
use Rattle.relay_core.specs.Decided.{JudgedSets, accepted_by}
use Rattle.relay_core.specs.Log.{now}
use Rattle.relay_core.specs.declared.call.Call.{Call}
use Rattle.relay_core.specs.declared.receipt.Receipt.{Receipt}
use Rattle.waveform_reader.specs.Sound.{IsStation}
use Rattle.line_journal.specs.Crossings.{Crossings}
use Rattle.line_journal.specs.Stations.{ArePair}
use Rattle.line_journal.specs.Report.{crossing_in_force}
use Rattle.relay_core.specs.StationLog.{StationLog, stamp_at}
use Rattle.line_journal.specs.declared.crossing.Crossing.{Crossing}
use Rattle.line_journal.proofs.InForces.{crossing-found}
use Rattle.true_time.specs.Places.{IsAt, PlacedIn, TakenIn, WasAccepted, WasJudged, part_of}
use Rattle.true_time.specs.Values.{IsAlignedSet, IsAlignedValue, IsOwnSample, SetsAreAligned}
use Rattle.true_time.proofs.Ages.{youth}
use Rattle.true_time.proofs.Brought.{IsJudgedWith, judged-with, placed-with}
use Rattle.true_time.proofs.Places.{IsHanded, now-at}
use Rattle.true_time.proofs.Premises.{Stands, of-three}
use Rattle.true_time.proofs.Sampled.{came-placed, came-taken, log-at, sample-at, with-call}

-- what is in force is the exchange of a crossing
crossing-of : (f : Fields) (me peer : ℕ) (journal : List Entry) (exchange : Stamps) → InForceWith f me peer (StationLog me journal) ≡ Some exchange
    → (crossing : Crossing) × (crossing_in_force f me peer journal ≡ Some crossing) × (crossing.exchange ≡ exchange)
crossing-of f me peer journal exchange is =
    (_, crossing-found f me peer journal (kept (λ crossing. crossing.exchange) f.slow (Crossings f me peer journal)) (Some exchange) refl (sym is), refl)

-- a message that is accepted with the call of an entry
accepted-with : (f : Fields) (me peer : ℕ) (journal : List Entry) (place : ℕ) (entry : Entry) (call : Call) (r : Receipt) → IsAt journal place entry → IsHanded me entry call
    → Contains (accepted_by f me peer (StationLog me (take place journal)) call) r → WasAccepted f me peer journal place entry r
accepted-with f me peer journal place entry call r is_at handed has = record {
  is_at = is_at;
  accepted = subst (λ calls. Contains (flat_map (accepted_by f me peer (StationLog me (take place journal))) calls) r) (sym handed.calls)
      (subst (λ rs. Contains rs r) (sym (append-nil (accepted_by f me peer (StationLog me (take place journal)) call))) has);
}

module _ (f : Fields) (journal : List Entry) (stands : Stands f journal) (me place : ℕ) (entry : Entry) (set : SampleSet)
    (there : IsStation f.stations me) (was : WasJudged f me journal place entry set) where
  -- what is known of the set by the log, with its last call
  abbrev IsKnown : Type 0
  IsKnown = (call : Call) × IsHanded me entry call × IsJudgedWith f me (StationLog me (take place journal)) call set

  known : IsKnown
  known =
      let (call, is, brought) = with-call (JudgedSets f me) me (take place journal) entry set was.judged in
      (call, is, judged-with f me (StationLog me (take place journal)) call set stands.stations.1 there brought)

  own-of : IsKnown → IsOwnSample f me journal place entry set
  own-of (call, is, judged) =
      let log = StationLog me (take place journal) in
      let (taken_at, taken, early, sample) = came-taken f me journal (suc place) (part_of set me)
      (subst (λ calls. Contains (TakenIn f me calls) (part_of set me)) (sym (log-at me journal place entry call was.is_at is)) judged.own) in
      let by_then : taken_at ≤ place = omega (arith, early) in
      let time : now (log ++ call ∷ []) ≡ stamp_at me entry =
      now-at f.drift journal (omega (arith, stands.drift)) stands.in_turn me place entry call (of-three f journal me stands there) was.is_at is in
      let three = of-three f journal me stands there in
      let clock = (Follows-in f.drift journal taken_at place taken entry stands.in_turn by_then sample.is_at was.is_at).clocks me three.0 three.1 in
      let on_grid = sample-at f journal stands me taken_at taken (part_of set me) there sample in
      record {
        taken_at = taken_at;
        taken = taken;
        by_then = by_then;
        sample = sample;
        young = youth f.drift f.limit (set.number * f.spacing) (read_at me taken) (read_at me entry) (omega (arith, stands.drift)) clock on_grid.since
            (subst (λ t. t < set.number * f.spacing + f.limit) time judged.young);
      }

  value-of : IsKnown → (peer : ℕ) → ArePair f.stations me peer → IsAlignedValue f me peer journal place set
  value-of (call, is, judged) peer pair =
      let (came_at, came, early, placed) = came-placed f me peer journal (suc place) (part_of set peer)
      (subst (λ calls. Contains (PlacedIn f me peer calls) (part_of set peer)) (sym (log-at me journal place entry call was.is_at is)) (judged.peers peer pair)) in
      let log = StationLog me (take came_at journal) in
      let (last, handed, brought) = with-call (PlacedIn f me peer) me (take came_at journal) came (part_of set peer) placed.placed in
      let with = placed-with f me peer log last (part_of set peer) brought in
      let in_force : InForceWith f me peer (StationLog me (take (suc came_at) journal)) ≡ Some with.exchange =
      ap (InForceWith f me peer) (log-at me journal came_at came last placed.is_at handed) ∙ with.in_force in
      let (crossing, found, exchange) = crossing-of f me peer (take (suc came_at) journal) with.exchange in_force in
      record {
        came_at = came_at;
        came = came;
        receipt = with.receipt;
        crossing = crossing;
        by_then = omega (arith, early);
        accepted = accepted-with f me peer journal came_at came last with.receipt placed.is_at handed with.accepted;
        in_force = record { is_at = placed.is_at; in_force = found };
        aligned = ap (λ (e : Stamps). Aligned f.spacing with.receipt.message.number (estimate2 e)) exchange ∙ with.aligned;
        placed = placed;
        values = with.values;
      }

  pub set-aligned : IsAlignedSet f me journal place entry set
  set-aligned = record { own = own-of known; peers = value-of known }

-- every judged set
pub sets-aligned : (f : Fields) (journal : List Entry) → Stands f journal → SetsAreAligned f journal
sets-aligned f journal stands me place entry set there was = set-aligned f journal stands me place entry set there was
