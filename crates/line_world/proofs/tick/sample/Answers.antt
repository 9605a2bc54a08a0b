use Rattle.std.proofs.Common.{◌≡◌, ◌+◌, ◌-◌, ◌<◌, ◌≤◌, ◌∷◌, ◌++◌, [], List, ℕ, suc, length, slice_index, map, set, take, arith, ap, sym, ◌∙◌, subst}
use Rattle.ld_base.specs.declared.fields.Fields.{Fields}
use Rattle.waveform_reader.specs.Scenario.{Setup}
use Rattle.line_world.specs.Occasions.Occasion.{sampling}
use Rattle.line_world.specs.Occasions.{Moment, at_tick}
use Rattle.line_journal.specs.Stations.{stations}
use Rattle.line_world.specs.Tick.{IsNextSample}
use Rattle.line_world.specs.World.{Leads}
use Rattle.line_world.proofs.Passing.{led}
use Rattle.line_world.proofs.SampleTicks.{next_done, next_left, samplings_more, station_at}
use Rattle.line_world.proofs.Stationing.{stations-count}
use Rattle.line_world.proofs.tick.sample.Goals as goal

pub sample_one-requires-clause-next : goal.sample_one-requires-clause-next
sample_one-requires-clause-next c =
    let known = c.loop-station.invariant in
    let f = c.args.terminals.now.setup.settings in
    let t = c.args.now.now.tick in
    let samples = c.loop-station.samples in
    let these = c.deref-station-items.result.now in
    let fields : c.settings.result.now ≡ f = c.settings.ensures.settings ∙ ap (λ (s : Setup). s.settings) c.scenario.ensures.setup in
    let all : these ≡ stations f = c.deref-station-items.ensures.0 ∙ c.stations_of-stations.ensures ∙ ap (λ (f : Fields). stations f) fields in
    let sound = c.scenario.ensures.kept.settings in
    let i = c.loop-station.station-index in
    let station = station_at f these i c.station-item.result sound all c.loop-station-test.true c.station-item.is in
    let place : c.from-place.result - 1 ≡ i = omega (arith, station, c.get.ensures.number, c.from-place.ensures) in
    let count = stations-count f sound in
    let as_many = ap (λ (all : List ℕ). length all) all in
    let next = known.3 i (omega arith) (omega (arith, count, as_many)) in
    subst (λ (s : Setup). IsNextSample s c.station-item.result t (slice_index samples (c.from-place.result - 1))) (sym known.0)
    (subst (λ (at : ℕ). IsNextSample c.args.terminals.now.setup c.station-item.result t (slice_index samples at)) (sym place)
    (subst (λ (x : ℕ). IsNextSample c.args.terminals.now.setup x t (slice_index samples i)) (sym station) next))

pub loop-station-preserved : goal.loop-station-preserved
loop-station-preserved c =
    let known = c.loop-station.invariant in
    let s = c.args.terminals.now.setup in
    let f = c.args.terminals.now.setup.settings in
    let t = c.args.now.now.tick in
    let these = c.deref-station-items.result.now in
    let fields : c.settings.result.now ≡ f = c.settings.ensures.settings ∙ ap (λ (s : Setup). s.settings) c.scenario.ensures.setup in
    let all : these ≡ stations f = c.deref-station-items.ensures.0 ∙ c.stations_of-stations.ensures ∙ ap (λ (f : Fields). stations f) fields in
    let sound = c.scenario.ensures.kept.settings in
    let i = c.loop-station.station-index in
    let station = station_at f these i c.station-item.result sound all c.loop-station-test.true c.station-item.is in
    let place : c.from-place.result - 1 ≡ i = omega (arith, station, c.get.ensures.number, c.from-place.ensures) in
    let samples = c.loop-station.samples in
    let next = c.sample_one.result in
    let inside : i < length samples = omega arith in
    let old = c.args.terminals.now.journal in
    let taken = subst (λ (x : ℕ). IsNextSample s x (suc t) next) station (subst (λ (s : Setup). IsNextSample s c.station-item.result (suc t) next) known.0 c.sample_one.ensures.next) in
    let leads = subst (λ (s : Setup). Leads s (at_tick t (sampling c.station-item.result ∷ [])) c.loop-station.terminals.journal c.sample_one.new.terminals.journal) known.0 c.sample_one.ensures.leads in
    let joined = led s (at_tick t (map sampling (take i (stations f)))) (at_tick t (sampling c.station-item.result ∷ [])) old c.loop-station.terminals.journal c.sample_one.new.terminals.journal
    known.4 leads in
    let more = ap (λ (these : List ℕ). at_tick t (map sampling (take (i + 1) these))) (sym all)
    ∙ samplings_more t i these c.station-item.result c.loop-station-test.true c.station-item.is
    ∙ ap (λ (these : List ℕ). at_tick t (map sampling (take i these)) ++ at_tick t (sampling c.station-item.result ∷ [])) all in (
      c.sample_one.ensures.setup ∙ known.0,
      omega (arith, known.1, c.sample_one.ensures.room),
      subst (λ (at : ℕ). (k : ℕ) → k < i + 1 → suc k ≤ f.stations → IsNextSample s (suc k) (suc t) (slice_index (set samples at next) k)) (sym place)
          (next_done s t i f.stations next samples inside known.2 taken),
      subst (λ (at : ℕ). (k : ℕ) → i + 1 ≤ k → suc k ≤ f.stations → IsNextSample s (suc k) t (slice_index (set samples at next) k)) (sym place)
          (next_left s t i f.stations next samples inside known.3),
      subst (λ (these : List Moment). Leads s these old c.sample_one.new.terminals.journal) (sym more) joined,
    )

pub returns-clause-next : goal.returns-clause-next
returns-clause-next c =
    let known = c.loop-station.invariant in
    let f = c.args.terminals.now.setup.settings in
    let these = c.deref-station-items.result.now in
    let fields : c.settings.result.now ≡ f = c.settings.ensures.settings ∙ ap (λ (s : Setup). s.settings) c.scenario.ensures.setup in
    let all : these ≡ stations f = c.deref-station-items.ensures.0 ∙ c.stations_of-stations.ensures ∙ ap (λ (f : Fields). stations f) fields in
    let sound = c.scenario.ensures.kept.settings in
    let count = stations-count f sound in
    let as_many = ap (λ (all : List ℕ). length all) all in
    λ k there. known.2 k (omega (arith, count, as_many)) there
