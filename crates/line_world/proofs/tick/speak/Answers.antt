use Rattle.std.proofs.Common.{◌≡◌, ◌<◌, ◌∷◌, [], ◌++◌, List, ℕ, length, get_or, map, arith, ap, refl, ◌∙◌, subst}
use Rattle.ld_base.specs.declared.fields.Fields.{Fields}
use Rattle.relay_core.specs.Log.{peers}
use Rattle.waveform_reader.specs.Scenario.{Setup}
use Rattle.line_world.specs.Occasions.Occasion.{departure}
use Rattle.line_world.specs.Occasions.{at_tick}
use Rattle.line_journal.specs.Stations.{stations}
use Rattle.line_world.specs.Passes.{Passes, scene_of}
use Rattle.line_world.specs.Tick.{AreLines, CutShort}
use Rattle.line_world.specs.World.{entry_of, frames_at, slot_with}
use Rattle.line_world.proofs.Passing.{none_passed, on_err}
use Rattle.line_world.proofs.Speaking.{cut_slot, spoken}
use Rattle.line_world.proofs.tick.speak.Goals as goal

pub loop-station-init : goal.loop-station-init
loop-station-init g c = (refl, omega arith, c.requires.lines, none_passed c.args.terminals.now.setup (scene_of g.W.Wire.faults g.W.Wire.script c.args.terminals.now c.args.cables.now))

pub loop-station-preserved : goal.loop-station-preserved
loop-station-preserved g c =
    let known = c.loop-station.invariant in
    let s = c.args.terminals.now.setup in
    let f = c.args.terminals.now.setup.settings in
    let t = c.args.now.now.tick in
    let these = c.deref-station-items.result.now in
    let fields : c.settings.result.now ≡ f = c.settings.ensures.settings ∙ ap (λ (s : Setup). s.settings) c.scenario.ensures.setup in
    let all : these ≡ stations f = c.deref-station-items.ensures.0 ∙ c.stations_of-stations.ensures ∙ ap (λ (f : Fields). stations f) fields in
    let i = c.loop-station.station-index in
    let station = c.station-item.result in
    let inside = subst (λ (all : List ℕ). i < length all) all c.loop-station-test.true in
    let is = c.station-item.is ∙ ap (λ (all : List ℕ). get_or all i station) all in
    let start = scene_of g.W.Wire.faults g.W.Wire.script c.args.terminals.now c.args.cables.now in
    let entry = c.slot-frames.ensures.entry.journal
    ∙ ap (λ (s : Setup). c.loop-station.terminals.journal ++ entry_of s t (slot_with station (frames_at s c.loop-station.terminals.journal t station)) ∷ []) known.0 in
    let same = c.slot-frames.ensures.entry.setup ∙ known.0 in
    let sent = subst (λ (x : Setup). Passes x (at_tick t (map (departure station) (peers x.settings station)))
    (scene_of g.W.Wire.faults g.W.Wire.script c.slot-frames.new.self c.loop-station.cables) (scene_of g.W.Wire.faults g.W.Wire.script c.send.new.terminals c.send.new.cables))
    same c.in_ok-send.ensures.passes in (
      c.send.ensures.setup ∙ same,
      omega (arith, known.1, c.slot-frames.ensures.entry.room, c.in_ok-send.ensures.room),
      subst (λ (x : Setup). AreLines x.settings c.send.new.cables) same c.send.ensures.lines,
      spoken g.W.Wire.faults g.W.Wire.script s t i station (stations f) start c.loop-station.terminals c.slot-frames.new.self c.send.new.terminals c.loop-station.cables c.send.new.cables
          inside is known.3 entry sent,
    )

pub returns-in_err-send-clause-cut : goal.returns-in_err-send-clause-cut
returns-in_err-send-clause-cut g c =
    let known = c.loop-station.invariant in
    let s = c.args.terminals.now.setup in
    let f = c.args.terminals.now.setup.settings in
    let t = c.args.now.now.tick in
    let these = c.deref-station-items.result.now in
    let fields : c.settings.result.now ≡ f = c.settings.ensures.settings ∙ ap (λ (s : Setup). s.settings) c.scenario.ensures.setup in
    let all : these ≡ stations f = c.deref-station-items.ensures.0 ∙ c.stations_of-stations.ensures ∙ ap (λ (f : Fields). stations f) fields in
    let i = c.loop-station.station-index in
    let station = c.station-item.result in
    let inside = subst (λ (all : List ℕ). i < length all) all c.loop-station-test.true in
    let is = c.station-item.is ∙ ap (λ (all : List ℕ). get_or all i station) all in
    let start = scene_of g.W.Wire.faults g.W.Wire.script c.args.terminals.now c.args.cables.now in
    let entry = c.slot-frames.ensures.entry.journal
    ∙ ap (λ (s : Setup). c.loop-station.terminals.journal ++ entry_of s t (slot_with station (frames_at s c.loop-station.terminals.journal t station)) ∷ []) known.0 in
    let same = c.slot-frames.ensures.entry.setup ∙ known.0 in
    let cut = subst (λ (x : Setup). CutShort x (at_tick t (map (departure station) (peers x.settings station)))
    (scene_of g.W.Wire.faults g.W.Wire.script c.slot-frames.new.self c.loop-station.cables) (scene_of g.W.Wire.faults g.W.Wire.script c.send.new.terminals c.send.new.cables))
    same c.in_err-send.ensures.cut in
    on_err c.from_residual.result
    (cut_slot g.W.Wire.faults g.W.Wire.script s t i station (stations f) start c.loop-station.terminals c.slot-frames.new.self c.send.new.terminals c.loop-station.cables c.send.new.cables
    inside is known.3 entry cut)
