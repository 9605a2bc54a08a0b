use Rattle.std.proofs.Common.{◌∷◌, [], List, arith, ap, sym, ◌∙◌, ◌<◌, subst, get_or, length, set, take}
use Rattle.std.specs.List.{flat_map}
use Rattle.std.proofs.lemmas.List.{get_or_default, length-map, take_all}
use Rattle.waveform_reader.specs.Scenario.{Setup}
use Rattle.line_journal.specs.Stations.{ArePair}
use Rattle.line_world.specs.Occasions.{Moment}
use Rattle.line_journal.specs.Stations.{Way, ways}
use Rattle.line_world.specs.Passes.{Passes, scene_of}
use Rattle.line_world.specs.Tick.{way_of}
use Rattle.line_world.proofs.Cabling.{arrival_at, asked_all, asked_at, joins_at, lines_kept, with_next}
use Rattle.line_world.proofs.Passing.{joined}
use Rattle.line_world.proofs.tick.receive.Goals as goal

pub receive-requires-clause-two : goal.receive-requires-clause-two
receive-requires-clause-two g c =
    let known = c.loop-cable.invariant in
    let inside : c.loop-cable.cable-index < length c.loop-cable.cables = omega arith in
    let cable = get_or c.loop-cable.cables c.loop-cable.cable-index c.cable-item.result in
    let is = get_or_default c.loop-cable.cables c.loop-cable.cable-index c.cable-item.result cable inside in
    let line = joins_at g.W.Wire.faults g.W.Wire.script c.args.terminals.now.setup.settings c.loop-cable.cables c.loop-cable.cable-index cable inside is known.2 in
    subst (λ (s : Setup). ArePair s.settings.stations cable.to cable.from) (sym known.0)
    (record { one_there = line.to_there; other_there = line.from_there; differ = λ same. line.differ (sym same) })

pub loop-cable-preserved : goal.loop-cable-preserved
loop-cable-preserved g c =
    let known = c.loop-cable.invariant in
    let s = c.args.terminals.now.setup in
    let i = c.loop-cable.cable-index in
    let t = c.args.now.now.tick in
    let inside : i < length c.loop-cable.cables = omega arith in
    let cable = get_or c.loop-cable.cables i c.cable-item.result in
    let is = get_or_default c.loop-cable.cables i c.cable-item.result cable inside in
    let old = scene_of g.W.Wire.faults g.W.Wire.script c.args.terminals.now c.args.cables.now in
    let before = scene_of g.W.Wire.faults g.W.Wire.script c.loop-cable.terminals c.loop-cable.cables in
    let after = scene_of g.W.Wire.faults g.W.Wire.script c.receive.new.terminals (set c.loop-cable.cables i c.receive.new.self) in
    let passes = arrival_at g.W.Wire.faults g.W.Wire.script s.settings c.loop-cable.cables i cable inside is known.2 s t
    c.loop-cable.terminals c.receive.new.terminals c.receive.new.self
    (subst (λ (x : Setup). Passes x (asked_at t (way_of cable)) (scene_of g.W.Wire.faults g.W.Wire.script c.loop-cable.terminals (cable ∷ []))
    (scene_of g.W.Wire.faults g.W.Wire.script c.receive.new.terminals (c.receive.new.self ∷ []))) known.0 c.receive.ensures.passes) in (
      c.receive.ensures.setup ∙ known.0,
      omega (arith, known.1, c.receive.ensures.room),
      lines_kept g.W.Wire.faults g.W.Wire.script s.settings c.loop-cable.cables i cable inside is known.2 c.receive.new.self c.receive.ensures.line,
      subst (λ (these : List Moment). Passes s these old after)
          (sym (with_next g.W.Wire.faults g.W.Wire.script s.settings c.loop-cable.cables i cable inside is known.2 (asked_at t)))
          (joined s (flat_map (asked_at t) (take i (ways s.settings))) (asked_at t (way_of cable)) old before after known.3 passes),
    )

pub returns-clause-passes : goal.returns-clause-passes
returns-clause-passes g c =
    let known = c.loop-cable.invariant in
    let s = c.args.terminals.now.setup in
    let t = c.args.now.now.tick in
    let long = length-map c.loop-cable.cables way_of in
    let lines = ap (λ (all : List Way). length all) known.2 in
    let whole = take_all c.loop-cable.cable-index (ways s.settings) (omega (arith, long, lines)) in
    subst (λ (these : List Moment). Passes s these (scene_of g.W.Wire.faults g.W.Wire.script c.args.terminals.now c.args.cables.now)
    (scene_of g.W.Wire.faults g.W.Wire.script c.loop-cable.terminals c.loop-cable.cables))
    (ap (λ (all : List Way). flat_map (asked_at t) all) whole ∙ asked_all t (ways s.settings)) known.3
