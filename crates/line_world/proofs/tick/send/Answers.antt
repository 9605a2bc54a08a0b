use Rattle.std.proofs.Common.{◌≡◌, ◌<◌, ◌∷◌, [], ℕ, List, true, arith, ap, refl, sym, ◌∙◌, subst, get_or, length}
use Rattle.std.specs.Prelude.{◌==◌}
use Rattle.std.specs.List.{flat_map, list_any}
use Rattle.std.proofs.lemmas.Bool.{eqb-false, eqb-true, not-false, not-true}
use Rattle.std.proofs.lemmas.List.{get_or_default, length-map, take_all}
use Rattle.c3794_frame.specs.Numbers.{bits_of}
use Rattle.relay_core.specs.Log.{peers}
use Rattle.waveform_reader.specs.Scenario.{Setup}
use Rattle.line_journal.specs.Stations.{ArePair}
use Rattle.line_world.specs.Occasions.Occasion.{departure}
use Rattle.line_world.specs.Occasions.{Moment, Occasion, at_tick}
use Rattle.line_journal.specs.Stations.{Way, ways}
use Rattle.line_world.specs.Passes.{Passes, scene_of}
use Rattle.line_world.specs.Run.{newest_frame}
use Rattle.line_world.specs.Tick.{way_of}
use Rattle.line_world.proofs.Cabling.{joins_at, lines_kept, sent_all, sent_at}
use Rattle.line_world.proofs.Frames.{cut_here, found_has, has_frame, next_long, sent_next, skipped, skipped_is}
use Rattle.line_world.proofs.Passing.{on_err}
use Rattle.line_world.proofs.Ways.{ways_send}
use Rattle.line_world.proofs.tick.send.Goals as goal

pub loop-cable-preserved-then-ne : goal.loop-cable-preserved-then-ne
loop-cable-preserved-then-ne g c =
    let known = c.loop-cable.invariant in
    let s = c.args.terminals.now.setup in
    let i = c.loop-cable.cable-index in
    let inside : i < length c.loop-cable.cables = omega arith in
    let cable = get_or c.loop-cable.cables i c.cable-item.result in
    let is = get_or_default c.loop-cable.cables i c.cable-item.result cable inside in
    let other = eqb-false cable.from c.args.sender (not-true (cable.from == c.args.sender) (sym c.ne.ensures ∙ c.if-ne.true)) in
    let start = scene_of g.W.Wire.faults g.W.Wire.script c.args.terminals.now c.args.cables.now in
    let as_many = ap (λ (these : List Moment). length these)
    (skipped_is g.W.Wire.faults g.W.Wire.script s c.args.now.now.tick c.args.sender i start c.loop-cable.terminals c.loop-cable.cables cable inside is known.3 known.4 other) in
    let passes = skipped g.W.Wire.faults g.W.Wire.script s c.args.now.now.tick c.args.sender i start
    c.loop-cable.terminals c.loop-cable.cables cable inside is known.3 known.4 other in (
      known.0,
      omega (arith, known.1, as_many),
      known.2,
      lines_kept g.W.Wire.faults g.W.Wire.script s.settings c.loop-cable.cables i cable inside is known.3 cable refl,
      passes,
    )

pub frame_to-requires : goal.frame_to-requires
frame_to-requires g c =
    let known = c.loop-cable.invariant in
    let i = c.loop-cable.cable-index in
    let inside : i < length c.loop-cable.cables = omega arith in
    let cable = get_or c.loop-cable.cables i c.cable-item.result in
    let is = get_or_default c.loop-cable.cables i c.cable-item.result cable inside in
    let f = c.args.terminals.now.setup.settings in
    let own = eqb-true cable.from c.args.sender (not-false (cable.from == c.args.sender) (sym c.ne.ensures ∙ c.if-ne.false)) in
    let line = joins_at g.W.Wire.faults g.W.Wire.script f c.loop-cable.cables i cable inside is known.3 in
    has_frame cable.to c.args.frames.now (peers f c.args.sender) c.requires.peers
    (subst (λ (from : ℕ). list_any (λ peer. peer == cable.to) (peers f from) ≡ true) own line.is_peer)

pub send-requires-clause-two : goal.send-requires-clause-two
send-requires-clause-two g c =
    let known = c.loop-cable.invariant in
    let inside : c.loop-cable.cable-index < length c.loop-cable.cables = omega arith in
    let cable = get_or c.loop-cable.cables c.loop-cable.cable-index c.cable-item.result in
    let is = get_or_default c.loop-cable.cables c.loop-cable.cable-index c.cable-item.result cable inside in
    let line = joins_at g.W.Wire.faults g.W.Wire.script c.args.terminals.now.setup.settings c.loop-cable.cables c.loop-cable.cable-index cable inside is known.3 in
    subst (λ (s : Setup). ArePair s.settings.stations cable.from cable.to) (sym known.0)
    (record { one_there = line.from_there; other_there = line.to_there; differ = line.differ })

pub send-requires-clause-newest : goal.send-requires-clause-newest
send-requires-clause-newest g c =
    let known = c.loop-cable.invariant in
    let f = c.args.terminals.now.setup.settings in
    let cable = get_or c.loop-cable.cables c.loop-cable.cable-index c.cable-item.result in
    let own = eqb-true cable.from c.args.sender (not-false (cable.from == c.args.sender) (sym c.ne.ensures ∙ c.if-ne.false)) in
    ap (λ (x : Setup). newest_frame x.settings cable.from cable.to c.loop-cable.terminals.journal) known.0
    ∙ known.2 f cable.from cable.to
    ∙ ap (λ (from : ℕ). newest_frame f from cable.to c.args.terminals.now.journal) own
    ∙ found_has (λ to bytes. newest_frame f c.args.sender to c.args.terminals.now.journal ≡ bits_of bytes) cable.to c.args.frames.now c.frame_to.result.now c.requires.frames c.frame_to.ensures

pub returns-in_err-send-clause-lines : goal.returns-in_err-send-clause-lines
returns-in_err-send-clause-lines g c =
    let known = c.loop-cable.invariant in
    let i = c.loop-cable.cable-index in
    let inside : i < length c.loop-cable.cables = omega arith in
    let cable = get_or c.loop-cable.cables i c.cable-item.result in
    let is = get_or_default c.loop-cable.cables i c.cable-item.result cable inside in
    lines_kept g.W.Wire.faults g.W.Wire.script c.args.terminals.now.setup.settings c.loop-cable.cables i cable inside is known.3 c.send.new.self c.send.ensures.line

pub loop-cable-preserved : goal.loop-cable-preserved
loop-cable-preserved g c =
    let known = c.loop-cable.invariant in
    let s = c.args.terminals.now.setup in
    let i = c.loop-cable.cable-index in
    let t = c.args.now.now.tick in
    let inside : i < length c.loop-cable.cables = omega arith in
    let cable = get_or c.loop-cable.cables i c.cable-item.result in
    let is = get_or_default c.loop-cable.cables i c.cable-item.result cable inside in
    let own = eqb-true cable.from c.args.sender (not-false (cable.from == c.args.sender) (sym c.ne.ensures ∙ c.if-ne.false)) in
    let start = scene_of g.W.Wire.faults g.W.Wire.script c.args.terminals.now c.args.cables.now in
    let sent = subst (λ (x : Setup). Passes x (record { time = t; occasion = departure cable.from cable.to } ∷ [])
    (scene_of g.W.Wire.faults g.W.Wire.script c.loop-cable.terminals (cable ∷ []))
    (scene_of g.W.Wire.faults g.W.Wire.script c.send.new.terminals (c.send.new.self ∷ []))) known.0 c.in_ok-send.ensures.passes in
    let long = next_long g.W.Wire.faults g.W.Wire.script s t c.args.sender i start c.loop-cable.terminals c.loop-cable.cables cable inside is known.3 known.4 own
    (omega arith) (omega arith) (omega arith) in (
      c.send.ensures.setup ∙ known.0,
      omega (arith, known.1, c.send.ensures.room, long),
      λ f from to. c.send.ensures.frames f from to ∙ known.2 f from to,
      lines_kept g.W.Wire.faults g.W.Wire.script s.settings c.loop-cable.cables i cable inside is known.3 c.send.new.self c.send.ensures.line,
      sent_next g.W.Wire.faults g.W.Wire.script s t c.args.sender i start c.loop-cable.terminals c.loop-cable.cables cable inside is known.3 known.4 own
          c.send.new.terminals c.send.new.self sent,
    )

pub returns-in_err-send-clause-cut : goal.returns-in_err-send-clause-cut
returns-in_err-send-clause-cut g c =
    let known = c.loop-cable.invariant in
    let s = c.args.terminals.now.setup in
    let i = c.loop-cable.cable-index in
    let t = c.args.now.now.tick in
    let inside : i < length c.loop-cable.cables = omega arith in
    let cable = get_or c.loop-cable.cables i c.cable-item.result in
    let is = get_or_default c.loop-cable.cables i c.cable-item.result cable inside in
    let own = eqb-true cable.from c.args.sender (not-false (cable.from == c.args.sender) (sym c.ne.ensures ∙ c.if-ne.false)) in
    let start = scene_of g.W.Wire.faults g.W.Wire.script c.args.terminals.now c.args.cables.now in
    let unsent = subst (λ (x : Setup). Passes x [] (scene_of g.W.Wire.faults g.W.Wire.script c.loop-cable.terminals (cable ∷ []))
    (scene_of g.W.Wire.faults g.W.Wire.script c.send.new.terminals (c.send.new.self ∷ []))) known.0 c.in_err-send.ensures.passes in
    on_err c.from_residual.result
    (cut_here g.W.Wire.faults g.W.Wire.script s t c.args.sender i start c.loop-cable.terminals c.loop-cable.cables cable inside is known.3 known.4 own
    (omega arith) (omega arith) (omega arith) c.send.new.terminals c.send.new.self unsent)

pub returns-clause-passes : goal.returns-clause-passes
returns-clause-passes g c =
    let known = c.loop-cable.invariant in
    let s = c.args.terminals.now.setup in
    let t = c.args.now.now.tick in
    let long = length-map c.loop-cable.cables way_of in
    let lines = ap (λ (all : List Way). length all) known.3 in
    let whole = take_all c.loop-cable.cable-index (ways s.settings) (omega (arith, long, lines)) in
    subst (λ (these : List Moment). Passes s these (scene_of g.W.Wire.faults g.W.Wire.script c.args.terminals.now c.args.cables.now)
    (scene_of g.W.Wire.faults g.W.Wire.script c.loop-cable.terminals c.loop-cable.cables))
    (ap (λ (all : List Way). flat_map (sent_at t c.args.sender) all) whole ∙ sent_all t c.args.sender (ways s.settings)
    ∙ ap (λ (these : List Occasion). at_tick t these) (ways_send s.settings c.args.sender (omega arith) (omega arith) (omega arith))) known.4
