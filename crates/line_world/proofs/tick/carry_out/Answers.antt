use Rattle.std.proofs.Common.{◌++◌, List, sym, ◌∙◌, subst, true, false}
use Rattle.std.specs.Prelude.{◌%◌}
use Rattle.std.proofs.lemmas.Bool.{eq-eqb, ne_eqb}
use Rattle.std.proofs.lemmas.List.{append-nil}
use Rattle.waveform_reader.specs.Scenario.{Setup}
use Rattle.line_world.specs.Occasions.{Moment, arrivals, at_tick, moments_at, samplings}
use Rattle.line_journal.specs.Stations.{stations}
use Rattle.line_world.specs.Passes.{Passes, scene_of}
use Rattle.line_world.specs.World.{Leads}
use Rattle.line_world.proofs.Passing.{joined}
use Rattle.line_world.proofs.Speaking.{all_sampled, slots_cut, slots_pass, tick_is}
use Rattle.line_world.proofs.tick.carry_out.Goals as goal

pub returns-then-now-ne0-clause-passes : goal.returns-then-now-ne0-clause-passes
returns-then-now-ne0-clause-passes g c =
    let s = c.args.terminals.now.setup in
    let f = c.args.terminals.now.setup.settings in
    let t = c.args.now.now.tick in
    let start = scene_of g.W.Wire.faults g.W.Wire.script c.args.terminals.now c.args.cables.now in
    let asked = scene_of g.W.Wire.faults g.W.Wire.script c.receive.new.terminals c.receive.new.cables in
    let taken = scene_of g.W.Wire.faults g.W.Wire.script c.sample.new.terminals c.receive.new.cables in
    let leads = subst (λ (x : Setup). Leads x (at_tick t (samplings x.settings)) c.receive.new.terminals.journal c.sample.new.terminals.journal) c.receive.ensures.setup c.sample.ensures.leads in
    let before = joined s (at_tick t (arrivals f)) (at_tick t (samplings f)) start asked taken c.receive.ensures.passes
    (all_sampled s t (stations f) leads.events c.receive.new.terminals.journal c.sample.new.terminals.journal asked.wires leads.moments leads.journal) in
    let none = tick_is f t false (ne_eqb (t % 125) 0 c.if-now-ne0.true) in
    subst (λ (all : List Moment). Passes s all start taken) (sym (none ∙ append-nil (at_tick t (arrivals f) ++ at_tick t (samplings f)))) before

pub returns-clause-passes : goal.returns-clause-passes
returns-clause-passes g c =
    let s = c.args.terminals.now.setup in
    let f = c.args.terminals.now.setup.settings in
    let t = c.args.now.now.tick in
    let start = scene_of g.W.Wire.faults g.W.Wire.script c.args.terminals.now c.args.cables.now in
    let asked = scene_of g.W.Wire.faults g.W.Wire.script c.receive.new.terminals c.receive.new.cables in
    let taken = scene_of g.W.Wire.faults g.W.Wire.script c.sample.new.terminals c.receive.new.cables in
    let leads = subst (λ (x : Setup). Leads x (at_tick t (samplings x.settings)) c.receive.new.terminals.journal c.sample.new.terminals.journal) c.receive.ensures.setup c.sample.ensures.leads in
    let before = joined s (at_tick t (arrivals f)) (at_tick t (samplings f)) start asked taken c.receive.ensures.passes
    (all_sampled s t (stations f) leads.events c.receive.new.terminals.journal c.sample.new.terminals.journal asked.wires leads.moments leads.journal) in
    let new = scene_of g.W.Wire.faults g.W.Wire.script c.speak.new.terminals c.speak.new.cables in
    slots_pass s c.sample.new.terminals.setup t (at_tick t (arrivals f) ++ at_tick t (samplings f)) (moments_at f t) start taken new (c.sample.ensures.setup ∙ c.receive.ensures.setup)
    (tick_is f t true (eq-eqb (t % 125) 0 c.if-now-ne0.false)) before c.speak.result c.speak.ensures.passes

pub returns-clause-cut : goal.returns-clause-cut
returns-clause-cut g c =
    let s = c.args.terminals.now.setup in
    let f = c.args.terminals.now.setup.settings in
    let t = c.args.now.now.tick in
    let start = scene_of g.W.Wire.faults g.W.Wire.script c.args.terminals.now c.args.cables.now in
    let asked = scene_of g.W.Wire.faults g.W.Wire.script c.receive.new.terminals c.receive.new.cables in
    let taken = scene_of g.W.Wire.faults g.W.Wire.script c.sample.new.terminals c.receive.new.cables in
    let leads = subst (λ (x : Setup). Leads x (at_tick t (samplings x.settings)) c.receive.new.terminals.journal c.sample.new.terminals.journal) c.receive.ensures.setup c.sample.ensures.leads in
    let before = joined s (at_tick t (arrivals f)) (at_tick t (samplings f)) start asked taken c.receive.ensures.passes
    (all_sampled s t (stations f) leads.events c.receive.new.terminals.journal c.sample.new.terminals.journal asked.wires leads.moments leads.journal) in
    let new = scene_of g.W.Wire.faults g.W.Wire.script c.speak.new.terminals c.speak.new.cables in
    slots_cut s c.sample.new.terminals.setup t (at_tick t (arrivals f) ++ at_tick t (samplings f)) (moments_at f t) start taken new (c.sample.ensures.setup ∙ c.receive.ensures.setup)
    (tick_is f t true (eq-eqb (t % 125) 0 c.if-now-ne0.false)) before c.speak.result c.speak.ensures.cut
