use Rattle.std.proofs.Common.{◌≡◌, ℕ, ◌-◌, ◌/◌, List, [], ◌∷◌, ◌++◌, get_or, map, length, refl, rules, ap, ◌∙◌, arith}
use Rattle.std.proofs.lemmas.List.{length-map}
use Rattle.c3794_frame.specs.Numbers.{bits_of}
use Rattle.pingpong.specs.declared.journal.Entry.{Entry}
use Rattle.pingpong.specs.declared.journal.What.{What}
use Rattle.relay_core.specs.Answers.{outgo_by, outgo_of}
use Rattle.relay_core.specs.Log.{peers}
use Rattle.relay_core.specs.declared.call.Call.TheVariants as made
use Rattle.relay_core.specs.declared.answers.Outgoing.{Outgoing}
use Rattle.waveform_reader.specs.Scenario.{phases_at}
use Rattle.relay_core.specs.IsAnswer.{IsSlotted}
use Rattle.relay_core.specs.StationLog.{StationLog}
use Rattle.line_world.specs.World.{slot_with}
use Rattle.line_world.proofs.Slotting.{frames-of, newest-added, peers-some, sent-by, sent-each, sent-to}
use Rattle.line_world.proofs.Stationing.{IsCallOf, names-station, stationed, terminal-at, told-of}
use Rattle.line_world.proofs.terminals.Terminals.slot.Goals as goal
use Rattle.line_world.proofs.terminals.Terminals.slot.Goals.{After-deref}

-- the frames go to the station's peers by its log
sent : (c : After-deref)
    → map outgo_of c.slot-slotted.result.frames.items
    ≡ map (outgo_by c.self.inside.scenario.settings c.args.station (StationLog c.args.station c.self.inside.journal.items) (made.Slot c.stamp-stamp.result))
    (peers c.self.inside.scenario.settings c.args.station)
sent c =
    let h = c.self.inside in
    let terminal = c.index_mut-terminal.result.now in
    sent-by h.scenario.settings h.journal.items c.args.station terminal (made.Slot c.stamp-stamp.result) c.slot-slotted.result.frames.items
    (terminal-at h.scenario.settings h.journal.items h.terminals.items c.args.station c.place_of.result terminal c.self.invariant.terminals
    (rw (← c.self.view_is) at c.requires.there) c.place_of.ensures c.index_mut-terminal.ensures.value)
    (λ calls stands. (c.slot-slotted.ensures.answer calls stands).frames)

pub slot_of-requires : goal.slot_of-requires
slot_of-requires c =
    let f = c.self.inside.scenario.settings in
    let to = sent-to f c.args.station _ _ c.slot-slotted.result.frames.items (peers f c.args.station) (sent c) in
    omega (arith, ap length c.deref.ensures.0, length-map c.slot-slotted.result.frames.items (λ o. o.to), ap length to, peers-some f c.args.station c.settings.ensures.kept.settings)

-- the entry is the slot of the station
is_call : (c : goal.After-push_reserved) → IsCallOf c.args.station (made.Slot c.stamp-stamp.result) c.entry.result
is_call c =
    let now = c.args.now.now in
    names-station c.args.station c.stamp-stamp.result now.tick now.phases _ made.Slot c.entry.result
    (c.entry.ensures ∙ ap (λ (what : What). record { time = now.tick; phases = now.phases; what = what }) c.slot_of.ensures) c.stamp-stamp.ensures (λ me at. refl)

pub invariant_of-self : goal.invariant_of-self
invariant_of-self c =
    let h = c.self.inside in
    let there = rw (← c.self.view_is) at c.requires.there in
    let old = c.index_mut-terminal.result.now in
    let kept = c.self.invariant in
    let answer = c.slot-slotted.result in
    let terminal = terminal-at h.scenario.settings h.journal.items h.terminals.items c.args.station c.place_of.result old kept.terminals there c.place_of.ensures
    c.index_mut-terminal.ensures.value in
    let told = told-of (λ f me log at. IsSlotted f me log (made.Slot at) answer) h.scenario.settings h.account.settings h.journal.items c.args.station
    c.stamp-stamp.result _ old terminal kept.settings c.stamp-stamp.ensures
    c.slot-slotted.ensures.answer in
    record {
      terminals = rw c.push_reserved.ensures.items
          (stationed h.scenario.settings h.journal.items h.terminals.items c.args.station c.place_of.result (made.Slot c.stamp-stamp.result) c.entry.result old
          c.slot-slotted.new.self kept.terminals there c.place_of.ensures c.index_mut-terminal.ensures.value (is_call c)
          (record { settings = c.slot-slotted.ensures.settings; stands = c.slot-slotted.ensures.stands }));
      settings = c.slotted.ensures.settings ∙ kept.settings;
      account = rw (c.push_reserved.ensures.items, c.entry.ensures, c.slot_of.ensures) (c.slotted.ensures.account h.journal.items _ _ kept.account told);
    }

pub returns-clause-entry : goal.returns-clause-entry
returns-clause-entry c =
    let d = (goal.at.returns-clause-entry c).After-deref in
    let s = c.self.inside.scenario in
    let now = c.args.now.now in
    let journal = c.self.inside.journal.items in
    let phases : now.phases ≡ phases_at s now.tick = (rw (← c.self.view_is) at c.requires.now).phases in
    let frames = frames-of s journal now.tick c.args.station c.stamp-stamp.result c.slot-slotted.result.frames.items
    (c.stamp-stamp.ensures ∙ ap (λ (all : List ℕ). get_or all (c.args.station - 1) 0 / 1000000) phases) (sent d) in
    let what = c.slot_of.ensures ∙ ap (λ (outs : List Outgoing). slot_with c.args.station (map (λ (o : Outgoing). bits_of o.bytes) outs)) c.deref.ensures.0
    ∙ ap (slot_with c.args.station) frames in
    let entry = c.entry.ensures ∙ ap (λ (all : List ℕ). record { time = now.tick; phases = all; what = c.slot_of.result }) phases
    ∙ ap (λ (what : What). record { time = now.tick; phases = phases_at s now.tick; what = what }) what in
    rw (← c.self.view_is)
    (record { setup = refl; journal = c.push_reserved.ensures.items ∙ ap (λ (e : Entry). journal ++ e ∷ []) entry; room = search rules })

pub returns-clause-peers : goal.returns-clause-peers
returns-clause-peers c =
    let d = (goal.at.returns-clause-peers c).After-deref in
    rw (← c.self.view_is) (sent-to c.self.inside.scenario.settings c.args.station _ _ c.slot-slotted.result.frames.items _ (sent d))

pub returns-clause-frames : goal.returns-clause-frames
returns-clause-frames c = λ k o inside.
    let d = (goal.at.returns-clause-frames c).After-deref in
    let f = c.self.inside.scenario.settings in
    let outs = c.slot-slotted.result.frames.items in
    let log = StationLog c.args.station c.self.inside.journal.items in
    let added = sent-each f c.args.station log (made.Slot c.stamp-stamp.result) outs (peers f c.args.station) (sent d) k o inside in
    rw (c.push_reserved.ensures.items, ← c.self.view_is)
    (newest-added f c.args.station (get_or outs k o).to (made.Slot c.stamp-stamp.result) c.entry.result c.self.inside.journal.items
    (bits_of (get_or outs k o).bytes) (is_call c) added)
