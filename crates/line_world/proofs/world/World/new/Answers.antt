use Rattle.std.proofs.Common.{suc, map, slice_index, false, arith, sym, ap, ◌∙◌, refl, subst}
use Rattle.std.proofs.lemmas.Simd.{map-map}
use Rattle.ld_base.proofs.Accepted.{AreInRange-from_no_fault}
use Rattle.ld_base.specs.declared.fields.Fields.{Fields}
use Rattle.waveform_reader.specs.Scenario.{Setup}
use Rattle.line_world.specs.Inside.{world_of}
use Rattle.line_journal.specs.Stations.{ways}
use Rattle.line_world.specs.Passes.{Tell, Told, told}
use Rattle.line_world.specs.Run.{lines_of}
use Rattle.line_world.specs.Tick.{AreLines, IsNextSample}
use Rattle.line_world.specs.Worlds.{IsOver, World}
use Rattle.line_world.proofs.Stepping.{begins, begins_by_script, over_its_wires}
use Rattle.line_world.proofs.world.World.new.Goals as goal

pub invariant_of-result : goal.invariant_of-result
invariant_of-result g c =
    let same = c.in_ok-terminals.ensures.setup in
    let few = AreInRange-from_no_fault c.args.scenario.settings c.settings.ensures.kept.settings in
    record {
      lines = subst (λ (f : Fields). AreLines f c.in_ok-cables.cables.items) (c.settings.ensures.settings ∙ ap (λ (s : Setup). s.settings) (sym same)) c.in_ok-cables.ensures.lines;
      samples = λ running k h. subst (λ (s : Setup). IsNextSample s (suc k) 0 (slice_index c.first_samples-samples.result k)) (sym same)
          (c.first_samples-samples.ensures k (omega (arith, few.stations.1, ap (λ (s : Setup). s.settings.stations) same)));
      world = begins (world_of g.W.Wire.faults g.W.Wire.script g.W.Wire.next_tick
          (record { terminals = c.in_ok-terminals.terminals; cables = c.in_ok-cables.cables; samples = c.first_samples-samples.result; next = 0; halted = false })) refl c.in_ok-terminals.ensures.journal;
    }

pub returns-clause-wires : goal.returns-clause-wires
returns-clause-wires g c = (
  map-map (λ (wire : Told). wire.faults) (told g.W.Wire.faults g.W.Wire.script) c.in_ok-cables.cables.items
      ∙ sym (map-map g.W.Wire.faults (λ cable. cable.wire) c.in_ok-cables.cables.items) ∙ ap (λ wires. map g.W.Wire.faults wires) c.in_ok-cables.ensures.wires,
  map-map (λ (wire : Told). wire.script) (told g.W.Wire.faults g.W.Wire.script) c.in_ok-cables.cables.items
      ∙ sym (map-map g.W.Wire.script (λ cable. cable.wire) c.in_ok-cables.cables.items) ∙ ap (λ wires. map g.W.Wire.script wires) c.in_ok-cables.ensures.wires,
)

pub returns-clause-ways : goal.returns-clause-ways
returns-clause-ways g c =
    map-map (λ (wire : Told). record { from = wire.from; to = wire.to }) (told g.W.Wire.faults g.W.Wire.script) c.in_ok-cables.cables.items
    ∙ c.in_ok-cables.ensures.lines ∙ ap (λ (f : Fields). ways f) c.settings.ensures.settings

pub returns-clause-world : goal.returns-clause-world
returns-clause-world g c =
    begins (world_of g.W.Wire.faults g.W.Wire.script g.W.Wire.next_tick
    (record { terminals = c.in_ok-terminals.terminals; cables = c.in_ok-cables.cables; samples = c.first_samples-samples.result; next = 0; halted = false })) refl c.in_ok-terminals.ensures.journal

pub returns-clause-follows : goal.returns-clause-follows
returns-clause-follows g c =
    let w : World = world_of g.W.Wire.faults g.W.Wire.script g.W.Wire.next_tick
    (record { terminals = c.in_ok-terminals.terminals; cables = c.in_ok-cables.cables; samples = c.first_samples-samples.result; next = 0; halted = false }) in
    λ tell. begins_by_script w refl c.in_ok-terminals.ensures.journal
    (subst (λ (s : Setup). Tell w.wires (lines_of s.settings s.rules)) (sym c.in_ok-terminals.ensures.setup) tell)

pub returns-clause-over : goal.returns-clause-over
returns-clause-over g c =
    let w : World = world_of g.W.Wire.faults g.W.Wire.script g.W.Wire.next_tick
    (record { terminals = c.in_ok-terminals.terminals; cables = c.in_ok-cables.cables; samples = c.first_samples-samples.result; next = 0; halted = false }) in
    subst (λ wires. IsOver g.W.Wire.faults g.W.Wire.script g.W.Wire.next_tick wires w) c.in_ok-cables.ensures.wires
    (over_its_wires g.W.Wire.faults g.W.Wire.script g.W.Wire.next_tick
    (record { terminals = c.in_ok-terminals.terminals; cables = c.in_ok-cables.cables; samples = c.first_samples-samples.result; next = 0; halted = false }))
