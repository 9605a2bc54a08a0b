use Rattle.std.specs.Prelude.{All}
use Rattle.std.specs.Vec.{with_items}
use Rattle.std.proofs.Common.{◌≡◌, ℕ, ◌+◌, ◌<◌, ◌≤◌, map, suc, slice_index, true, arith, sym, ap, ◌∙◌, refl, subst}
use Rattle.waveform_reader.specs.Scenario.{Setup}
use Rattle.line_world.specs.Inside.{world_of}
use Rattle.line_world.specs.Run.{Run}
use Rattle.line_world.specs.Tick.{IsNextSample}
use Rattle.line_world.specs.Worlds.{FollowsScript, Grows, Halted, HasEnded, IsDueByScript, IsOver, Went, World}
use Rattle.line_world.proofs.Stepping.{are_lines, cut_off, due_by_script, ends, goes_on, keeps, moved, none_left, on_ok, over_its_wires, passed, runs_to_the_end, samples_at, script_stopped, script_went, tick_halted, tick_went, world_stopped, world_went}
use Rattle.line_world.proofs.world.World.step.Goals as goal

pub returns-then-tick-end-clause-ended : goal.returns-then-tick-end-clause-ended
returns-then-tick-end-clause-ended g c =
    let end : c.end.result ≡ c.self.inside.terminals.setup.end = c.end.ensures ∙ ap (λ (s : Setup). s.end) c.scenario-2.ensures.setup in
    λ _. (
      refl,
      subst HasEnded c.self.view_is (ends g.W.Wire.faults g.W.Wire.script g.W.Wire.next_tick c.self.inside c.self.invariant c.if-self.false c.settings.result.now c.scenario.result.now
          c.next_due-tick.result c.deref.result.now c.settings.ensures.settings c.scenario.ensures.setup c.deref.ensures.value c.next_due-tick.ensures.due (omega arith)),
    )

pub returns-then-tick-end-clause-run : goal.returns-then-tick-end-clause-run
returns-then-tick-end-clause-run g c =
    let end : c.end.result ≡ c.self.inside.terminals.setup.end = c.end.ensures ∙ ap (λ (s : Setup). s.end) c.scenario-2.ensures.setup in
    λ follows _. subst (λ (w : World). w.journal ≡ Run w.setup) c.self.view_is
    (runs_to_the_end g.W.Wire.faults g.W.Wire.script g.W.Wire.next_tick c.self.inside c.self.invariant c.if-self.false c.settings.result.now c.scenario.result.now
    c.next_due-tick.result c.deref.result.now c.settings.ensures.settings c.scenario.ensures.setup c.deref.ensures.value c.next_due-tick.ensures.due
    (omega arith) c.next_due-tick.ensures.script (subst FollowsScript (sym c.self.view_is) follows))

pub returns-then-is_err-clause-grows : goal.returns-then-is_err-clause-grows
returns-then-is_err-clause-grows g c =
    let new : World = world_of g.W.Wire.faults g.W.Wire.script g.W.Wire.next_tick
    (record { terminals = c.make_room.new.self; cables = c.self.inside.cables; samples = c.self.inside.samples; next = c.self.inside.next; halted = true }) in
    subst (λ (w : World). Grows w new) c.self.view_is (keeps (world_of g.W.Wire.faults g.W.Wire.script g.W.Wire.next_tick c.self.inside) new c.make_room.ensures.journal refl)

pub carry_out-requires-clause-samples : goal.carry_out-requires-clause-samples
carry_out-requires-clause-samples g c =
    λ k few. moved (λ s t _ _. IsNextSample s (suc k) t (slice_index c.self.inside.samples k)) c.self.inside.terminals.setup c.make_room.new.self.setup
    c.next_due-tick.result c.now_at-now.result.tick c.self.inside.terminals.journal c.self.inside.terminals.journal few few (sym c.make_room.ensures.setup) (sym c.now_at-now.ensures.tick) refl refl
    (samples_at g.W.Wire.faults g.W.Wire.script g.W.Wire.next_tick c.self.inside c.self.invariant c.if-self.false c.settings.result.now c.scenario.result.now
    c.next_due-tick.result c.deref.result.now c.settings.ensures.settings c.scenario.ensures.setup c.deref.ensures.value c.next_due-tick.ensures.due
    k (omega (arith, ap (λ (s : Setup). s.settings.stations) c.make_room.ensures.setup)))

pub invariant_of-self-then-is_err-2 : goal.invariant_of-self-then-is_err-2
invariant_of-self-then-is_err-2 g c =
    let end : c.end.result ≡ c.self.inside.terminals.setup.end = c.end.ensures ∙ ap (λ (s : Setup). s.end) c.scenario-2.ensures.setup in
    let new : World = world_of g.W.Wire.faults g.W.Wire.script g.W.Wire.next_tick (record {
      terminals = c.carry_out.new.terminals;
      cables = with_items c.self.inside.cables c.carry_out.new.cables;
      samples = c.carry_out.new.samples;
      next = c.next_due-tick.result;
      halted = true;
    }) in
    let same : new.setup ≡ c.self.inside.terminals.setup = c.carry_out.ensures.setup ∙ c.make_room.ensures.setup in
    let cut = cut_off g.W.Wire.faults g.W.Wire.script c.self.inside.terminals.setup c.next_due-tick.result c.self.inside.terminals.journal c.self.inside.cables c.make_room.new.self c.carry_out.new.terminals
    c.now_at-now.result.tick c.deref_mut.result.now c.carry_out.new.cables c.make_room.ensures.setup c.now_at-now.ensures.tick c.make_room.ensures.journal c.deref_mut.ensures.value
    (omega (arith, c.self.inside.cables.ok.0)) c.carry_out.result (sym c.is_err-2.ensures.value ∙ c.if-is_err-2.true) c.carry_out.ensures.cut in
    record {
      lines = are_lines g.W.Wire.faults g.W.Wire.script c.self.inside.terminals.setup c.next_due-tick.result c.self.inside.terminals.journal c.self.inside.cables c.make_room.new.self c.carry_out.new.terminals
          c.now_at-now.result.tick c.deref_mut.result.now c.carry_out.new.cables c.make_room.ensures.setup c.now_at-now.ensures.tick c.make_room.ensures.journal c.deref_mut.ensures.value
          (omega (arith, c.self.inside.cables.ok.0)) c.carry_out.ensures.setup c.carry_out.ensures.lines;
      samples = λ e. cc;
      world = world_stopped g.W.Wire.faults g.W.Wire.script g.W.Wire.next_tick c.self.inside c.self.invariant c.if-self.false c.settings.result.now c.scenario.result.now
          c.next_due-tick.result c.deref.result.now c.settings.ensures.settings c.scenario.ensures.setup c.deref.ensures.value c.next_due-tick.ensures.due new same (omega arith) refl refl cut;
    }

pub returns-then-is_err-2-clause-halted : goal.returns-then-is_err-2-clause-halted
returns-then-is_err-2-clause-halted g c =
    let end : c.end.result ≡ c.self.inside.terminals.setup.end = c.end.ensures ∙ ap (λ (s : Setup). s.end) c.scenario-2.ensures.setup in
    let new : World = world_of g.W.Wire.faults g.W.Wire.script g.W.Wire.next_tick (record {
      terminals = c.carry_out.new.terminals;
      cables = with_items c.self.inside.cables c.carry_out.new.cables;
      samples = c.carry_out.new.samples;
      next = c.next_due-tick.result;
      halted = true;
    }) in
    let same : new.setup ≡ c.self.inside.terminals.setup = c.carry_out.ensures.setup ∙ c.make_room.ensures.setup in
    let cut = cut_off g.W.Wire.faults g.W.Wire.script c.self.inside.terminals.setup c.next_due-tick.result c.self.inside.terminals.journal c.self.inside.cables c.make_room.new.self c.carry_out.new.terminals
    c.now_at-now.result.tick c.deref_mut.result.now c.carry_out.new.cables c.make_room.ensures.setup c.now_at-now.ensures.tick c.make_room.ensures.journal c.deref_mut.ensures.value
    (omega (arith, c.self.inside.cables.ok.0)) c.carry_out.result (sym c.is_err-2.ensures.value ∙ c.if-is_err-2.true) c.carry_out.ensures.cut in
    subst (λ (w : World). Halted w new) c.self.view_is
    (tick_halted g.W.Wire.faults g.W.Wire.script g.W.Wire.next_tick c.self.inside c.self.invariant c.if-self.false c.settings.result.now c.scenario.result.now
    c.next_due-tick.result c.deref.result.now c.settings.ensures.settings c.scenario.ensures.setup c.deref.ensures.value c.next_due-tick.ensures.due new same (omega arith) refl refl cut)

pub returns-then-is_err-2-clause-world : goal.returns-then-is_err-2-clause-world
returns-then-is_err-2-clause-world g c =
    let end : c.end.result ≡ c.self.inside.terminals.setup.end = c.end.ensures ∙ ap (λ (s : Setup). s.end) c.scenario-2.ensures.setup in
    let new : World = world_of g.W.Wire.faults g.W.Wire.script g.W.Wire.next_tick (record {
      terminals = c.carry_out.new.terminals;
      cables = with_items c.self.inside.cables c.carry_out.new.cables;
      samples = c.carry_out.new.samples;
      next = c.next_due-tick.result;
      halted = true;
    }) in
    let same : new.setup ≡ c.self.inside.terminals.setup = c.carry_out.ensures.setup ∙ c.make_room.ensures.setup in
    let cut = cut_off g.W.Wire.faults g.W.Wire.script c.self.inside.terminals.setup c.next_due-tick.result c.self.inside.terminals.journal c.self.inside.cables c.make_room.new.self c.carry_out.new.terminals
    c.now_at-now.result.tick c.deref_mut.result.now c.carry_out.new.cables c.make_room.ensures.setup c.now_at-now.ensures.tick c.make_room.ensures.journal c.deref_mut.ensures.value
    (omega (arith, c.self.inside.cables.ok.0)) c.carry_out.result (sym c.is_err-2.ensures.value ∙ c.if-is_err-2.true) c.carry_out.ensures.cut in
    world_stopped g.W.Wire.faults g.W.Wire.script g.W.Wire.next_tick c.self.inside c.self.invariant c.if-self.false c.settings.result.now c.scenario.result.now
    c.next_due-tick.result c.deref.result.now c.settings.ensures.settings c.scenario.ensures.setup c.deref.ensures.value c.next_due-tick.ensures.due new same (omega arith) refl refl cut

pub returns-then-is_err-2-clause-follows : goal.returns-then-is_err-2-clause-follows
returns-then-is_err-2-clause-follows g c =
    let end : c.end.result ≡ c.self.inside.terminals.setup.end = c.end.ensures ∙ ap (λ (s : Setup). s.end) c.scenario-2.ensures.setup in
    let new : World = world_of g.W.Wire.faults g.W.Wire.script g.W.Wire.next_tick (record {
      terminals = c.carry_out.new.terminals;
      cables = with_items c.self.inside.cables c.carry_out.new.cables;
      samples = c.carry_out.new.samples;
      next = c.next_due-tick.result;
      halted = true;
    }) in
    let same : new.setup ≡ c.self.inside.terminals.setup = c.carry_out.ensures.setup ∙ c.make_room.ensures.setup in
    let cut = cut_off g.W.Wire.faults g.W.Wire.script c.self.inside.terminals.setup c.next_due-tick.result c.self.inside.terminals.journal c.self.inside.cables c.make_room.new.self c.carry_out.new.terminals
    c.now_at-now.result.tick c.deref_mut.result.now c.carry_out.new.cables c.make_room.ensures.setup c.now_at-now.ensures.tick c.make_room.ensures.journal c.deref_mut.ensures.value
    (omega (arith, c.self.inside.cables.ok.0)) c.carry_out.result (sym c.is_err-2.ensures.value ∙ c.if-is_err-2.true) c.carry_out.ensures.cut in
    λ follows. script_stopped g.W.Wire.faults g.W.Wire.script g.W.Wire.next_tick c.self.inside c.self.invariant c.if-self.false c.settings.result.now c.scenario.result.now
    c.next_due-tick.result c.deref.result.now c.settings.ensures.settings c.scenario.ensures.setup c.deref.ensures.value c.next_due-tick.ensures.due new same (omega arith) refl refl cut
    c.next_due-tick.ensures.script (subst FollowsScript (sym c.self.view_is) follows)

pub invariant_of-self-2 : goal.invariant_of-self-2
invariant_of-self-2 g c =
    let end : c.end.result ≡ c.self.inside.terminals.setup.end = c.end.ensures ∙ ap (λ (s : Setup). s.end) c.scenario-2.ensures.setup in
    let new : World = world_of g.W.Wire.faults g.W.Wire.script g.W.Wire.next_tick (record {
      terminals = c.carry_out.new.terminals;
      cables = with_items c.self.inside.cables c.carry_out.new.cables;
      samples = c.carry_out.new.samples;
      next = c.next_due-tick.result + 1;
      halted = c.self.inside.halted;
    }) in
    let same : new.setup ≡ c.self.inside.terminals.setup = c.carry_out.ensures.setup ∙ c.make_room.ensures.setup in
    let passes = passed g.W.Wire.faults g.W.Wire.script c.self.inside.terminals.setup c.next_due-tick.result c.self.inside.terminals.journal c.self.inside.cables c.make_room.new.self c.carry_out.new.terminals
    c.now_at-now.result.tick c.deref_mut.result.now c.carry_out.new.cables c.make_room.ensures.setup c.now_at-now.ensures.tick c.make_room.ensures.journal c.deref_mut.ensures.value
    (omega (arith, c.self.inside.cables.ok.0)) c.carry_out.result (sym c.is_err-2.ensures.value ∙ c.if-is_err-2.false) c.carry_out.ensures.passes in
    let next = on_ok c.carry_out.result ((k : ℕ) → suc k ≤ c.make_room.new.self.setup.settings.stations
    → IsNextSample c.make_room.new.self.setup (suc k) (suc c.now_at-now.result.tick) (slice_index c.carry_out.new.samples k))
    (sym c.is_err-2.ensures.value ∙ c.if-is_err-2.false) c.carry_out.ensures.next in
    let after : suc c.now_at-now.result.tick ≡ c.next_due-tick.result + 1 = omega (arith, c.now_at-now.ensures.tick) in
    record {
      lines = are_lines g.W.Wire.faults g.W.Wire.script c.self.inside.terminals.setup c.next_due-tick.result c.self.inside.terminals.journal c.self.inside.cables c.make_room.new.self c.carry_out.new.terminals
          c.now_at-now.result.tick c.deref_mut.result.now c.carry_out.new.cables c.make_room.ensures.setup c.now_at-now.ensures.tick c.make_room.ensures.journal c.deref_mut.ensures.value
          (omega (arith, c.self.inside.cables.ok.0)) c.carry_out.ensures.setup c.carry_out.ensures.lines;
      samples = λ _ k few. moved (λ s t _ _. IsNextSample s (suc k) t (slice_index c.carry_out.new.samples k)) c.make_room.new.self.setup c.carry_out.new.terminals.setup
          (suc c.now_at-now.result.tick) (c.next_due-tick.result + 1) c.self.inside.terminals.journal c.self.inside.terminals.journal few few (sym c.carry_out.ensures.setup) after refl refl
          (next k (omega (arith, ap (λ (s : Setup). s.settings.stations) c.carry_out.ensures.setup)));
      world = world_went g.W.Wire.faults g.W.Wire.script g.W.Wire.next_tick c.self.inside c.self.invariant c.if-self.false c.settings.result.now c.scenario.result.now
          c.next_due-tick.result c.deref.result.now c.settings.ensures.settings c.scenario.ensures.setup c.deref.ensures.value c.next_due-tick.ensures.due new same (omega arith) (omega arith) passes;
    }

pub returns-clause-went : goal.returns-clause-went
returns-clause-went g c =
    let end : c.end.result ≡ c.self.inside.terminals.setup.end = c.end.ensures ∙ ap (λ (s : Setup). s.end) c.scenario-2.ensures.setup in
    let new : World = world_of g.W.Wire.faults g.W.Wire.script g.W.Wire.next_tick (record {
      terminals = c.carry_out.new.terminals;
      cables = with_items c.self.inside.cables c.carry_out.new.cables;
      samples = c.carry_out.new.samples;
      next = c.next_due-tick.result + 1;
      halted = c.self.inside.halted;
    }) in
    let same : new.setup ≡ c.self.inside.terminals.setup = c.carry_out.ensures.setup ∙ c.make_room.ensures.setup in
    let passes = passed g.W.Wire.faults g.W.Wire.script c.self.inside.terminals.setup c.next_due-tick.result c.self.inside.terminals.journal c.self.inside.cables c.make_room.new.self c.carry_out.new.terminals
    c.now_at-now.result.tick c.deref_mut.result.now c.carry_out.new.cables c.make_room.ensures.setup c.now_at-now.ensures.tick c.make_room.ensures.journal c.deref_mut.ensures.value
    (omega (arith, c.self.inside.cables.ok.0)) c.carry_out.result (sym c.is_err-2.ensures.value ∙ c.if-is_err-2.false) c.carry_out.ensures.passes in
    λ tick e.
    let is : c.next_due-tick.result ≡ tick = cc in
    subst (λ (t : ℕ). Went c.args.self.now new t) is (subst (λ (w : World). Went w new c.next_due-tick.result) c.self.view_is
    (tick_went g.W.Wire.faults g.W.Wire.script g.W.Wire.next_tick c.self.inside c.self.invariant c.if-self.false c.settings.result.now c.scenario.result.now
    c.next_due-tick.result c.deref.result.now c.settings.ensures.settings c.scenario.ensures.setup c.deref.ensures.value c.next_due-tick.ensures.due
    new same (omega arith) (omega arith) passes c.if-self.false))

pub returns-clause-world : goal.returns-clause-world
returns-clause-world g c =
    let end : c.end.result ≡ c.self.inside.terminals.setup.end = c.end.ensures ∙ ap (λ (s : Setup). s.end) c.scenario-2.ensures.setup in
    let new : World = world_of g.W.Wire.faults g.W.Wire.script g.W.Wire.next_tick (record {
      terminals = c.carry_out.new.terminals;
      cables = with_items c.self.inside.cables c.carry_out.new.cables;
      samples = c.carry_out.new.samples;
      next = c.next_due-tick.result + 1;
      halted = c.self.inside.halted;
    }) in
    let same : new.setup ≡ c.self.inside.terminals.setup = c.carry_out.ensures.setup ∙ c.make_room.ensures.setup in
    let passes = passed g.W.Wire.faults g.W.Wire.script c.self.inside.terminals.setup c.next_due-tick.result c.self.inside.terminals.journal c.self.inside.cables c.make_room.new.self c.carry_out.new.terminals
    c.now_at-now.result.tick c.deref_mut.result.now c.carry_out.new.cables c.make_room.ensures.setup c.now_at-now.ensures.tick c.make_room.ensures.journal c.deref_mut.ensures.value
    (omega (arith, c.self.inside.cables.ok.0)) c.carry_out.result (sym c.is_err-2.ensures.value ∙ c.if-is_err-2.false) c.carry_out.ensures.passes in
    world_went g.W.Wire.faults g.W.Wire.script g.W.Wire.next_tick c.self.inside c.self.invariant c.if-self.false c.settings.result.now c.scenario.result.now
    c.next_due-tick.result c.deref.result.now c.settings.ensures.settings c.scenario.ensures.setup c.deref.ensures.value c.next_due-tick.ensures.due new same (omega arith) (omega arith) passes

pub returns-clause-follows : goal.returns-clause-follows
returns-clause-follows g c =
    let end : c.end.result ≡ c.self.inside.terminals.setup.end = c.end.ensures ∙ ap (λ (s : Setup). s.end) c.scenario-2.ensures.setup in
    let new : World = world_of g.W.Wire.faults g.W.Wire.script g.W.Wire.next_tick (record {
      terminals = c.carry_out.new.terminals;
      cables = with_items c.self.inside.cables c.carry_out.new.cables;
      samples = c.carry_out.new.samples;
      next = c.next_due-tick.result + 1;
      halted = c.self.inside.halted;
    }) in
    let same : new.setup ≡ c.self.inside.terminals.setup = c.carry_out.ensures.setup ∙ c.make_room.ensures.setup in
    let passes = passed g.W.Wire.faults g.W.Wire.script c.self.inside.terminals.setup c.next_due-tick.result c.self.inside.terminals.journal c.self.inside.cables c.make_room.new.self c.carry_out.new.terminals
    c.now_at-now.result.tick c.deref_mut.result.now c.carry_out.new.cables c.make_room.ensures.setup c.now_at-now.ensures.tick c.make_room.ensures.journal c.deref_mut.ensures.value
    (omega (arith, c.self.inside.cables.ok.0)) c.carry_out.result (sym c.is_err-2.ensures.value ∙ c.if-is_err-2.false) c.carry_out.ensures.passes in
    λ follows. script_went g.W.Wire.faults g.W.Wire.script g.W.Wire.next_tick c.self.inside c.self.invariant c.if-self.false c.settings.result.now c.scenario.result.now
    c.next_due-tick.result c.deref.result.now c.settings.ensures.settings c.scenario.ensures.setup c.deref.ensures.value c.next_due-tick.ensures.due new same (omega arith) (omega arith) passes
    c.next_due-tick.ensures.script (subst FollowsScript (sym c.self.view_is) follows)

pub returns-then-is_err-clause-again : goal.returns-then-is_err-clause-again
returns-then-is_err-clause-again g c =
    let end : c.end.result ≡ c.self.inside.terminals.setup.end = c.end.ensures ∙ ap (λ (s : Setup). s.end) c.scenario-2.ensures.setup in
    λ ended. goes_on g.W.Wire.faults g.W.Wire.script g.W.Wire.next_tick c.self.inside c.self.invariant c.if-self.false c.settings.result.now c.scenario.result.now
    c.next_due-tick.result c.deref.result.now c.settings.ensures.settings c.scenario.ensures.setup c.deref.ensures.value c.next_due-tick.ensures.due
    (omega arith) (subst HasEnded (sym c.self.view_is) ended)

pub returns-then-is_err-2-clause-again : goal.returns-then-is_err-2-clause-again
returns-then-is_err-2-clause-again g c =
    let end : c.end.result ≡ c.self.inside.terminals.setup.end = c.end.ensures ∙ ap (λ (s : Setup). s.end) c.scenario-2.ensures.setup in
    λ ended. goes_on g.W.Wire.faults g.W.Wire.script g.W.Wire.next_tick c.self.inside c.self.invariant c.if-self.false c.settings.result.now c.scenario.result.now
    c.next_due-tick.result c.deref.result.now c.settings.ensures.settings c.scenario.ensures.setup c.deref.ensures.value c.next_due-tick.ensures.due
    (omega arith) (subst HasEnded (sym c.self.view_is) ended)

pub returns-clause-again : goal.returns-clause-again
returns-clause-again g c =
    let end : c.end.result ≡ c.self.inside.terminals.setup.end = c.end.ensures ∙ ap (λ (s : Setup). s.end) c.scenario-2.ensures.setup in
    λ ended. goes_on g.W.Wire.faults g.W.Wire.script g.W.Wire.next_tick c.self.inside c.self.invariant c.if-self.false c.settings.result.now c.scenario.result.now
    c.next_due-tick.result c.deref.result.now c.settings.ensures.settings c.scenario.ensures.setup c.deref.ensures.value c.next_due-tick.ensures.due
    (omega arith) (subst HasEnded (sym c.self.view_is) ended)

pub returns-then-tick-end-clause-none_left : goal.returns-then-tick-end-clause-none_left
returns-then-tick-end-clause-none_left g c =
    λ _. subst (λ (w : World). All (λ entry. entry.time < w.next) w.journal) c.self.view_is
    (none_left g.W.Wire.faults g.W.Wire.script g.W.Wire.next_tick c.self.inside c.self.invariant c.if-self.false c.settings.result.now c.scenario.result.now
    c.next_due-tick.result c.deref.result.now c.settings.ensures.settings c.scenario.ensures.setup c.deref.ensures.value c.next_due-tick.ensures.due)

pub returns-then-tick-end-clause-due : goal.returns-then-tick-end-clause-due
returns-then-tick-end-clause-due g c =
    subst IsDueByScript c.self.view_is
    (due_by_script g.W.Wire.faults g.W.Wire.script g.W.Wire.next_tick c.self.inside c.self.invariant c.if-self.false c.settings.result.now c.scenario.result.now
    c.next_due-tick.result c.deref.result.now c.settings.ensures.settings c.scenario.ensures.setup c.deref.ensures.value c.next_due-tick.ensures.due c.next_due-tick.ensures.script)

pub returns-clause-due : goal.returns-clause-due
returns-clause-due g c =
    subst IsDueByScript c.self.view_is
    (due_by_script g.W.Wire.faults g.W.Wire.script g.W.Wire.next_tick c.self.inside c.self.invariant c.if-self.false c.settings.result.now c.scenario.result.now
    c.next_due-tick.result c.deref.result.now c.settings.ensures.settings c.scenario.ensures.setup c.deref.ensures.value c.next_due-tick.ensures.due c.next_due-tick.ensures.script)

pub returns-then-self-clause-over : goal.returns-then-self-clause-over
returns-then-self-clause-over g c =
    (map (λ cable. cable.wire) c.self.inside.cables.items, subst (IsOver g.W.Wire.faults g.W.Wire.script g.W.Wire.next_tick (map (λ cable. cable.wire) c.self.inside.cables.items)) c.self.view_is (over_its_wires g.W.Wire.faults g.W.Wire.script g.W.Wire.next_tick c.self.inside))

pub returns-then-tick-end-clause-over : goal.returns-then-tick-end-clause-over
returns-then-tick-end-clause-over g c =
    (map (λ cable. cable.wire) c.self.inside.cables.items, subst (IsOver g.W.Wire.faults g.W.Wire.script g.W.Wire.next_tick (map (λ cable. cable.wire) c.self.inside.cables.items)) c.self.view_is (over_its_wires g.W.Wire.faults g.W.Wire.script g.W.Wire.next_tick c.self.inside))

pub returns-then-is_err-clause-over : goal.returns-then-is_err-clause-over
returns-then-is_err-clause-over g c = (
  _,
  over_its_wires g.W.Wire.faults g.W.Wire.script g.W.Wire.next_tick
      (record { terminals = c.make_room.new.self; cables = c.self.inside.cables; samples = c.self.inside.samples; next = c.self.inside.next; halted = true }),
)

pub returns-then-is_err-2-clause-over : goal.returns-then-is_err-2-clause-over
returns-then-is_err-2-clause-over g c = (
  _,
  over_its_wires g.W.Wire.faults g.W.Wire.script g.W.Wire.next_tick (record {
    terminals = c.carry_out.new.terminals;
    cables = with_items c.self.inside.cables c.carry_out.new.cables;
    samples = c.carry_out.new.samples;
    next = c.next_due-tick.result;
    halted = true;
  }),
)

pub returns-clause-over : goal.returns-clause-over
returns-clause-over g c = (
  _,
  over_its_wires g.W.Wire.faults g.W.Wire.script g.W.Wire.next_tick (record {
    terminals = c.carry_out.new.terminals;
    cables = with_items c.self.inside.cables c.carry_out.new.cables;
    samples = c.carry_out.new.samples;
    next = c.next_due-tick.result + 1;
    halted = c.self.inside.halted;
  }),
)
