use Rattle.std.proofs.Common.{◌≡◌, ℕ, map, take, ap, ◌∙◌, arith, subst}
use Rattle.ld_base.specs.declared.fields.Fields.{Fields}
use Rattle.line_world.specs.Worlds.{IsLeast}
use Rattle.line_world.proofs.Leasts.{next_due}
use Rattle.line_world.proofs.world.next_due.Goals as goal

pub returns-clause-due : goal.returns-clause-due
returns-clause-due g c =
    let stations : c.from-stations.result ≡ c.args.s.now.stations = c.from-stations.ensures ∙ ap (λ (f : Fields). f.stations) c.fields.ensures.same in
    next_due c.args.s.now.stations c.args.next c.next_slot.result c.with_samples-due.result c.with_wires.result c.args.samples.now
    (map (λ cable. g.W.Wire.next_tick cable.wire c.args.next) c.args.cables.now) (omega (arith, c.fields.ensures.in_range.stations.1))
    c.next_slot.ensures.later c.next_slot.ensures.slot c.next_slot.ensures.least c.requires.samples
    (subst (λ (n : ℕ). IsLeast c.next_slot.result (take n c.args.samples.now) c.with_samples-due.result) stations c.with_samples-due.ensures)
    c.with_wires.ensures.least c.with_wires.ensures.later
