use Rattle.std.proofs.Common.{ℕ, arith, subst}
use Rattle.std.proofs.lemmas.List.{take_all}
use Rattle.std.proofs.lemmas.List.Elements.{All-more}
use Rattle.ld_base.specs.Script.{QuietBy}
use Rattle.line_world.specs.Tick.{TellsNext}
use Rattle.line_world.proofs.Leasts.{mapped_more}
use Rattle.line_world.proofs.world.with_wires.Goals as goal

pub loop-cable-preserved : goal.loop-cable-preserved
loop-cable-preserved g c = (
  mapped_more (λ cable. g.W.Wire.next_tick cable.wire c.args.next) c.args.cables.now c.loop-cable.cable-index c.cable-item.result
      c.args.due c.loop-cable.least c.min-least.result (omega arith) c.cable-item.is c.loop-cable.invariant.0 (omega (arith, c.min-least.ensures, c.quiet_until.ensures.next)),
  λ h. omega (arith, c.loop-cable.invariant.1 h, c.min-least.ensures, c.quiet_until.ensures.later),
  All-more (TellsNext g.W.Wire.script g.W.Wire.next_tick c.args.next) c.args.cables.now c.loop-cable.cable-index c.cable-item.result (omega arith) c.loop-cable.invariant.2
      (subst (TellsNext g.W.Wire.script g.W.Wire.next_tick c.args.next) c.cable-item.is
      (λ told e. subst (λ (tick : ℕ). QuietBy told c.args.next tick) c.quiet_until.ensures.next (c.quiet_until.ensures.script told e))),
)

pub returns-clause-least : goal.returns-clause-least
returns-clause-least g c =
    rw (take_all c.loop-cable.cable-index c.args.cables.now (omega arith)) at c.loop-cable.invariant.0

pub returns-clause-script : goal.returns-clause-script
returns-clause-script g c =
    rw (take_all c.loop-cable.cable-index c.args.cables.now (omega arith)) at c.loop-cable.invariant.2
