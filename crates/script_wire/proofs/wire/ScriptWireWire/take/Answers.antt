use Rattle.std.proofs.Common.{◌≡◌, List, true, ap, sym, ◌∙◌}
use Rattle.ld_base.specs.Script.{take_fails}
use Rattle.ld_base.specs.declared.rule.Rule.{Rule}
use Rattle.script_wire.specs.Wires.{Scripted}
use Rattle.script_wire.proofs.NextTicks.{none_fails}
use Rattle.script_wire.proofs.wire.ScriptWireWire.take.Goals as goal

pub returns-then-take_fails-clause-quiet : goal.returns-then-take_fails-clause-quiet
returns-then-take_fails-clause-quiet c =
    let fails : take_fails c.args.self.now.script.rules c.args.at ≡ true =
    ap (λ (wire : Scripted). take_fails wire.script.rules c.args.at) (sym c.self.view_is)
    ∙ ap (λ (rules : List Rule). take_fails rules c.args.at) (sym c.go_to.ensures.rules)
    ∙ sym (c.take_fails.ensures c.args.at c.go_to.ensures.from c.go_to.ensures.to) ∙ c.if-take_fails.true in
    λ from h before. let none = none_fails c.args.self.now.script from c.args.at h before in cc
