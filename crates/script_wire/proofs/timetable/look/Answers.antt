use Rattle.std.proofs.Common.{◌≡◌, ◌+◌, ◌++◌, ◌∷◌, [], List, take, ap, sym, ◌∙◌, subst, arith}
use Rattle.std.proofs.lemmas.List.{take_more}
use Rattle.ld_base.specs.declared.rule.Act.{Act}
use Rattle.ld_base.specs.declared.rule.Rule.{Rule}
use Rattle.script_wire.specs.Wires.{Stays}
use Rattle.script_wire.proofs.timetable.look.Goals as goal

pub loop-rule-preserved : goal.loop-rule-preserved
loop-rule-preserved c =
    let more : take c.loop-rule.rule-index c.args.rules.now ++ c.rule-item.result ∷ [] ≡ take (c.loop-rule.rule-index + 1) c.args.rules.now =
    sym (take_more c.args.rules.now c.loop-rule.rule-index c.rule-item.result c.loop-rule-test.true
    ∙ ap (λ (rule : Rule). take c.loop-rule.rule-index c.args.rules.now ++ rule ∷ []) (sym c.rule-item.is)) in
    record {
      here = c.with-stretch.ensures.here;
      stays = subst (λ (rules : List Rule). Stays rules c.add_covering.new.acts.items
          c.with-stretch.result.from c.with-stretch.result.to c.with-stretch.result.delay c.with-stretch.result.failing) more
          (subst (λ (acts : List Act). Stays (take c.loop-rule.rule-index c.args.rules.now ++ c.rule-item.result ∷ []) acts
          c.with-stretch.result.from c.with-stretch.result.to c.with-stretch.result.delay c.with-stretch.result.failing)
          (sym c.add_covering.ensures.items) (c.with-stretch.ensures.stays _ _ c.loop-rule.invariant.stays));
      few = omega arith;
      room = c.add_covering.ensures.room ∙ c.loop-rule.invariant.room;
    }
