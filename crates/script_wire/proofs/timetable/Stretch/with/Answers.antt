use Rattle.std.proofs.Common.{◌≡◌, ◌++◌, ◌∷◌, [], Bool, true, false, if◌then◌else◌, arith, sym, subst}
use Rattle.std.proofs.lemmas.Bool.Decides.{nat_tests}
use Rattle.ld_base.specs.Script.{covers}
use Rattle.script_wire.specs.Wires.{Stays}
use Rattle.script_wire.proofs.timetable.Stretch.with.Goals as goal

pub returns-then-at-rule-clause-stays : goal.returns-then-at-rule-clause-stays
returns-then-at-rule-clause-stays c =
    let not : covers c.args.at c.args.rule.now ≡ false = grind (arith, nat_tests) in
    λ rules acts h. subst (λ (b : Bool). Stays (rules ++ c.args.rule.now ∷ []) (if b then acts ++ c.args.rule.now.act ∷ [] else acts)
    c.before-then-at-rule.result.from c.before-then-at-rule.result.to c.before-then-at-rule.result.delay c.before-then-at-rule.result.failing)
    (sym not) (c.before-then-at-rule.ensures.stays rules acts h)

pub returns-then-at-rule-2-clause-stays : goal.returns-then-at-rule-2-clause-stays
returns-then-at-rule-2-clause-stays c =
    let does : covers c.args.at c.args.rule.now ≡ true = grind (arith, nat_tests) in
    λ rules acts h. subst (λ (b : Bool). Stays (rules ++ c.args.rule.now ∷ []) (if b then acts ++ c.args.rule.now.act ∷ [] else acts)
    c.within.result.from c.within.result.to c.within.result.delay c.within.result.failing)
    (sym does) (c.within.ensures.stays rules acts h)

pub returns-else-at-rule-2-clause-stays : goal.returns-else-at-rule-2-clause-stays
returns-else-at-rule-2-clause-stays c =
    let not : covers c.args.at c.args.rule.now ≡ false = grind (arith, nat_tests) in
    λ rules acts h. subst (λ (b : Bool). Stays (rules ++ c.args.rule.now ∷ []) (if b then acts ++ c.args.rule.now.act ∷ [] else acts)
    c.after.result.from c.after.result.to c.after.result.delay c.after.result.failing)
    (sym not) (c.after.ensures.stays rules acts h)
