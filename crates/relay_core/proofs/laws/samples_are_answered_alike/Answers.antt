use Rattle.std.proofs.Common.{◌∙◌, sym}
use Rattle.relay_core.specs.Answers.{changes_by, judged_by}
use Rattle.relay_core.specs.declared.call.Call.TheVariants as made
use Rattle.relay_core.proofs.AnswersAlike.{AreAlike-more, by-one, option-listed}
use Rattle.relay_core.proofs.laws.samples_are_answered_alike.Goals as goal

pub returns-clause-judged : goal.returns-clause-judged
returns-clause-judged c =
    let alike = c.requires in
    option-listed c.sample.result.judged c.sample-2.result.judged
    (sym ((c.sample.ensures.answer alike.log alike.one_stands).judged)
    ∙ by-one c.args.one.now c.args.other.now (λ f me. judged_by f me alike.log (made.Sample c.args.now c.args.v)) alike
    ∙ (c.sample-2.ensures.answer alike.log alike.other_stands).judged)

pub returns-clause-changes : goal.returns-clause-changes
returns-clause-changes c =
    let alike = c.requires in
    (c.sample.ensures.answer alike.log alike.one_stands).changes
    ∙ by-one c.args.one.now c.args.other.now (λ f me. changes_by f me alike.log (made.Sample c.args.now c.args.v)) alike
    ∙ sym ((c.sample-2.ensures.answer alike.log alike.other_stands).changes)

pub returns-clause-alike : goal.returns-clause-alike
returns-clause-alike c =
    let alike = c.requires in
    AreAlike-more c.args.one.now c.args.other.now c.sample.new.self c.sample-2.new.self (made.Sample c.args.now c.args.v) alike c.sample.ensures.settings c.sample-2.ensures.settings
    (c.sample.ensures.stands alike.log alike.one_stands) (c.sample-2.ensures.stands alike.log alike.other_stands)
