use Rattle.std.proofs.Common.{◌∙◌, map, sym}
use Rattle.relay_core.specs.Answers.{changes_by, outgo_by}
use Rattle.relay_core.specs.Log.{peers}
use Rattle.relay_core.specs.declared.call.Call.TheVariants as made
use Rattle.relay_core.proofs.AnswersAlike.{AreAlike-more, by-one}
use Rattle.relay_core.proofs.laws.slots_are_answered_alike.Goals as goal

pub returns-clause-frames : goal.returns-clause-frames
returns-clause-frames c =
    let alike = c.requires in
    (c.slot.ensures.answer alike.log alike.one_stands).frames
    ∙ by-one c.args.one.now c.args.other.now (λ f me. map (outgo_by f me alike.log (made.Slot c.args.now)) (peers f me)) alike
    ∙ sym ((c.slot-2.ensures.answer alike.log alike.other_stands).frames)

pub returns-clause-changes : goal.returns-clause-changes
returns-clause-changes c =
    let alike = c.requires in
    (c.slot.ensures.answer alike.log alike.one_stands).changes
    ∙ by-one c.args.one.now c.args.other.now (λ f me. changes_by f me alike.log (made.Slot c.args.now)) alike
    ∙ sym ((c.slot-2.ensures.answer alike.log alike.other_stands).changes)

pub returns-clause-alike : goal.returns-clause-alike
returns-clause-alike c =
    let alike = c.requires in
    AreAlike-more c.args.one.now c.args.other.now c.slot.new.self c.slot-2.new.self (made.Slot c.args.now) alike c.slot.ensures.settings c.slot-2.ensures.settings
    (c.slot.ensures.stands alike.log alike.one_stands) (c.slot-2.ensures.stands alike.log alike.other_stands)
