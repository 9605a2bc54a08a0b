use Rattle.std.proofs.Common.{[], ◌∷◌, ◌∙◌, sym}
use Rattle.relay_message.specs.Messages.{added}
use Rattle.relay_core.specs.Answers.{changes_by, chosen_by, judged_by, news_by, placed_by, refused_by, taken_by}
use Rattle.relay_core.specs.Line.{Gots}
use Rattle.relay_core.specs.declared.call.Call.TheVariants as made
use Rattle.relay_core.proofs.AnswersAlike.{AreAlike-more, by-one, news-listed, option-listed}
use Rattle.relay_core.proofs.laws.bits_are_answered_alike.Goals as goal

pub returns-clause-frame : goal.returns-clause-frame
returns-clause-frame c =
    let alike = c.requires.alike in
    option-listed c.bits.result.frame c.bits-2.result.frame
    (sym ((c.bits.ensures.answer alike.log alike.one_stands).frame)
    ∙ by-one c.args.one.now c.args.other.now (λ f me. added (Gots f c.args.peer) alike.log (made.Bits c.args.now c.args.peer c.args.chunk.now ∷ [])) alike
    ∙ (c.bits-2.ensures.answer alike.log alike.other_stands).frame)

pub returns-clause-news : goal.returns-clause-news
returns-clause-news c =
    let alike = c.requires.alike in
    news-listed c.bits.result.news c.bits-2.result.news
    (sym ((c.bits.ensures.answer alike.log alike.one_stands).news)
    ∙ by-one c.args.one.now c.args.other.now (λ f me. news_by f me c.args.peer alike.log (made.Bits c.args.now c.args.peer c.args.chunk.now)) alike
    ∙ (c.bits-2.ensures.answer alike.log alike.other_stands).news)

pub returns-clause-refused : goal.returns-clause-refused
returns-clause-refused c =
    let alike = c.requires.alike in
    (c.bits.ensures.answer alike.log alike.one_stands).refused
    ∙ by-one c.args.one.now c.args.other.now (λ f me. refused_by f c.args.peer alike.log (made.Bits c.args.now c.args.peer c.args.chunk.now)) alike
    ∙ sym ((c.bits-2.ensures.answer alike.log alike.other_stands).refused)

pub returns-clause-taken : goal.returns-clause-taken
returns-clause-taken c =
    let alike = c.requires.alike in
    option-listed c.bits.result.taken c.bits-2.result.taken
    (sym ((c.bits.ensures.answer alike.log alike.one_stands).taken)
    ∙ by-one c.args.one.now c.args.other.now (λ f me. taken_by f me c.args.peer alike.log (made.Bits c.args.now c.args.peer c.args.chunk.now)) alike
    ∙ (c.bits-2.ensures.answer alike.log alike.other_stands).taken)

pub returns-clause-chosen : goal.returns-clause-chosen
returns-clause-chosen c =
    let alike = c.requires.alike in
    option-listed c.bits.result.chosen c.bits-2.result.chosen
    (sym ((c.bits.ensures.answer alike.log alike.one_stands).chosen)
    ∙ by-one c.args.one.now c.args.other.now (λ f me. chosen_by f me c.args.peer alike.log (made.Bits c.args.now c.args.peer c.args.chunk.now)) alike
    ∙ (c.bits-2.ensures.answer alike.log alike.other_stands).chosen)

pub returns-clause-placed : goal.returns-clause-placed
returns-clause-placed c =
    let alike = c.requires.alike in
    option-listed c.bits.result.placed c.bits-2.result.placed
    (sym ((c.bits.ensures.answer alike.log alike.one_stands).placed)
    ∙ by-one c.args.one.now c.args.other.now (λ f me. placed_by f me c.args.peer alike.log (made.Bits c.args.now c.args.peer c.args.chunk.now)) alike
    ∙ (c.bits-2.ensures.answer alike.log alike.other_stands).placed)

pub returns-clause-judged : goal.returns-clause-judged
returns-clause-judged c =
    let alike = c.requires.alike in
    option-listed c.bits.result.judged c.bits-2.result.judged
    (sym ((c.bits.ensures.answer alike.log alike.one_stands).judged)
    ∙ by-one c.args.one.now c.args.other.now (λ f me. judged_by f me alike.log (made.Bits c.args.now c.args.peer c.args.chunk.now)) alike
    ∙ (c.bits-2.ensures.answer alike.log alike.other_stands).judged)

pub returns-clause-changes : goal.returns-clause-changes
returns-clause-changes c =
    let alike = c.requires.alike in
    (c.bits.ensures.answer alike.log alike.one_stands).changes
    ∙ by-one c.args.one.now c.args.other.now (λ f me. changes_by f me alike.log (made.Bits c.args.now c.args.peer c.args.chunk.now)) alike
    ∙ sym ((c.bits-2.ensures.answer alike.log alike.other_stands).changes)

pub returns-clause-alike : goal.returns-clause-alike
returns-clause-alike c =
    let alike = c.requires.alike in
    AreAlike-more c.args.one.now c.args.other.now c.bits.new.self c.bits-2.new.self (made.Bits c.args.now c.args.peer c.args.chunk.now) alike c.bits.ensures.settings c.bits-2.ensures.settings
    (c.bits.ensures.stands alike.log alike.one_stands) (c.bits-2.ensures.stands alike.log alike.other_stands)
