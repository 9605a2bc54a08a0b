use Rattle.std.proofs.Common.{Bool, rules, sym, ◌∙◌, ap}
use Rattle.std.proofs.lemmas.List.{get_or_default}
use Rattle.std.proofs.lemmas.List.Sorted.{answers_always}
use Rattle.line_journal.specs.Crossings.{is_same}
use Rattle.line_journal.specs.declared.crossing.Beginning.{Beginning}
use Rattle.line_journal.proofs.Beginnings.{found-at, missed-at, missed}
use Rattle.line_journal.proofs.line_history.find.Goals as goal
use Rattle.line_journal.proofs.line_history.find.Goals.{in_default-via-in-Ok+else-is_same, in_default-via-in_default}

pub returns-in-Ok : goal.returns-in-Ok
returns-in-Ok c rising =
    let equal = c.in-Ok.ensures.position (λ b. b.message.number) (answers_always _ _ _ (λ f a r g called. search rules)) in
    let says : Beginning → Bool = λ b. is_same c.args.message.now b.message in
    let again = c.index-begun-place-in-Ok.is ∙ get_or_default c.args.begun.now c.in-Ok.place c.index-begun-place-in-Ok.result c.index-begun-place.result c.in-Ok.ensures.bound in
    sym (found-at c.args.message.now c.args.begun.now rising c.message.inside.number (ap (λ m. m.number) c.message.view_is) c.in-Ok.place c.index-begun-place-in-Ok.result
    c.in-Ok.ensures.bound equal c.index-begun-place-in-Ok.is (ap says again ∙ sym c.is_same.ensures ∙ c.if-is_same.true))

pub returns-in_default : goal.returns-in_default
returns-in_default c rising = elim c.in_default.branch [
  | in_default-via-in-Ok+else-is_same w ↦
      let equal = w.in-Ok.ensures.position (λ b. b.message.number) (answers_always _ _ _ (λ f a r g called. search rules)) in
      sym (missed-at c.args.message.now c.args.begun.now rising c.message.inside.number (ap (λ m. m.number) c.message.view_is) w.in-Ok.place w.index-begun-place.result
      w.in-Ok.ensures.bound equal w.index-begun-place.is (ap (λ b. is_same c.args.message.now b.message) w.index-begun-place.is ∙ sym w.is_same.ensures ∙ w.if-is_same.false))
  | in_default-via-in_default w ↦
      sym (missed c.args.message.now c.args.begun.now rising c.message.inside.number (ap (λ m. m.number) c.message.view_is) w.in_default.field-0
      (w.in_default.ensures.position (λ b. b.message.number) (answers_always _ _ _ (λ f a r g called. search rules))))
]
