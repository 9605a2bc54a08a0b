use Rattle.std.specs.Prelude.{◌≡◌, ◌++◌, ◌∷◌, [], List}
use Rattle.std.proofs.Common.{◌∙◌, refl, subst}
use Rattle.ld_base.specs.declared.phases.SampleSet.{SampleSet}
use Rattle.trip_logic.proofs.Outs.{verdict_by-push}
use Rattle.sequence_element.specs.Progress.{Progress, StandsFor}
use Rattle.sequence_element.specs.SequenceOut.{is_zero_outside, is_negative_outside, verdicts}
use Rattle.sequence_element.proofs.Judged.{judged_push}
use Rattle.sequence_element.proofs.element.Sequence.judge.Goals as goal
use Rattle.sequence_element.proofs.element.Sequence.judge.Goals.{After-verdicts_of}

-- what the element was before the set, and what it is after
abbrev old_of : After-verdicts_of → Progress
old_of c = record { settings = c.self.inside.settings; zero_pickup = c.self.inside.zero_pickup; negative_pickup = c.self.inside.negative_pickup; window = c.self.inside.window; runs = c.self.inside.runs }

abbrev new_of : After-verdicts_of → Progress
new_of c = record { settings = c.self.inside.settings; zero_pickup = c.self.inside.zero_pickup; negative_pickup = c.self.inside.negative_pickup; window = c.push_uncounted.new.kept; runs = c.runs_after-self-inside.result }

-- what the element stands for after the set, and its verdicts
after : (c : After-verdicts_of) (judged : List SampleSet) → StandsFor c.args.self.now judged
    → StandsFor (new_of c) (judged ++ c.args.set.now ∷ [])
    × (c.verdicts_of.result ≡ verdicts c.self.inside.settings c.self.inside.zero_pickup c.self.inside.negative_pickup (judged ++ c.args.set.now ∷ []) c.args.set.now.number)
after c judged stands =
    let held = rw (← c.self.view_is) at stands in
    let later = rw (← c.self.view_is) at c.requires in
    let same = c.fields-fields.ensures.same in
    let kept = c.push_uncounted.ensures.stands judged held.window in
    let now = judged_push (old_of c) c.push_uncounted.new.kept judged c.args.set.now c.sums-sums.result held
    (rw same at c.fields-fields.ensures.in_range) later (c.push_uncounted.ensures.cycle ∙ c.self.invariant.1) c.push_uncounted.ensures.next kept
    (c.sums-sums.ensures.sums (judged ++ c.args.set.now ∷ []) kept)
    c.sequences_outside-outside.result c.runs_after-self-inside.result
    (rw same at c.sequences_outside-outside.ensures) (rw same at c.runs_after-self-inside.ensures) in
    (now.0, rw same at c.verdicts_of.ensures ∙ now.1)

pub returns-clause-stands : goal.returns-clause-stands
returns-clause-stands c = λ judged stands. (after c judged stands).0

pub returns-clause-verdicts : goal.returns-clause-verdicts
returns-clause-verdicts c = λ judged stands.
    let set = c.args.set.now in
    subst (λ (t : Progress). c.verdicts_of.result ≡ verdicts t.settings t.zero_pickup t.negative_pickup (judged ++ set ∷ []) set.number) c.self.view_is (after c judged stands).1

pub returns-clause-earlier : goal.returns-clause-earlier
returns-clause-earlier c = λ judged n below.
    let f = c.args.self.now.settings in
    rw (
      verdict_by-push (is_zero_outside f c.args.self.now.zero_pickup) f.cycle f.count judged c.args.set.now n below,
      verdict_by-push (is_negative_outside f c.args.self.now.negative_pickup) f.cycle f.count judged c.args.set.now n below,
    ) refl
