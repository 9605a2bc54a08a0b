use Rattle.std.specs.Prelude.{ℕ, ◌≡◌, ◌++◌, ◌∷◌, [], List}
use Rattle.std.proofs.Common.{refl, ap, ◌∙◌, subst}
use Rattle.circular_buffer.specs.Buffer.{Buffer, keep_last}
use Rattle.ld_base.specs.declared.phases.SampleSet.{SampleSet}
use Rattle.trip_logic.specs.Progress.{Progress, StandsFor}
use Rattle.trip_logic.specs.TripAt.{is_outside, verdicts}
use Rattle.trip_logic.proofs.Judged.{judged_push}
use Rattle.trip_logic.proofs.Outs.{verdict_by-push}
use Rattle.trip_logic.proofs.trip.Trip.judge.Goals as goal
use Rattle.trip_logic.proofs.trip.Trip.judge.Goals.{After-verdicts_of}

-- what the rule stands for after the set, and its verdicts
after : (c : After-verdicts_of) (judged : List SampleSet) → StandsFor c.args.self.now judged
    → StandsFor (record { settings = c.self.inside.settings; window = c.push_uncounted.new.kept; runs = c.runs_after-self-inside.result; recent = c.push_back.new.self.items })
    (judged ++ c.args.set.now ∷ [])
    × (c.verdicts_of.result ≡ verdicts c.self.inside.settings (judged ++ c.args.set.now ∷ []) c.args.set.now.number)
after c judged stands =
    let old : Progress = record { settings = c.self.inside.settings; window = c.self.inside.window; runs = c.self.inside.runs; recent = c.self.inside.recent.items } in
    let new : Progress = record { settings = c.self.inside.settings; window = c.push_uncounted.new.kept; runs = c.runs_after-self-inside.result; recent = c.push_back.new.self.items } in
    let held = rw (← c.self.view_is) at stands in
    let later = rw (← c.self.view_is) at c.requires in
    let same = c.fields-fields.ensures.same in
    let kept = c.push_uncounted.ensures.stands judged held.window in
    let recent = ap (λ (b : Buffer SampleSet). b.items) c.push_back.ensures.items ∙ ap (λ most. keep_last most (c.self.inside.recent.items ++ c.args.set.now ∷ [])) c.self.invariant.2 in
    let now = judged_push old new judged c.args.set.now c.sums.result c.phases_outside-outside.result held
    (rw same at c.fields-fields.ensures.in_range) later refl (c.push_uncounted.ensures.cycle ∙ c.self.invariant.1) c.push_uncounted.ensures.next kept recent
    (c.sums.ensures.sums (judged ++ c.args.set.now ∷ []) kept) (rw same at c.phases_outside-outside.ensures)
    (rw same at c.runs_after-self-inside.ensures) in
    (now.0, rw same at c.verdicts_of.ensures ∙ now.1)

pub returns-clause-stands : goal.returns-clause-stands
returns-clause-stands c = λ judged stands. (after c judged stands).0

pub returns-clause-verdicts : goal.returns-clause-verdicts
returns-clause-verdicts c = λ judged stands.
    let set = c.args.set.now in
    subst (λ (t : Progress). c.verdicts_of.result ≡ verdicts t.settings (judged ++ set ∷ []) set.number) c.self.view_is (after c judged stands).1

pub returns-clause-earlier : goal.returns-clause-earlier
returns-clause-earlier c = λ judged n below.
    let f = c.args.self.now.settings in
    let same = λ (phase : ℕ). verdict_by-push (is_outside f phase) f.cycle f.count judged c.args.set.now n below in
    rw (same 0, same 1, same 2) refl
