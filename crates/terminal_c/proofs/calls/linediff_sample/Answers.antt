-- The terminal's answer is told, and it stands for the log with this sample.
use Rattle.std.proofs.Common.{◌≡◌, ◌∷◌, [], ℕ, ℤ, ap, sym, subst, ◌∙◌, Some, to_z, of_z, w16, SFits}
use Rattle.std.proofs.Math.Facts.{to_z-of_z}
use Rattle.ld_base.specs.declared.fields.Fields.{Fields}
use Rattle.ld_base.specs.declared.phases.Phases.{Phases}
use Rattle.relay_core.specs.StandsFor.{Kept}
use Rattle.relay_core.specs.declared.call.Call.TheVariants as made
use Rattle.terminal_c.specs.Answers.{TellsSample}
use Rattle.terminal_c.specs.Told.{own_of, TellsJudged, TellsChanges}
use Rattle.terminal_c.proofs.Standing.{goes_on, same}
use Rattle.terminal_c.proofs.calls.linediff_sample.Goals as goal

-- phases are read as they were written
read_back : (a b c : ℤ) → SFits w16 a → SFits w16 b → SFits w16 c
    → let there : Phases = record { a = to_z w16 (of_z w16 a); b = to_z w16 (of_z w16 b); c = to_z w16 (of_z w16 c) } in there ≡ record { a = a; b = b; c = c }
read_back a b c fa fb fc = λ i. record { a = to_z-of_z fa i; b = to_z-of_z fb i; c = to_z-of_z fc i }

pub returns-clause-tells : goal.returns-clause-tells
returns-clause-tells c = λ f me log done s.
    let told = c.tell_sampled.new.told in let tells = c.tell_sampled.ensures in
    let k = same c.args.terminal.now c.deref_mut.result.now f me log (c.take-taken.ensures.terminal ∙ ap (λ (t : Kept). Some t) (sym c.deref_mut.ensures.value)) s in
    let answer = c.sample.ensures.answer log k.2 in
    subst (λ (z : Fields × ℕ × ℕ × Phases). TellsSample z.0 z.1 log (made.Sample z.2 z.3) told) (λ i. (
      k.0 i,
      k.1 i,
      c.in-Ok.ensures.0 i,
      (c.phases_of-phases.ensures ∙ read_back c.args.a c.args.b c.args.c (record { sfits = c.ranges.a.sfits }) (record { sfits = c.ranges.b.sfits }) (record { sfits = c.ranges.c.sfits })) i,
    ))
    (record {
      own = tells.own ∙ ap own_of answer.own;
      judged = subst (TellsJudged told.judged) (sym answer.judged) tells.judged;
      changes = subst (TellsChanges told.changes) answer.changes tells.changes;
    })

pub returns-clause-stands : goal.returns-clause-stands
returns-clause-stands c = λ f me log done s.
    goes_on c.args.terminal.now c.put.new.self c.deref_mut.result.now c.sample.new.self (c.in-Ok.stamp, c.phases_of-phases.result) (
      c.args.now,
      record { a = c.args.a; b = c.args.b; c = c.args.c },
    )
    (λ (z : ℕ × Phases). made.Sample z.0 z.1 ∷ []) (c.take-taken.ensures.terminal ∙ ap (λ (t : Kept). Some t) (sym c.deref_mut.ensures.value)) c.put.ensures
    (λ i. (c.in-Ok.ensures.0 i, (c.phases_of-phases.ensures ∙ read_back c.args.a c.args.b c.args.c (record { sfits = c.ranges.a.sfits }) (record { sfits = c.ranges.b.sfits }) (record { sfits = c.ranges.c.sfits })) i)) c.sample.ensures.settings c.sample.ensures.stands f me log s
