use Rattle.std.proofs.Common.{◌≡◌, ℕ, ℤ, Option, ◌∙◌, FitsSigned, ap, arith, option_map, rules, to_z-of_z}
use Rattle.std.proofs.lemmas.Int.{fits_signed_from_abs}
use mir.Syntax.{w64}
use Rattle.ld_base.specs.declared.fields.Fields.{Fields}
use Rattle.line_journal.specs.Report.{bound_of}
use Rattle.line_journal.specs.Told.{legs_kept}
use Rattle.line_journal.specs.declared.line.Line.{Line}
use Rattle.line_journal.specs.declared.line.Line.TheVariants as line
use Rattle.line_journal.proofs.account.est_line.Goals as goal

alike : (time me peer : ℕ) {e e' r r' : ℤ} {error error' : ℕ} {b b' : Option ℕ} → e ≡ e' → r ≡ r' → error ≡ error' → b ≡ b'
    → ◌≡◌ {A = Line} (line.Est time me peer e r error b) (line.Est time me peer e' r' error' b')
alike time me peer estimate trip error bound = cc

pub returns : goal.returns
returns c what =
    let fits : FitsSigned w64 c.round_trip.result = search rules in
    alike c.args.now.now.tick c.args.me c.args.peer
    (to_z-of_z (fits_signed_from_abs w64 c.estimate2.result (omega (arith, c.estimate2.ensures.size))) ∙ c.estimate2.ensures.estimate)
    (to_z-of_z fits ∙ c.round_trip.ensures)
    (c.error_of.ensures what)
    (c.bound_with-bound.ensures
    ∙ ap (option_map (bound_of c.fields.result.drift c.args.now.now.tick)) c.legs_kept.ensures
    ∙ ap (λ (f : Fields). option_map (bound_of f.drift c.args.now.now.tick) (legs_kept c.args.history.now c.args.chosen.now)) c.fields.ensures.same)
