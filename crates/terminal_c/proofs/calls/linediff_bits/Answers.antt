-- The terminal's answer is told, and it stands for the log with these bits.
use Rattle.std.proofs.Common.{◌∷◌, [], ℕ, List, ap, sym, subst, ◌∙◌, Some}
use Rattle.ld_base.specs.Bits.{line_bits}
use Rattle.ld_base.specs.declared.fields.Fields.{Fields}
use Rattle.relay_core.specs.StandsFor.{Kept}
use Rattle.relay_core.specs.declared.call.Call.TheVariants as made
use Rattle.terminal_c.specs.Answers.{TellsBits}
use Rattle.terminal_c.specs.Told.{fault_of, placed_of, taken_number, TellsChanges, TellsExchange, TellsFrame, TellsJudged, TellsNews}
use Rattle.terminal_c.proofs.Standing.{goes_on, same}
use Rattle.terminal_c.proofs.calls.linediff_bits.Goals as goal

pub returns-clause-tells : goal.returns-clause-tells
returns-clause-tells c = λ f me log done s.
    let told = c.tell_heard.new.told in let tells = c.tell_heard.ensures in
    let k = same c.args.terminal.now c.deref_mut.result.now f me log (c.take-taken.ensures.terminal ∙ ap (λ (t : Kept). Some t) (sym c.deref_mut.ensures.value)) s in
    let answer = c.bits.ensures.answer log k.2 in
    subst (λ (z : Fields × ℕ × ℕ × ℕ × List ℕ). TellsBits z.0 z.1 z.3 log (made.Bits z.2 z.3 z.4) told)
    (λ i. (k.0 i, k.1 i, c.in-Ok.ensures.0 i, c.in-Ok.ensures.1 i, c.in-Ok.ensures.2 i))
    (record {
      frame = subst (TellsFrame told.frame) (sym answer.frame) tells.frame;
      news = subst (TellsNews told.news) (sym answer.news) tells.news;
      refused = tells.refused ∙ ap fault_of answer.refused;
      taken = tells.taken ∙ ap taken_number (sym answer.taken);
      chosen = subst (TellsExchange told.chosen) (sym answer.chosen) tells.chosen;
      placed = tells.placed ∙ ap placed_of (sym answer.placed);
      judged = subst (TellsJudged told.judged) (sym answer.judged) tells.judged;
      changes = subst (TellsChanges told.changes) answer.changes tells.changes;
    })

pub returns-clause-stands : goal.returns-clause-stands
returns-clause-stands c = λ f me log done s.
    goes_on c.args.terminal.now c.put.new.self c.deref_mut.result.now c.bits.new.self (c.in-Ok.call.0, c.in-Ok.call.1, c.in-Ok.call.2)
    (c.args.now, c.args.peer, line_bits c.args.bits.now.count c.args.bits.now.bytes) (λ (z : ℕ × ℕ × List ℕ). made.Bits z.0 z.1 z.2 ∷ [])
    (c.take-taken.ensures.terminal ∙ ap (λ (t : Kept). Some t) (sym c.deref_mut.ensures.value)) c.put.ensures
    (λ i. (c.in-Ok.ensures.0 i, c.in-Ok.ensures.1 i, c.in-Ok.ensures.2 i)) c.bits.ensures.settings c.bits.ensures.stands f me log s
