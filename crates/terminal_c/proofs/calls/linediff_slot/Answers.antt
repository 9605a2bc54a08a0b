-- The terminal stands for the log with this slot.
use Rattle.std.proofs.Common.{◌∷◌, [], ℕ, ap, sym, ◌∙◌, Some}
use Rattle.relay_core.specs.StandsFor.{Kept}
use Rattle.relay_core.specs.declared.call.Call.TheVariants as made
use Rattle.terminal_c.proofs.Standing.{goes_on}
use Rattle.terminal_c.proofs.calls.linediff_slot.Goals as goal

pub returns-clause-stands : goal.returns-clause-stands
returns-clause-stands c = λ f me log done s.
    goes_on c.args.terminal.now c.put.new.self c.deref_mut.result.now c.slot.new.self c.in-Ok.stamp c.args.now (λ (at : ℕ). made.Slot at ∷ [])
    (c.take-taken.ensures.terminal ∙ ap (λ (t : Kept). Some t) (sym c.deref_mut.ensures.value)) c.put.ensures c.in-Ok.ensures.0 c.slot.ensures.settings c.slot.ensures.stands f me log s
