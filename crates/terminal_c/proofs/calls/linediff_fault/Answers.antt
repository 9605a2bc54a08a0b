-- The terminal stands for the log with this fault.
use Rattle.std.proofs.Common.{◌∷◌, [], ℕ, ap, sym, ◌∙◌, Some}
use Rattle.relay_core.specs.StandsFor.{Kept}
use Rattle.relay_core.specs.declared.call.Call.TheVariants as made
use Rattle.terminal_c.proofs.Standing.{goes_on}
use Rattle.terminal_c.proofs.calls.linediff_fault.Goals as goal

pub returns-clause-stands : goal.returns-clause-stands
returns-clause-stands c = λ f me log done s.
    goes_on c.args.terminal.now c.put.new.self c.deref_mut.result.now c.fault.new.self (c.in-Ok.call.0, c.in-Ok.call.1) (c.args.now, c.args.peer)
    (λ (z : ℕ × ℕ). made.Fault z.0 z.1 ∷ [])
    (c.take-taken.ensures.terminal ∙ ap (λ (t : Kept). Some t) (sym c.deref_mut.ensures.value)) c.put.ensures
    (λ i. (c.in-Ok.ensures.0 i, c.in-Ok.ensures.1 i)) c.fault.ensures.settings c.fault.ensures.stands f me log s
