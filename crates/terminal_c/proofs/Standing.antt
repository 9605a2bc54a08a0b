-- A handle whose terminal takes a call stands for the log with that call.
use Rattle.std.proofs.Common.{◌≡◌, ℕ, List, ◌++◌, sym, ◌∙◌, subst, Some, Option, None, ap}
use Rattle.ld_base.specs.declared.fields.Fields.{Fields}
use Rattle.relay_core.specs.declared.call.Call.{Call}
use Rattle.relay_core.specs.StandsFor.{Kept, StandsFor}
use Rattle.terminal_c.specs.Stands.{Stands}
use Rattle.terminal_c.specs.declared.handle.Handle.{Handle}

-- what is there, or else this
there : Kept → Option Kept → Kept
there t None = t
there t (Some other) = other

-- the terminal that a handle holds
pub same : (h : Handle) (t : Kept) (f : Fields) (me : ℕ) (log : List Call) → h.held.terminal ≡ Some t → Stands h f me log
    → (t.settings ≡ f) × (t.me ≡ me) × StandsFor t log
unfolding there
same h t f me log held s =
    let is : s.terminal ≡ t = ap (there t) (sym s.held ∙ held) in
    (sym (ap (λ (k : Kept). k.settings) is) ∙ s.settings, sym (ap (λ (k : Kept). k.me) is) ∙ s.station, subst (λ (k : Kept). StandsFor k log) is s.stands)

pub goes_on : (old new : Handle) (t t' : Kept) {A : Type 0} (x y : A) (more : A → List Call) → old.held.terminal ≡ Some t → new.held.terminal ≡ Some t' → x ≡ y
    → (t'.settings ≡ t.settings) × (t'.me ≡ t.me) → ((log : List Call) → StandsFor t log → StandsFor t' (log ++ more x))
    → (f : Fields) (me : ℕ) (log : List Call) → Stands old f me log → Stands new f me (log ++ more y)
goes_on old new t t' {A} x y more held held' e kept on f me log s =
    let k = same old t f me log held s in
    record { terminal = t'; held = held'; settings = kept.0 ∙ k.0; station = kept.1 ∙ k.1; stands = subst (λ (z : A). StandsFor t' (log ++ more z)) e (on log k.2) }
