-- One call more at the end of a log.
use Rattle.std.proofs.Common.{◌≡◌, ℕ, max, List, [], ◌∷◌, ◌++◌, Some, drop, length, refl, ap, sym, ◌∙◌, append-nil}
use Rattle.std.proofs.Math.Seq.{drop-append_seam}
use Rattle.std.proofs.lemmas.Grind.{flat_map-append}
use Rattle.std.proofs.lemmas.List.Sums.{fold-append}
use Rattle.ld_base.specs.declared.fields.Fields.{Fields}
use Rattle.relay_message.specs.Messages.{added}
use Rattle.sample_store.proofs.Alongs.{along-push}
use Rattle.relay_core.specs.Accepted.{Completed, completed_by}
use Rattle.relay_core.specs.AlarmState.{faulty_after, is_faulty}
use Rattle.relay_core.specs.Line.{Line, bits_from}
use Rattle.relay_core.specs.Log.{clock, now, stamp_of}
use Rattle.relay_core.specs.declared.call.Call.{Call}
use Rattle.relay_core.specs.Sent.{Slots, slot_by}

-- what more elements add, where that is known
pub added-is : {A B : Type 0} (of : List A → List B) (line more : List A) (xs : List B) → of (line ++ more) ≡ of line ++ xs → added of line more ≡ xs
added-is of line more xs is = ap (λ ys. drop (length (of line)) ys) is ∙ drop-append_seam (of line) xs

pub added-none : {A B : Type 0} (of : List A → List B) (line more : List A) → of (line ++ more) ≡ of line → added of line more ≡ []
added-none of line more is = added-is of line more [] (is ∙ sym (append-nil (of line)))

pub now-push : (log : List Call) (call : Call) → now (log ++ call ∷ []) ≡ max (now log) (stamp_of call)
now-push log call = fold-append (λ latest call. max latest (stamp_of call)) 0 log (call ∷ [])

pub clock-push : (log : List Call) (call : Call) → clock (log ++ call ∷ []) ≡ Some (now (log ++ call ∷ []))
clock-push [] call = refl
clock-push (first ∷ log) call = refl

pub Line-push : (peer : ℕ) (log : List Call) (call : Call) → Line peer (log ++ call ∷ []) ≡ Line peer log ++ bits_from peer call
Line-push peer log call = flat_map-append (bits_from peer) log (call ∷ []) ∙ ap (λ bits. Line peer log ++ bits) (append-nil (bits_from peer call))

pub Completed-push : (f : Fields) (peer : ℕ) (log : List Call) (call : Call) → Completed f peer (log ++ call ∷ []) ≡ Completed f peer log ++ completed_by f peer log call
Completed-push f peer log call = along-push (λ before completed call. completed_by f peer before call) log call

pub Slots-push : (f : Fields) (me peer : ℕ) (log : List Call) (call : Call) → Slots f me peer (log ++ call ∷ []) ≡ Slots f me peer log ++ slot_by f me peer log (Slots f me peer log) call
Slots-push f me peer log call = along-push (λ before slots call. slot_by f me peer before slots call) log call

pub is_faulty-push : (peer : ℕ) (log : List Call) (call : Call) → is_faulty peer (log ++ call ∷ []) ≡ faulty_after peer (is_faulty peer log) call
is_faulty-push peer log call = fold-append (faulty_after peer) _ log (call ∷ [])
