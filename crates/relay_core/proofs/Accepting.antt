-- What a call adds to the messages accepted from a peer, and to their exchanges.
use Rattle.std.proofs.Common.{◌≡◌, ℕ, ◌+◌, ◌≤◌, max, Bool, true, false, cond, ◌&&◌, List, [], ◌∷◌, ◌++◌, Option, None, Some, map, refl, ap, sym, ◌∙◌, append-nil, arith}
use Rattle.std.specs.Prelude.{nat_le, filter_map, slice_get}
use Rattle.std.specs.Option.{option_to_list}
use Rattle.std.proofs.lemmas.Bool.{leb-true}
use Rattle.std.proofs.lemmas.List.{reverse-append}
use Rattle.std.proofs.lemmas.List.Elements.{filter_map-append}
use Rattle.ld_base.specs.Message.{Contents}
use Rattle.ld_base.specs.declared.fields.Fields.{Fields}
use Rattle.pingpong.specs.Exchange.{exchange_of}
use Rattle.relay_message.specs.Messages.{added}
use Rattle.sample_store.proofs.Alongs.{along-both, along-push}
use Rattle.relay_core.specs.Accepted.{Accepted, Completed, Exchanges, accepted_among, accepted_of, is_addressed, last_of, next_number}
use Rattle.relay_core.specs.Answers.{number_after}
use Rattle.relay_core.specs.Line.{Line, Messages, messages_on}
use Rattle.relay_core.specs.Log.{now}
use Rattle.relay_core.specs.declared.call.Call.{Call}
use Rattle.relay_core.specs.declared.receipt.Receipt.{Receipt}
use Rattle.relay_core.proofs.Calls.{Completed-push, added-none}

-- one receipt more is the last, and the numbers go on above it
pub last_of-push : (receipts : List Receipt) (r : Receipt) → last_of (receipts ++ r ∷ []) ≡ Some r
last_of-push receipts r = ap (λ rs. slice_get rs 0) (reverse-append receipts (r ∷ []))

pub next_number-push : (receipts : List Receipt) (r : Receipt) → next_number (receipts ++ r ∷ []) ≡ max (next_number receipts) (r.message.number + 1)
next_number-push [] r = omega arith
next_number-push (first ∷ receipts) r = rw (next_number-push receipts r) (omega arith)

-- the numbers of accepted messages rise: the last is the greatest
abbrev Rises : List Receipt → Type 0
Rises accepted = next_number accepted ≡ number_after (last_of accepted)

Rises-push : (accepted : List Receipt) (r : Receipt) → next_number accepted ≤ r.message.number → Rises (accepted ++ r ∷ [])
Rises-push accepted r above = next_number-push accepted r ∙ (omega (arith, above)) ∙ ap number_after (sym (last_of-push accepted r))

Rises-more : (me peer : ℕ) (accepted : List Receipt) (r : Receipt) → Rises accepted → Rises (accepted ++ accepted_of me peer accepted r)
Rises-more me peer accepted r rises = go (is_addressed peer me r.message) (nat_le (next_number accepted) r.message.number) refl
  where
    go : (addressed above : Bool) → nat_le (next_number accepted) r.message.number ≡ above → Rises (accepted ++ cond (addressed && above) (r ∷ []) [])
    go true true is = Rises-push accepted r (leb-true (next_number accepted) r.message.number is)
    go true false is = rw (append-nil accepted) rises
    go false above is = rw (append-nil accepted) rises

pub rising : (me peer : ℕ) (completed : List Receipt) → next_number (accepted_among me peer completed) ≡ number_after (last_of (accepted_among me peer completed))
rising me peer completed =
    along-both (λ before accepted r. accepted_of me peer accepted r) (λ before accepted r. accepted_of me peer accepted r)
    (λ before accepted same. Rises accepted) refl (λ before accepted same r rises. Rises-more me peer accepted r rises) completed

-- the receipt of a message, if it is accepted
abbrev pub accepted_if : ℕ → ℕ → List Receipt → ℕ → Option Contents → List Receipt
accepted_if me peer accepted at None = []
accepted_if me peer accepted at (Some m) = accepted_of me peer accepted (record { message = m; at = at })

pub Accepted-push : (f : Fields) (me peer : ℕ) (log : List Call) (call : Call) (m : Option Contents) → added (Messages f peer) log (call ∷ []) ≡ option_to_list m
    → Accepted f me peer (log ++ call ∷ []) ≡ Accepted f me peer log ++ accepted_if me peer (Accepted f me peer log) (now (log ++ call ∷ [])) m
Accepted-push f me peer log call None is =
    ap (accepted_among me peer) (Completed-push f peer log call
    ∙ ap (λ ms. Completed f peer log ++ map (λ m. record { message = m; at = now (log ++ call ∷ []) }) ms) is
    ∙ append-nil (Completed f peer log))
    ∙ sym (append-nil (Accepted f me peer log))
Accepted-push f me peer log call (Some m) is =
    ap (accepted_among me peer) (Completed-push f peer log call ∙ ap (λ ms. Completed f peer log ++ map (λ m. record { message = m; at = now (log ++ call ∷ []) }) ms) is)
    ∙ along-push (λ before accepted r. accepted_of me peer accepted r) (Completed f peer log) (record { message = m; at = now (log ++ call ∷ []) })

-- no bits of the line, no message
pub Accepted-same : (f : Fields) (me peer : ℕ) (log : List Call) (call : Call) → Line peer (log ++ call ∷ []) ≡ Line peer log
    → Accepted f me peer (log ++ call ∷ []) ≡ Accepted f me peer log
Accepted-same f me peer log call same =
    Accepted-push f me peer log call None (added-none (Messages f peer) log (call ∷ []) (ap (messages_on f) same)) ∙ append-nil (Accepted f me peer log)

pub Exchanges-push : (f : Fields) (me peer : ℕ) (log : List Call) (call : Call) (receipts : List Receipt)
    → Accepted f me peer (log ++ call ∷ []) ≡ Accepted f me peer log ++ receipts
    → Exchanges f me peer (log ++ call ∷ []) ≡ Exchanges f me peer log ++ filter_map (λ r. exchange_of r.message r.at) receipts
Exchanges-push f me peer log call receipts is =
    ap (filter_map (λ r. exchange_of r.message r.at)) is ∙ filter_map-append (λ r. exchange_of r.message r.at) (Accepted f me peer log) receipts
