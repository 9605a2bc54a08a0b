-- A message that begins with an entry: that of the newest own sample, with the echo of the last message accepted.
use Rattle.std.specs.Prelude.{Contains, not, option_map}
use Rattle.std.proofs.Common.{◌≡◌, ℕ, Bool, true, false, cond, List, [], ◌∷◌, ◌++◌, Option, None, Some, refl, ap, subst, ◌∙◌, append-nil}
use Rattle.std.proofs.lemmas.List.Elements.{filter_map-append}
use Rattle.ld_base.specs.Message.{Contents}
use Rattle.ld_base.specs.declared.fields.Fields.{Fields}
use Rattle.pingpong.specs.declared.journal.Entry.{Entry}
use Rattle.payload_map.specs.Sent.{Slot}
use Rattle.relay_message.specs.Messages.{added}
use Rattle.sample_store.specs.declared.ring.Numbered.{Numbered}
use Rattle.relay_core.specs.Accepted.{Accepted, last_of}
use Rattle.relay_core.specs.Decided.{Newest}
use Rattle.relay_core.specs.Line.{is_locked_from}
use Rattle.relay_core.specs.Log.{now}
use Rattle.relay_core.specs.declared.call.Call.{Call}
use Rattle.relay_core.specs.declared.call.Call.TheVariants as made
use Rattle.relay_core.specs.Sent.{Begun, Slots, begins, begun_in, can_begin, echo_of, message_of, ready, slot_by}
use Rattle.relay_core.proofs.Calls.{Slots-push, added-is, added-none}
use Rattle.line_journal.specs.Crossings.{begun_with}
use Rattle.relay_core.specs.StationLog.{StationLog}
use Rattle.true_time.proofs.Alongs.{IsGrowing, along-grows, filter_map-grows, then-grows}
use Rattle.true_time.proofs.Elements.{none-in, one-in}
use Rattle.true_time.proofs.Places.{Handed, IsHanded, handed}
use Rattle.true_time.proofs.Places.Handed.{quiet, handing}

pub Begun-grows : (f : Fields) (me peer : ℕ) → IsGrowing (Begun f me peer)
Begun-grows f me peer = then-grows begun_in (Slots f me peer) (filter_map-grows (λ slot. slot.loaded)) (along-grows (λ before slots call. slot_by f me peer before slots call))

-- the message that begins with a call
pub record IsBegun (f : Fields) (me peer : ℕ) (log : List Call) (call : Call) (m : Contents) : Type 0 where
  pub at : ℕ
  pub sample : Numbered
  pub slot : call ≡ made.Slot at
  pub newest : Newest f me log ≡ Some sample
  pub is : m ≡ message_of me peer (now (log ++ call ∷ [])) (echo_of (last_of (Accepted f me peer log))) sample

begun-added : (f : Fields) (me peer : ℕ) (log : List Call) (call : Call) → added (Begun f me peer) log (call ∷ []) ≡ begun_in (slot_by f me peer log (Slots f me peer log) call)
begun-added f me peer log call =
    added-is (Begun f me peer) log (call ∷ []) _
    (ap begun_in (Slots-push f me peer log call) ∙ filter_map-append (λ slot. slot.loaded) (Slots f me peer log) (slot_by f me peer log (Slots f me peer log) call))

begins-is : (channels : ℕ) (slots : List (Slot Contents)) (ready : Option Contents) (m : Contents) → begins channels slots ready ≡ Some m → ready ≡ Some m
begins-is channels slots None m is = absurd (cc)
begins-is channels slots (Some x) m is = go (can_begin channels slots x.number) is
  where
    go : (b : Bool) → cond b (Some x) None ≡ Some m → Some x ≡ Some m
    go true is = is
    go false is = absurd (cc)

loaded-in : (o : Option Contents) (yellow : Bool) (m : Contents) → Contains (begun_in (record { loaded = o; yellow = yellow } ∷ [])) m → o ≡ Some m
loaded-in None yellow m has = absurd (none-in m has)
loaded-in (Some x) yellow m has = ap (λ y. Some y) (one-in x m has)

pub begun-is : (f : Fields) (me peer : ℕ) (log : List Call) (call : Call) (m : Contents) → Contains (added (Begun f me peer) log (call ∷ [])) m → IsBegun f me peer log call m
begun-is f me peer log call m has = go call (subst (λ ms. Contains ms m) (begun-added f me peer log call) has)
  where
    of-slot : (at : ℕ) (newest : Option Numbered) → Newest f me log ≡ newest
        → option_map (message_of me peer (now (log ++ made.Slot at ∷ [])) (echo_of (last_of (Accepted f me peer log)))) newest ≡ Some m → IsBegun f me peer log (made.Slot at) m
    of-slot at None newest ready = absurd (cc)
    of-slot at (Some sample) newest ready = record { at = at; sample = sample; slot = refl; newest = newest; is = (let same = ready in cc) }

    go : (call : Call) → Contains (begun_in (slot_by f me peer log (Slots f me peer log) call)) m → IsBegun f me peer log call m
    go (made.Sample at values) has = absurd (none-in m has)
    go (made.Bits at from bits) has = absurd (none-in m has)
    go (made.Fault at from) has = absurd (none-in m has)
    go (made.Slot at) has =
        let loaded = loaded-in (begins f.channels (Slots f me peer log) (ready f me peer log (now (log ++ made.Slot at ∷ [])))) (not (is_locked_from f peer log)) m has in
        let is_ready = begins-is f.channels (Slots f me peer log) (ready f me peer log (now (log ++ made.Slot at ∷ []))) m loaded in
        of-slot at (Newest f me log) refl is_ready

-- and with an entry of a journal
pub began-is : (f : Fields) (from to : ℕ) (before : List Entry) (entry : Entry) (m : Contents) → Contains (begun_with f from to before entry) m
    → (call : Call) × IsHanded from entry call × IsBegun f from to (StationLog from before) call m
began-is f from to before entry m has = go (handed from entry)
  where
    no_more : added (Begun f from to) (StationLog from before) [] ≡ []
    no_more = added-none (Begun f from to) (StationLog from before) [] (ap (Begun f from to) (append-nil (StationLog from before)))

    go : Handed from entry → (call : Call) × IsHanded from entry call × IsBegun f from to (StationLog from before) call m
    go (quiet nothing) = absurd (none-in m (subst (λ ms. Contains ms m) (ap (added (Begun f from to) (StationLog from before)) nothing ∙ no_more) has))
    go (handing call is) = (call, is, begun-is f from to (StationLog from before) call m (subst (λ calls. Contains (added (Begun f from to) (StationLog from before) calls) m) is.calls has))
