-- The messages whose last frame has come whole over an undamaged line are those that are accepted.
use Rattle.std.specs.Prelude.{nat_le}
use Rattle.std.specs.List.{cons_option}
use Rattle.std.specs.Option.{ForSome}
use Rattle.std.proofs.Common.{◌≡◌, ℕ, zero, suc, ◌+◌, ◌*◌, ◌≤◌, ◌<◌, Bool, true, false, not, cond, ◌&&◌, List, [], ◌∷◌, ◌++◌, All, Option, None, Some, IsSome, length, map, reverse, slice_get, take, arith, refl, ap, sym, subst, ◌∙◌, append-nil}
use Rattle.std.proofs.lemmas.Bool.{and_parts}
use Rattle.std.proofs.lemmas.List.{map-append, reverse-append}
use Rattle.std.proofs.lemmas.List.Elements.{All-append, All-cons, All-head, All-nil, All-push, All-tail, All-take, All-weaker}
use Rattle.ld_base.specs.Message.{Contents}
use Rattle.ld_base.specs.Settings.{setting_fault}
use Rattle.ld_base.specs.declared.fields.Fields.{Fields}
use Rattle.ld_base.proofs.Accepted.{AreInRange-from_no_fault, words_differ}
use Rattle.bit_sync.proofs.Walks.{from_test, test_le}
use Rattle.relay_message.specs.MessageOf.{spelled}
use Rattle.payload_map.specs.Messages.{CanBeSent, relay_slots}
use Rattle.payload_map.specs.Pieces.{AreRules}
use Rattle.payload_map.specs.Sent.{AreInTurn, Slot, carried, spelled_slot, whole}
use Rattle.payload_map.proofs.Slots.{in_turn-more}
use Rattle.sample_store.proofs.Alongs.{along-both}
use Rattle.relay_core.specs.Accepted.{Accepted, Completed, is_addressed}
use Rattle.relay_core.specs.Calls.{AreCalls, AreStations, IsCall}
use Rattle.relay_core.specs.Line.{Line, messages_on, is_locked_from, rules_of}
use Rattle.relay_core.specs.Log.{now}
use Rattle.relay_core.specs.declared.call.Call.{Call}
use Rattle.relay_core.specs.declared.call.Call.TheVariants as made
use Rattle.relay_core.specs.Sent.{Slots, begins, begun_in, is_free, number_behind, ready, slot_by}
use Rattle.relay_core.specs.declared.receipt.Receipt.{Receipt}
use Rattle.relay_core.proofs.Begun.{AreFit, IsOwn, now-until, ready-own}
use Rattle.relay_core.proofs.Completing.{Completed-messages, accepted_among-all}
use Rattle.relay_core.proofs.Lists.{All-front, Rise, Rise-lower, Rise-push}
use Rattle.relay_core.proofs.Slots.{begun_in-more, unsent-is_free}

-- one more than the numbers of some messages
abbrev above : List Contents → List ℕ
above ms = map (λ m. m.number + 1) ms

-- slots in which a station's own messages begin in turn, and their numbers rise
record AreBegun (f : Fields) (me peer : ℕ) (slots : List (Slot Contents)) : Type 0 where
  turn : AreInTurn f.channels [] (relay_slots slots)
  own : All (λ slot. ForSome slot.loaded (IsOwn me peer)) slots
  rise : Rise 0 (above (begun_in slots))
  last : All (λ n. n ≤ number_behind (slice_get (reverse (begun_in slots)) 0)) (above (begun_in slots))

-- what is known of a message that begins
record CanBegin (f : Fields) (me peer : ℕ) (slots : List (Slot Contents)) (m : Contents) : Type 0 where
  own : IsOwn me peer m
  free : is_free f.channels slots ≡ true
  next : number_behind (slice_get (reverse (begun_in slots)) 0) ≤ m.number

begun-can : (f : Fields) (me peer : ℕ) (slots : List (Slot Contents)) (ready : Option Contents) → ForSome ready (IsOwn me peer)
    → ForSome (begins f.channels slots ready) (CanBegin f me peer slots)
begun-can f me peer slots None own m is = absurd (cc)
begun-can f me peer slots (Some x) own m is =
    let behind = number_behind (slice_get (reverse (begun_in slots)) 0) in
    let test = from_test (is_free f.channels slots && nat_le behind x.number) x m is in
    let both = and_parts (is_free f.channels slots) (nat_le behind x.number) test.0 in
    subst (CanBegin f me peer slots) test.1 (record { own = own x refl; free = both.0; next = test_le behind x.number both.1 })

-- one slot more
turn-more : (f : Fields) (slots : List (Slot Contents)) (slot : Slot Contents) → 1 ≤ f.channels → AreInTurn f.channels [] (relay_slots slots)
    → (IsSome (spelled_slot spelled slot).loaded → is_free f.channels slots ≡ true) → AreInTurn f.channels [] (relay_slots (slots ++ slot ∷ []))
turn-more f slots slot some turn free =
    subst (AreInTurn f.channels []) (sym (map-append (spelled_slot spelled) slots (slot ∷ [])))
    (in_turn-more f.channels [] (relay_slots slots) (spelled_slot spelled slot) turn (λ is. (unsent-is_free f.channels slots some).1 (free is)))

AreBegun-more : (f : Fields) (me peer : ℕ) (slots : List (Slot Contents)) (loaded : Option Contents) (yellow : Bool) → 1 ≤ f.channels
    → ForSome loaded (CanBegin f me peer slots) → AreBegun f me peer slots → AreBegun f me peer (slots ++ record { loaded = loaded; yellow = yellow } ∷ [])
AreBegun-more f me peer slots None yellow some can begun =
    let slot : Slot Contents = record { loaded = None; yellow = yellow } in
    let same : begun_in (slots ++ slot ∷ []) ≡ begun_in slots = begun_in-more slots slot ∙ append-nil (begun_in slots) in
    record {
      turn = turn-more f slots slot some begun.turn (λ is. absurd (cc));
      own = All-push (λ s. ForSome s.loaded (IsOwn me peer)) slots slot begun.own (λ m is. absurd (cc));
      rise = subst (λ ms. Rise 0 (above ms)) (sym same) begun.rise;
      last = subst (λ ms. All (λ n. n ≤ number_behind (slice_get (reverse ms) 0)) (above ms)) (sym same) begun.last;
    }
AreBegun-more f me peer slots (Some m) yellow some can begun =
    let slot : Slot Contents = record { loaded = Some m; yellow = yellow } in
    let behind = number_behind (slice_get (reverse (begun_in slots)) 0) in
    let begins = can m refl in
    let more : begun_in (slots ++ slot ∷ []) ≡ begun_in slots ++ m ∷ [] = begun_in-more slots slot in
    let numbers : above (begun_in slots ++ m ∷ []) ≡ above (begun_in slots) ++ (m.number + 1) ∷ [] = map-append (λ m. m.number + 1) (begun_in slots) (m ∷ []) in
    let newest : m.number + 1 ≡ number_behind (slice_get (reverse (begun_in slots ++ m ∷ [])) 0) =
    ap (λ ms. number_behind (slice_get ms 0)) (sym (reverse-append (begun_in slots) (m ∷ []))) in
    let below : All (λ n. n < m.number + 1) (above (begun_in slots)) =
    All-weaker (λ n. n ≤ behind) (λ n. n < m.number + 1) (λ n low. omega (arith, low, begins.next)) (above (begun_in slots)) begun.last in
    let until : All (λ n. n ≤ m.number + 1) (above (begun_in slots) ++ (m.number + 1) ∷ []) =
    All-push (λ n. n ≤ m.number + 1) (above (begun_in slots)) (m.number + 1)
    (All-weaker (λ n. n < m.number + 1) (λ n. n ≤ m.number + 1) (λ n low. omega (arith, low)) (above (begun_in slots)) below) (omega arith) in
    record {
      turn = turn-more f slots slot some begun.turn (λ is. begins.free);
      own = All-push (λ s. ForSome s.loaded (IsOwn me peer)) slots slot begun.own (λ x is. subst (IsOwn me peer) (cc) begins.own);
      rise = subst (λ ms. Rise 0 (above ms)) (sym more) (subst (Rise 0) (sym numbers) (Rise-push 0 (m.number + 1) (above (begun_in slots)) (omega arith) begun.rise below));
      last = subst (λ ms. All (λ n. n ≤ number_behind (slice_get (reverse ms) 0)) (above ms)) (sym more)
          (subst (λ k. All (λ n. n ≤ k) (above (begun_in slots ++ m ∷ []))) newest (subst (All (λ n. n ≤ m.number + 1)) (sym numbers) until));
    }

AreBegun-none : (f : Fields) (me peer : ℕ) → AreBegun f me peer []
AreBegun-none f me peer = record {
  turn = tt;
  own = All-nil (λ slot. ForSome slot.loaded (IsOwn me peer));
  rise = tt;
  last = All-nil (λ n. n ≤ 0);
}

-- so the slots of a log are such slots
AreBegun-call : (f : Fields) (me peer : ℕ) (before : List Call) (slots : List (Slot Contents)) (call : Call) → AreFit f me peer → AreCalls (before ++ call ∷ [])
    → AreBegun f me peer slots → AreBegun f me peer (slots ++ slot_by f me peer before slots call)
AreBegun-call f me peer before slots (made.Sample at values) fit calls begun = subst (AreBegun f me peer) (sym (append-nil slots)) begun
AreBegun-call f me peer before slots (made.Slot at) fit calls begun =
    let time : ℕ = now (before ++ made.Slot at ∷ []) in
    let own = ready-own f me peer before time fit (All-front IsCall before (made.Slot at ∷ []) calls) (now-until (before ++ made.Slot at ∷ []) calls) in
    AreBegun-more f me peer slots (begins f.channels slots (ready f me peer before time)) (not (is_locked_from f peer before)) fit.channels.0
    (begun-can f me peer slots (ready f me peer before time) own) begun
AreBegun-call f me peer before slots (made.Bits at from bits) fit calls begun = subst (AreBegun f me peer) (sym (append-nil slots)) begun
AreBegun-call f me peer before slots (made.Fault at from) fit calls begun = subst (AreBegun f me peer) (sym (append-nil slots)) begun

Slots-begun : (f : Fields) (me peer : ℕ) (log : List Call) → AreFit f me peer → AreCalls log → AreBegun f me peer (Slots f me peer log)
Slots-begun f me peer log fit =
    along-both (λ before slots call. slot_by f me peer before slots call) (λ before slots call. slot_by f me peer before slots call)
    (λ before slots same. AreCalls before → AreBegun f me peer slots) (λ none. AreBegun-none f me peer)
    (λ before slots same call begun calls. AreBegun-call f me peer before slots call fit calls (begun (All-front IsCall before (call ∷ []) calls))) log

-- the numbers of whole messages rise too
whole-rise : (channels low count : ℕ) (slots : List (Slot Contents)) → Rise low (above (begun_in slots)) → Rise low (above (whole spelled channels (take count slots)))
unfolding whole
whole-rise channels low zero slots rise = tt
whole-rise channels low (suc count) [] rise = tt
whole-rise channels low (suc count) (slot ∷ slots) rise = go slot.loaded (λ least rest. whole-rise channels least count slots rest) rise
  where
    others : List Contents
    others = whole spelled channels (take count slots)

    go : (loaded : Option Contents) → ((least : ℕ) → Rise least (above (begun_in slots)) → Rise least (above others))
        → Rise low (above (cons_option loaded (begun_in slots))) → Rise low (above (carried spelled channels (suc (length (take count slots))) loaded ++ others))
    go None rest rise = rest low rise
    go (Some m) rest rise = kept (nat_le (length (spelled m)) (channels * suc (length (take count slots)))) (rest (m.number + 1) rise.1)
      where
        kept : (b : Bool) → Rise (m.number + 1) (above others) → Rise low (above (cond b (m ∷ []) [] ++ others))
        kept true higher = (rise.0, higher)
        kept false higher = Rise-lower low (m.number + 1) (above others) (omega (arith, rise.0)) higher

-- and they go to the peer
whole-own : (channels : ℕ) (P : Contents → Type 0) (slots : List (Slot Contents)) → All (λ slot. ForSome slot.loaded P) slots → All P (whole spelled channels slots)
unfolding whole
whole-own channels P [] own = All-nil P
whole-own channels P (slot ∷ slots) own =
    All-append P (carried spelled channels (suc (length slots)) slot.loaded) (whole spelled channels slots)
    (go slot.loaded (All-head (λ s. ForSome s.loaded P) slot slots own)) (whole-own channels P slots (All-tail (λ s. ForSome s.loaded P) slot slots own))
  where
    go : (loaded : Option Contents) → ForSome loaded P → All P (carried spelled channels (suc (length slots)) loaded)
    go None holds = All-nil P
    go (Some m) holds = kept (nat_le (length (spelled m)) (channels * suc (length slots)))
      where
        kept : (b : Bool) → All P (cond b (m ∷ []) [])
        kept true = All-cons P m [] (holds m refl) (All-nil P)
        kept false = All-nil P

-- settings that are accepted fit
AreFit-accepted : (f : Fields) (me peer : ℕ) → setting_fault f ≡ None → AreStations f me peer → AreFit f me peer
AreFit-accepted f me peer none stations =
    let range = AreInRange-from_no_fault f none in
    record {
      channels = range.channels;
      spacing = range.spacing.0;
      from = (stations.one.0, omega (arith, stations.one.1, range.stations.1));
      to = (stations.another.0, omega (arith, stations.another.1, range.stations.1));
      differ = stations.differ;
    }

AreRules-accepted : (f : Fields) → setting_fault f ≡ None → AreRules (rules_of f)
AreRules-accepted f none =
    let range = AreInRange-from_no_fault f none in
    record {
      words = record { a = (range.worda.0, omega (arith, range.worda.1)); b = (range.wordb.0, omega (arith, range.wordb.1)); differ = words_differ f none };
      misses = range.misses.0;
      channels = range.channels;
    }

-- what the slots of a log need for the law of their payload
pub record CanCome (f : Fields) (slots : List (Slot Contents)) : Type 0 where
  pub rules : AreRules (rules_of f)
  pub sendable : All (λ slot. ForSome slot.loaded CanBeSent) slots
  pub turn : AreInTurn f.channels [] (relay_slots slots)

pub Slots-come : (f : Fields) (me peer : ℕ) (log : List Call) → setting_fault f ≡ None → AreStations f me peer → AreCalls log → CanCome f (Slots f me peer log)
Slots-come f me peer log none stations calls =
    let begun = Slots-begun f me peer log (AreFit-accepted f me peer none stations) calls in
    record {
      rules = AreRules-accepted f none;
      sendable = All-weaker (λ slot. ForSome slot.loaded (IsOwn me peer)) (λ slot. ForSome slot.loaded CanBeSent) (λ slot own m is. (own m is).sendable) (Slots f me peer log) begun.own;
      turn = begun.turn;
    }

-- where the messages of a line are those that came whole, they are accepted
pub Accepted-whole : (f : Fields) (me peer count : ℕ) (own other : List Call) → setting_fault f ≡ None → AreStations f peer me → AreCalls other
    → messages_on f (Line peer own) ≡ whole spelled f.channels (take count (Slots f peer me other))
    → map (λ r. r.message) (Accepted f me peer own) ≡ whole spelled f.channels (take count (Slots f peer me other))
Accepted-whole f me peer count own other none stations calls come =
    let slots = Slots f peer me other in
    let begun = Slots-begun f peer me other (AreFit-accepted f peer me none stations) calls in
    let all = Completed-messages f peer own ∙ come in
    let right = All-weaker (IsOwn peer me) (λ m. is_addressed peer me m ≡ true) (λ m is. is.addressed) (whole spelled f.channels (take count slots))
    (whole-own f.channels (IsOwn peer me) (take count slots) (All-take (λ slot. ForSome slot.loaded (IsOwn peer me)) count slots begun.own)) in
    let rise = whole-rise f.channels 0 count slots begun.rise in
    ap (map (λ (r : Receipt). r.message)) (accepted_among-all me peer (Completed f peer own) (whole spelled f.channels (take count slots)) all right rise) ∙ all
