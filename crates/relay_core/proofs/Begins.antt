-- When a message begins.
use Rattle.std.proofs.Common.{◌≡◌, ℕ, ◌+◌, ◌≤◌, ◌<◌, inl, inr, Option, true, false, leb, ◌&&◌, cond, [], ◌∷◌, List, length, reverse, slice_get, Some, None, arith, refl, sym, ap, ◌∙◌, subst}
use Rattle.std.proofs.lemmas.Bool.{cases_lt, false_from_ne_true}
use Rattle.std.proofs.lemmas.List.{append-nil, nil_from_length, reverse-append}
use Rattle.ld_base.specs.Message.{Contents}
use Rattle.ld_base.specs.declared.fields.Fields.{Fields}
use Rattle.relay_message.specs.MessageOf.{spelled}
use Rattle.payload_map.specs.Messages.{CanBeSent, relay_slots}
use Rattle.payload_map.specs.Outlet as outlet
use Rattle.payload_map.specs.Sent.{Slot, unsent}
use Rattle.relay_core.specs.Line.{rules_of}
use Rattle.relay_core.specs.Sent.{begun_in, can_begin, is_free, number_behind}
use Rattle.relay_core.specs.Talks.{Begins, Talks}
use Rattle.relay_core.specs.declared.talker.Talker.{Talker}
use Rattle.relay_core.proofs.Slots.{unsent-is_free}

-- one is in flight where some of it is left
free-busy : (f : Fields) (t : Talker) (slots : List (Slot Contents)) → Talks f t slots → 0 < length t.outlet.left → is_free f.channels slots ≡ false
free-busy f t slots talks busy =
    let free = unsent-is_free f.channels slots talks.channels in
    false_from_ne_true _ (λ e. omega (arith, busy, ap length (talks.outlet.left ∙ free.1 e)))

-- and none where nothing is left
free-idle : (f : Fields) (t : Talker) (slots : List (Slot Contents)) → Talks f t slots → length t.outlet.left ≤ 0 → is_free f.channels slots ≡ true
free-idle f t slots talks idle =
    let none : length (unsent f.channels (relay_slots slots)) ≤ 0 = subst (λ left. length left ≤ 0) talks.outlet.left idle in
    (unsent-is_free f.channels slots talks.channels).0 (nil_from_length _ (omega arith))

-- whether one can begin, where one is in flight
pub can_begin-busy : (f : Fields) (t : Talker) (slots : List (Slot Contents)) (number : ℕ) → Talks f t slots → 0 < length t.outlet.left
    → false ≡ can_begin f.channels slots number
can_begin-busy f t slots number talks busy =
    sym (ap (λ b. b && leb (number_behind (slice_get (reverse (begun_in slots)) 0)) number) (free-busy f t slots talks busy))

-- and where none is
pub can_begin-idle : (f : Fields) (t : Talker) (slots : List (Slot Contents)) (number : ℕ) → Talks f t slots → length t.outlet.left ≤ 0
    → leb t.next number ≡ can_begin f.channels slots number
can_begin-idle f t slots number talks idle =
    ap (λ next. leb next number) talks.next
    ∙ sym (ap (λ b. b && leb (number_behind (slice_get (reverse (begun_in slots)) 0)) number) (free-idle f t slots talks idle))

-- nothing is left where one can begin
pub can_begin-left : (f : Fields) (t : Talker) (slots : List (Slot Contents)) (number : ℕ) → Talks f t slots → can_begin f.channels slots number ≡ true
    → length t.outlet.left ≤ 0
can_begin-left f t slots number talks can = elim (cases_lt 0 (length t.outlet.left)) [
  | inl busy ↦ let no = can_begin-busy f t slots number talks busy in absurd (cc)
  | inr idle ↦ idle
]

-- none begins where it can't
pub Begins-not : (f : Fields) (t : Talker) (slots : List (Slot Contents)) (m : Contents) → Talks f t slots → can_begin f.channels slots m.number ≡ false
    → Begins f t slots (Some m) None
Begins-not f t slots m talks can = record {
  channels = talks.channels;
  is = sym (ap (λ b. cond b (Some m) None) can);
  sendable = λ m e. absurd (cc);
  earlier = talks.sendable;
  outlet = talks.outlet;
  next = talks.next ∙ ap (λ ms. number_behind (slice_get (reverse ms) 0)) (sym (append-nil (begun_in slots)));
}

-- nor where none is ready
pub Begins-none : (f : Fields) (t : Talker) (slots : List (Slot Contents)) → Talks f t slots → Begins f t slots None None
Begins-none f t slots talks = record {
  channels = talks.channels;
  is = refl;
  sendable = λ m e. absurd (cc);
  earlier = talks.sendable;
  outlet = talks.outlet;
  next = talks.next ∙ ap (λ ms. number_behind (slice_get (reverse ms) 0)) (sym (append-nil (begun_in slots)));
}

-- so none begins where one is in flight, whichever is ready
pub Begins-busy : (f : Fields) (t : Talker) (slots : List (Slot Contents)) (ready : Option Contents) → Talks f t slots → 0 < length t.outlet.left
    → Begins f t slots ready None
Begins-busy f t slots None talks busy = Begins-none f t slots talks
Begins-busy f t slots (Some m) talks busy = Begins-not f t slots m talks (sym (can_begin-busy f t slots m.number talks busy))

-- one begins where it can
pub Begins-loaded : (f : Fields) (old new : Talker) (slots : List (Slot Contents)) (m : Contents) → Talks f old slots → can_begin f.channels slots m.number ≡ true
    → CanBeSent m → outlet.StandsFor new.outlet f.channels (rules_of f).words (relay_slots slots) (Some (spelled m)) → new.next ≡ m.number + 1
    → Begins f new slots (Some m) (Some m)
Begins-loaded f old new slots m talks can sendable loaded next = record {
  channels = talks.channels;
  is = sym (ap (λ b. cond b (Some m) None) can);
  sendable = λ other e. subst CanBeSent (cc) sendable;
  earlier = talks.sendable;
  outlet = loaded;
  next = next ∙ ap (λ ms. number_behind (slice_get ms 0)) (sym (reverse-append (begun_in slots) (m ∷ [])));
}
