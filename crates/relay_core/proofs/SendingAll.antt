-- The slots of several peers, one after the other.
use Rattle.std.proofs.Common.{◌≡◌, ℕ, ◌+◌, ◌*◌, ◌<◌, ◌≤◌, inl, inr, List, [], ◌∷◌, ◌++◌, All, Option, drop, get_or, length, map, set, take, refl, ap, sym, ◌∙◌, subst, arith}
use Rattle.std.specs.List.{flat_map}
use Rattle.std.proofs.Math.Seq.{get_or-append_seam}
use Rattle.std.proofs.lemmas.Bool.{cases_lt}
use Rattle.std.proofs.lemmas.List.{get_or-set_other, get_or-set_same, get_or_append_left, get_or_default, length-append, length-set, take_all}
use Rattle.sample_store.specs.declared.ring.Numbered.{Numbered}
use Rattle.relay_core.specs.Follows.{SendsSlot}
use Rattle.relay_core.specs.Sends.{SendsAll}
use Rattle.relay_core.specs.Turned.{told, turned}
use Rattle.relay_core.specs.declared.answers.Change.{Change}
use Rattle.relay_core.specs.declared.answers.Outgoing.{Outgoing}
use Rattle.relay_core.specs.declared.peer.Peer.{Peer}
use Rattle.relay_core.proofs.Alarming.{told-few}
use Rattle.relay_core.proofs.InPlace.{IsWritten, IsWritten-set, drop-next, drop-set, flat_map-set, get_or-drop_same, next}

-- what is known after the slots of so many peers
pub record HaveSent (me time : ℕ) (newest : Option Numbered) (i : ℕ) (old new : List Peer) (outs : List Outgoing) : Type 0 where
  pub count : length outs ≡ i
  pub rest : drop i new ≡ drop i old
  pub each : (k : ℕ) (p q : Peer) (o : Outgoing) → k < i → SendsSlot me time newest (get_or old k p) (get_or new k q) (get_or outs k o)

-- the slot of one more
pub each-more : (me time : ℕ) (newest : Option Numbered) (i : ℕ) (old new : List Peer) (outs : List Outgoing) (x y : Peer) (out : Outgoing)
    → i < length new → length new ≡ length old → x ≡ get_or new i x → SendsSlot me time newest x y out → HaveSent me time newest i old new outs
    → (k : ℕ) (p q : Peer) (o : Outgoing) → k < i + 1 → SendsSlot me time newest (get_or old k p) (get_or (set new i y) k q) (get_or (outs ++ out ∷ []) k o)
each-more me time newest i old new outs x y out within long item sends have k p q o below = elim (cases_lt k i) [
  | inl before ↦
      let other : get_or (set new i y) k q ≡ get_or new k q = get_or-set_other new i k y q (omega (arith, before)) in
      let first : get_or (outs ++ out ∷ []) k o ≡ get_or outs k o = get_or_append_left outs (out ∷ []) o k (omega (arith, before, have.count)) in
      subst (λ r. SendsSlot me time newest (get_or old k p) r (get_or (outs ++ out ∷ []) k o)) (sym other)
      (subst (λ r. SendsSlot me time newest (get_or old k p) (get_or new k q) r) (sym first) (have.each k p q o before))
  | inr behind ↦
      let here : k ≡ i = omega (arith, behind, below) in
      let was : get_or old k p ≡ x = rw here (get_or_default old i p x (omega (arith, within, long)) ∙ sym (item ∙ get_or-drop_same new old i x have.rest)) in
      let is : get_or (set new i y) k q ≡ y = rw here (get_or-set_same new i y q within) in
      let last : get_or (outs ++ out ∷ []) k o ≡ out = rw (here, sym have.count) (get_or-append_seam outs out [] o) in
      subst (λ r. SendsSlot me time newest r (get_or (set new i y) k q) (get_or (outs ++ out ∷ []) k o)) (sym was)
      (subst (λ r. SendsSlot me time newest x r (get_or (outs ++ out ∷ []) k o)) (sym is)
      (subst (λ r. SendsSlot me time newest x y r) (sym last) sends))
]

-- what is known after the slots of so many peers, each of whose alarms were turned then
pub record HaveServed (me since time : ℕ) (newest : Option Numbered) (i : ℕ) (old new : List Peer) (outs : List Outgoing) (changes : List Change) : Type 0 where
  pub left : List Peer
  pub long : length left ≡ length old
  pub as_long : length new ≡ length old
  pub sent : HaveSent me time newest i old left outs
  pub turned : IsWritten (turned since time) i left new
  pub told : changes ≡ flat_map (told since time) (take i left)
  pub room : length changes ≤ 5 * i

pub HaveServed-none : (me since time : ℕ) (newest : Option Numbered) (peers : List Peer) → HaveServed me since time newest 0 peers peers [] []
HaveServed-none me since time newest peers = record {
  left = peers;
  long = refl;
  as_long = refl;
  sent = record { count = refl; rest = refl; each = λ k p q o below. absurd (omega (arith, below)) };
  turned = record { written = refl; rest = refl };
  told = refl;
  room = omega arith;
}

-- the next peer is as it was, so what holds of all peers holds of it
pub next-holds : (P : Peer → Type 0) (me since time : ℕ) (newest : Option Numbered) (i : ℕ) (old new : List Peer) (outs : List Outgoing) (changes : List Change) (x : Peer)
    → i < length new → x ≡ get_or new i x → HaveServed me since time newest i old new outs changes → All P old → P (get_or new i x)
next-holds P me since time newest i old new outs changes x within item have all =
    let same : get_or new i x ≡ get_or old i x = get_or-drop_same new have.left i x have.turned.rest ∙ get_or-drop_same have.left old i x have.sent.rest in
    subst P (sym same) (all i x (omega (arith, within, have.as_long)))

pub HaveServed-more : (me since time : ℕ) (newest : Option Numbered) (i : ℕ) (old new : List Peer) (outs : List Outgoing) (changes : List Change) (x y z : Peer) (out : Outgoing)
    → i < length new → x ≡ get_or new i x → SendsSlot me time newest x y out → z ≡ turned since time y
    → HaveServed me since time newest i old new outs changes
    → HaveServed me since time newest (i + 1) old (set new i z) (outs ++ out ∷ []) (changes ++ told since time y)
HaveServed-more me since time newest i old new outs changes x y z out within item sends is_z have =
    let left = have.left in
    let inside : i < length left = omega (arith, within, have.long, have.as_long) in
    let same : x ≡ get_or left i x = item ∙ get_or-drop_same new left i x have.turned.rest in
    record {
      left = set left i y;
      long = length-set left i y ∙ have.long;
      as_long = length-set new i z ∙ have.as_long;
      sent = record {
        count = length-append outs (out ∷ []) ∙ omega (arith, have.sent.count);
        rest =
            ap (λ j. drop j (set left i y)) (next i)
            ∙ drop-set left i y
            ∙ drop-next left old i have.sent.rest
            ∙ ap (λ j. drop j old) (sym (next i));
        each = each-more me time newest i old left outs x y out inside have.long same sends have.sent;
      };
      turned = IsWritten-set (turned since time) i left new y z within (have.as_long ∙ sym have.long) is_z have.turned;
      told = ap (λ xs. xs ++ told since time y) have.told ∙ sym (flat_map-set (told since time) i left y inside);
      room = omega (arith, have.room, told-few since time y, length-append changes (told since time y));
    }

-- after those of all
pub HaveServed-all : (me since time : ℕ) (newest : Option Numbered) (i : ℕ) (old new : List Peer) (outs : List Outgoing) (changes : List Change)
    → i ≡ length old → HaveServed me since time newest i old new outs changes → SendsAll me since time newest old new outs changes
HaveServed-all me since time newest i old new outs changes all have =
    let turn = turned since time in
    let every : (xs : List Peer) → length xs ≡ length old → take i xs ≡ xs = λ xs long. take_all i xs (omega (arith, all, long)) in
    record {
      left = have.left;
      sent = record { long = have.long; count = have.sent.count ∙ all; each = λ k p q o inside. have.sent.each k p q o (omega (arith, all, inside)) };
      is_turned = sym (every new have.as_long) ∙ have.turned.written ∙ ap (map turn) (every have.left have.long);
      is_told = have.told ∙ ap (flat_map (told since time)) (every have.left have.long);
    }
