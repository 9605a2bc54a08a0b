use Rattle.std.proofs.Common.{◌≡◌, ◌∷◌, [], ◌++◌, ℕ, List, not, option_map, refl, sym, subst}
use Rattle.ld_base.specs.declared.fields.Fields.{Fields}
use Rattle.relay_core.specs.Decided.{Newest}
use Rattle.relay_core.specs.Follows.{Follows, SendsSlot}
use Rattle.relay_core.specs.Log.{now}
use Rattle.relay_core.specs.declared.call.Call.{Call}
use Rattle.relay_core.specs.declared.call.Call.TheVariants as made
use Rattle.relay_core.specs.Sent.{Slots, echo_of, message_of}
use Rattle.relay_core.specs.Talks.{Begins, Speaks, Spoken, Talks}
use Rattle.relay_core.specs.declared.peer.Peer.{Peer}
use Rattle.relay_core.proofs.Sending.{Follows-sends, IsSpoken, Outgo-sends}
use Rattle.relay_core.proofs.peer.Peer.slot.Goals as goal
use Rattle.relay_core.proofs.peer.Peer.slot.Goals.{then-not-in_flight, else-not-in_flight}

-- whether a message begins or not, nothing of the peer changes but its talker
kept : (c : goal.After-slot) → c.if-not-in_flight.self ≡ record c.args.self.now { talker = c.if-not-in_flight.self.talker }
kept c = elim c.if-not-in_flight.branch [
  | then-not-in_flight w ↦ rw w.self-is w.begin.ensures.rest
  | else-not-in_flight w ↦ rw w.self-is refl
]

to : (c : goal.After-slot) → c.if-not-in_flight.out.to ≡ c.args.self.now.station
to c = elim c.if-not-in_flight.branch [
  | then-not-in_flight w ↦ rw w.out-is c.requires.nothing.0
  | else-not-in_flight w ↦ rw w.out-is c.requires.nothing.0
]

-- the message of the newest sample begins where it can
begins : (c : goal.After-slot) (f : Fields) (calls : List Call) → Talks f c.args.self.now.talker (Slots f c.args.me c.args.self.now.station calls)
    → Begins f c.if-not-in_flight.self.talker (Slots f c.args.me c.args.self.now.station calls)
    (option_map (message_of c.args.me c.args.self.now.station c.args.now (echo_of c.args.self.now.last)) c.args.newest.now) c.if-not-in_flight.out.begun
begins c f calls talks = elim c.if-not-in_flight.branch [
  | then-not-in_flight w ↦ rw (w.self-is, w.out-is) (w.begin.ensures.begins f _ talks)
  | else-not-in_flight w ↦ rw (w.self-is, w.out-is, c.requires.nothing.1) (c.in_flight.ensures f _ _ talks w.if-not-in_flight.false)
]

abbrev spoken : goal.After-slot → Spoken
spoken c = record { bytes = c.slot.new.frame; begun = c.if-not-in_flight.out.begun }

is_spoken : (c : goal.After-slot) (f : Fields) (calls : List Call) (at : ℕ) → Follows f c.args.me calls c.args.self.now → c.args.newest.now ≡ Newest f c.args.me calls
    → c.args.now ≡ now (calls ++ made.Slot at ∷ []) → IsSpoken f c.args.me at c.args.now calls c.args.self.now c.args.newest.now c.slot.new.self (spoken c)
is_spoken c f calls at follows newest time =
    let p = c.args.self.now in
    let slots = Slots f c.args.me p.station calls in
    let ready = option_map (message_of c.args.me p.station c.args.now (echo_of p.last)) c.args.newest.now in
    record {
      follows = follows;
      is_time = time;
      is_newest = newest;
      speaks = subst (λ (q : Peer). Speaks f c.slot.new.self slots ready (not q.listener.locked) (spoken c)) (kept c)
          (c.slot.ensures f slots ready c.if-not-in_flight.out.begun (begins c f calls follows.talks));
    }

pub returns : goal.returns
returns c =
    let p = c.args.self.now in
    let talker = c.slot.new.self in
    subst (λ (q : Peer). SendsSlot c.args.me c.args.now c.args.newest.now p (record q { talker = talker })
    (record { to = c.if-not-in_flight.out.to; bytes = c.slot.new.frame; begun = c.if-not-in_flight.out.begun })) (sym (kept c)) (record {
      station = refl;
      alarms = refl;
      calm = λ calm. calm;
      follows = λ f calls at follows newest time.
          Follows-sends f c.args.me at c.args.now calls p c.args.newest.now talker (spoken c) (is_spoken c f calls at follows newest time);
      sends = λ f calls at follows newest time.
          rw (to c) (Outgo-sends f c.args.me at c.args.now calls p c.args.newest.now talker (spoken c) (is_spoken c f calls at follows newest time));
    })
