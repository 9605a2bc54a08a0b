-- What a slot sends to a peer, and how what is kept of the peer follows the log with it.
use Rattle.std.proofs.Common.{◌≡◌, ℕ, Bool, not, List, [], ◌∷◌, ◌++◌, Option, None, Some, refl, ap, sym, subst, ◌∙◌}
use Rattle.std.specs.Prelude.{option_map}
use Rattle.std.specs.Option.{option_to_list}
use Rattle.std.proofs.lemmas.List.Elements.{filter_map-append}
use Rattle.ld_base.specs.Message.{Contents}
use Rattle.ld_base.specs.declared.fields.Fields.{Fields}
use Rattle.c3794_frame.specs.Numbers.{bits_of}
use Rattle.offset_track.specs.Track as track
use Rattle.payload_map.specs.Sent.{Slot}
use Rattle.relay_message.specs.Messages.{added}
use Rattle.sample_store.specs.declared.ring.Numbered.{Numbered}
use Rattle.relay_core.specs.Accepted.{Accepted, last_of}
use Rattle.relay_core.specs.Answers.{outgo_by, outgo_of}
use Rattle.relay_core.specs.Decided.{Newest}
use Rattle.relay_core.specs.Follows.{Follows}
use Rattle.relay_core.specs.Line.{is_locked_from}
use Rattle.relay_core.specs.Listens.{Listens}
use Rattle.relay_core.specs.Log.{now}
use Rattle.relay_core.specs.declared.call.Call.{Call}
use Rattle.relay_core.specs.declared.call.Call.TheVariants as made
use Rattle.relay_core.specs.Sent.{Begun, Sent, Slots, begins, begun_in, echo_of, frames_sent, message_of}
use Rattle.relay_core.specs.Talks.{Speaks, Spoken, Talks}
use Rattle.relay_core.specs.declared.peer.Peer.{Peer}
use Rattle.relay_core.specs.declared.talker.Talker.{Talker}
use Rattle.relay_core.proofs.Accepting.{Accepted-same}
use Rattle.relay_core.proofs.Calls.{Slots-push, added-is, is_faulty-push}
use Rattle.relay_core.proofs.Following.{Exchanges-same, Line-same}

begun-push : (slots : List (Slot Contents)) (loaded : Option Contents) (yellow : Bool)
    → begun_in (slots ++ record { loaded = loaded; yellow = yellow } ∷ []) ≡ begun_in slots ++ option_to_list loaded
begun-push slots loaded yellow = filter_map-append (λ slot. slot.loaded) slots (record { loaded = loaded; yellow = yellow } ∷ []) ∙ ap (λ ms. begun_in slots ++ ms) (alone loaded)
  where
    alone : (loaded : Option Contents) → begun_in (record { loaded = loaded; yellow = yellow } ∷ []) ≡ option_to_list loaded
    alone None = refl
    alone (Some m) = refl

-- the slot that was spoken is that of the call
record IsSlot (f : Fields) (me at : ℕ) (log : List Call) (p : Peer) (talker : Talker) (spoken : Spoken) : Type 0 where
  slots : Slots f me p.station (log ++ made.Slot at ∷ []) ≡ Slots f me p.station log ++ record { loaded = spoken.begun; yellow = not p.listener.locked } ∷ []
  talks : Talks f talker (Slots f me p.station (log ++ made.Slot at ∷ []))

-- what is known where a slot was spoken, with the message of a sample ready
pub record IsSpoken (f : Fields) (me at time : ℕ) (log : List Call) (p : Peer) (newest : Option Numbered) (talker : Talker) (spoken : Spoken) : Type 0 where
  pub follows : Follows f me log p
  pub is_time : time ≡ now (log ++ made.Slot at ∷ [])
  pub is_newest : newest ≡ Newest f me log
  pub speaks : Speaks f talker (Slots f me p.station log) (option_map (message_of me p.station time (echo_of p.last)) newest) (not p.listener.locked) spoken

slot : (f : Fields) (me at time : ℕ) (log : List Call) (p : Peer) (newest : Option Numbered) (talker : Talker) (spoken : Spoken)
    → IsSpoken f me at time log p newest talker spoken → IsSlot f me at log p talker spoken
slot f me at time log p newest talker spoken is =
    let peer = p.station in
    let call = made.Slot at in
    let begun =
    is.speaks.begun
    ∙ ap (λ t. begins f.channels (Slots f me peer log) (option_map (message_of me peer t (echo_of p.last)) newest)) is.is_time
    ∙ ap (λ last. begins f.channels (Slots f me peer log) (option_map (message_of me peer (now (log ++ call ∷ [])) (echo_of last)) newest)) is.follows.last
    ∙ ap (λ sample. begins f.channels (Slots f me peer log) (option_map (message_of me peer (now (log ++ call ∷ [])) (echo_of (last_of (Accepted f me peer log)))) sample)) is.is_newest in
    let parts : Slots f me peer (log ++ call ∷ []) ≡ Slots f me peer log ++ record { loaded = spoken.begun; yellow = not p.listener.locked } ∷ [] =
    Slots-push f me peer log call
    ∙ ap (λ loaded. Slots f me peer log ++ record { loaded = loaded; yellow = not (is_locked_from f peer log) } ∷ []) (sym begun)
    ∙ ap (λ locked. Slots f me peer log ++ record { loaded = spoken.begun; yellow = not locked } ∷ []) (sym is.follows.listens.locked) in
    record { slots = parts; talks = subst (Talks f talker) (sym parts) is.speaks.talks }

pub Follows-sends : (f : Fields) (me at time : ℕ) (log : List Call) (p : Peer) (newest : Option Numbered) (talker : Talker) (spoken : Spoken)
    → IsSpoken f me at time log p newest talker spoken
    → Follows f me (log ++ made.Slot at ∷ [])
    (record { station = p.station; listener = p.listener; talker = talker; track = p.track; last = p.last; faulty = p.faulty; alarms = p.alarms; calm = p.calm })
Follows-sends f me at time log p newest talker spoken is =
    let call = made.Slot at in
    let line = Line-same p.station log call refl in
    let accepted = Accepted-same f me p.station log call line in
    record {
      settings = is.follows.settings;
      listens = subst (Listens f p.listener) (sym line) is.follows.listens;
      talks = (slot f me at time log p newest talker spoken is).talks;
      track = subst (track.StandsFor p.track) (sym (Exchanges-same f me p.station log call accepted)) is.follows.track;
      last = is.follows.last ∙ ap last_of (sym accepted);
      faulty = is.follows.faulty ∙ sym (is_faulty-push p.station log call);
    }

pub Outgo-sends : (f : Fields) (me at time : ℕ) (log : List Call) (p : Peer) (newest : Option Numbered) (talker : Talker) (spoken : Spoken)
    → IsSpoken f me at time log p newest talker spoken
    → outgo_of (record { to = p.station; bytes = spoken.bytes; begun = spoken.begun }) ≡ outgo_by f me log (made.Slot at) p.station
Outgo-sends f me at time log p newest talker spoken is =
    let peer = p.station in
    let call = made.Slot at in
    let parts = (slot f me at time log p newest talker spoken is).slots in
    let frames = added-is (Sent f me peer) log (call ∷ []) (bits_of spoken.bytes ∷ []) (ap (frames_sent f) parts ∙ is.speaks.bits) in
    let begun = added-is (Begun f me peer) log (call ∷ []) (option_to_list spoken.begun)
    (ap begun_in parts ∙ begun-push (Slots f me peer log) spoken.begun (not p.listener.locked)) in
    ap (λ fs. record { to = peer; frames = fs; begun = option_to_list spoken.begun }) (sym frames)
    ∙ ap (λ ms. record { to = peer; frames = added (Sent f me peer) log (call ∷ []); begun = ms }) (sym begun)
