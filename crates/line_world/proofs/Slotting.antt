-- The frames of a slot.
use Rattle.std.proofs.Common.{◌≡◌, ℕ, ◌*◌, ◌<◌, ◌≤◌, ◌⊎◌, inl, inr, Bool, true, List, [], ◌∷◌, ◌++◌, All, Option, None, length, get_or, map, reverse, take, arith, sym, ap, subst, ◌∙◌, append-nil}
use Rattle.std.specs.Prelude.{filter, option_map, slice_get, unwrap_or}
use Rattle.std.specs.List.{flat_map}
use Rattle.std.proofs.lemmas.Bool.{cases_eq}
use Rattle.std.proofs.lemmas.Bool.Decides.{nat_tests}
use Rattle.std.proofs.lemmas.Grind.{common_steps}
use Rattle.std.proofs.lemmas.List.{map-id, reverse-append, take-append-drop}
use Rattle.std.proofs.lemmas.List.Concat.{flat_map_single}
use Rattle.std.proofs.lemmas.List.Elements.{All-cons, All-nil}
use Rattle.std.proofs.lemmas.List.Folds.{flat_map-map}
use Rattle.std.proofs.lemmas.Simd.{map-map}
use Rattle.ld_base.proofs.Accepted.{AreInRange-from_no_fault}
use Rattle.ld_base.specs.Bits.{line_bits, line_bytes}
use Rattle.ld_base.specs.Message.{Contents}
use Rattle.ld_base.specs.Packing.{same_bytes}
use Rattle.ld_base.specs.Settings.{setting_fault}
use Rattle.ld_base.specs.declared.fields.Fields.{Fields}
use Rattle.c3794_frame.specs.Numbers.{bits_of}
use Rattle.payload_map.specs.Sent as payload
use Rattle.pingpong.specs.declared.journal.Entry.{Entry}
use Rattle.pingpong.specs.declared.journal.What.TheVariants.{Slot}
use Rattle.relay_core.proofs.Calls.{Slots-push}
use Rattle.relay_core.specs.Answers.{Outgo, outgo_by, outgo_of}
use Rattle.relay_core.specs.Log.{is_peer, peers}
use Rattle.relay_core.specs.declared.call.Call.{Call}
use Rattle.relay_core.specs.declared.call.Call.TheVariants as made
use Rattle.relay_core.specs.Sent.{Sent, Slots, frames_sent}
use Rattle.relay_core.specs.StandsFor.{Kept, StandsFor}
use Rattle.relay_core.specs.declared.answers.Outgoing.{Outgoing}
use Rattle.relay_message.specs.Messages.{added}
use Rattle.waveform_reader.specs.Scenario.{Setup}
use Rattle.line_world.specs.Run.{newest_frame}
use Rattle.line_world.specs.Stationed.{IsTerminal}
use Rattle.relay_core.specs.StationLog.{StationLog}
use Rattle.line_world.specs.World.{frames_at, slot_with, stamp_of}
use Rattle.line_world.proofs.Stationing.{IsCallOf, log-elsewhere, log-here}

-- the bits of 32 bytes make these bytes
pub bytes-of_bits : (bytes : List ℕ) → length bytes ≡ 32 → ((k : ℕ) → get_or bytes k 0 < 256) → line_bytes 32 (bits_of bytes) ≡ bytes
unfolding bits_of
bytes-of_bits bytes long each =
    ap (λ (count : ℕ). line_bytes 32 (line_bits (8 * count) bytes)) long
    ∙ same_bytes 256 bytes (record { few = omega arith; long = long; each = each; zeros = λ i past inside. absurd (omega arith) })

-- the slot of a station by the bytes of its first frame and of a second, where there is one
pub slot-of : (station : ℕ) (frames : List Outgoing) (first : Outgoing) (bytes : List ℕ) (second : Option (List ℕ)) → 1 ≤ length frames
    → first ≡ get_or frames 0 first → bytes ≡ line_bytes 32 (bits_of first.bytes)
    → second ≡ option_map (λ (o : Outgoing). line_bytes 32 (bits_of o.bytes)) (slice_get frames 1)
    → Slot station bytes second ≡ slot_with station (map (λ (o : Outgoing). bits_of o.bytes) frames)
slot-of station [] first bytes second some is_first is_bytes is_second = absurd (omega (arith, some))
slot-of station (o ∷ []) first bytes second some is_first is_bytes is_second =
    ap (λ (first : List ℕ). Slot station first second) (is_bytes ∙ ap (λ (o : Outgoing). line_bytes 32 (bits_of o.bytes)) is_first)
    ∙ ap (Slot station (line_bytes 32 (bits_of o.bytes))) is_second
slot-of station (o ∷ p ∷ os) first bytes second some is_first is_bytes is_second =
    ap (λ (first : List ℕ). Slot station first second) (is_bytes ∙ ap (λ (o : Outgoing). line_bytes 32 (bits_of o.bytes)) is_first)
    ∙ ap (Slot station (line_bytes 32 (bits_of o.bytes))) is_second

-- a failed call adds no slot
Slots-fault : (f : Fields) (me peer at other : ℕ) (log : List Call) → Slots f me peer (log ++ made.Fault at other ∷ []) ≡ Slots f me peer log
Slots-fault f me peer at other log = Slots-push f me peer log (made.Fault at other) ∙ append-nil (Slots f me peer log)

-- so the newest frame of every line is what it was
pub newest-fault : (station at other : ℕ) (entry : Entry) (journal : List Entry) → IsCallOf station (made.Fault at other) entry
    → (f : Fields) (from to : ℕ) → newest_frame f from to (journal ++ entry ∷ []) ≡ newest_frame f from to journal
newest-fault station at other entry journal is f from to =
    ap (λ (slots : List (payload.Slot Contents)). unwrap_or (slice_get (reverse (frames_sent f slots)) 0) [])
    (elim (cases_eq from station) [
      | inl same ↦
          subst (λ (me : ℕ). Slots f me to (StationLog me (journal ++ entry ∷ [])) ≡ Slots f me to (StationLog me journal)) (sym same)
          (ap (Slots f station to) (log-here station (made.Fault at other) entry journal is) ∙ Slots-fault f station to at other (StationLog station journal))
      | inr away ↦ ap (Slots f from to) (log-elsewhere station from (made.Fault at other) entry journal is away)
    ])

-- a station of a line has a peer: the first station, or else the second
first-or-second : (f : Fields) (me : ℕ) → 2 ≤ f.stations → (is_peer f me 1 ≡ true) ⊎ (is_peer f me 2 ≡ true)
first-or-second f me two = grind (arith, nat_tests)

some-passes : (p : ℕ → Bool) → (p 1 ≡ true) ⊎ (p 2 ≡ true) → 1 ≤ length (filter p (1 ∷ 2 ∷ 3 ∷ []))
some-passes p some = grind (arith, common_steps, some)

pub peers-some : (f : Fields) (me : ℕ) → setting_fault f ≡ None → 1 ≤ length (peers f me)
peers-some f me sound = some-passes (is_peer f me) (first-or-second f me (AreInRange-from_no_fault f sound).stations.0)

-- what goes to the peers of a station with a call
module _ (f : Fields) (me : ℕ) (log : List Call) (call : Call) where
  pub sent-to : (outs : List Outgoing) (ps : List ℕ) → map outgo_of outs ≡ map (outgo_by f me log call) ps → map (λ (o : Outgoing). o.to) outs ≡ ps
  sent-to outs ps is =
      sym (map-map (λ (g : Outgo). g.to) outgo_of outs) ∙ ap (map (λ (g : Outgo). g.to)) is ∙ map-map (λ (g : Outgo). g.to) (outgo_by f me log call) ps ∙ map-id ps

  pub sent-bits : (outs : List Outgoing) (ps : List ℕ) → map outgo_of outs ≡ map (outgo_by f me log call) ps
      → flat_map (λ (peer : ℕ). added (Sent f me peer) log (call ∷ [])) ps ≡ map (λ (o : Outgoing). bits_of o.bytes) outs
  sent-bits outs ps is =
      sym (flat_map-map (λ (g : Outgo). g.frames) (outgo_by f me log call) ps) ∙ ap (flat_map (λ (g : Outgo). g.frames)) (sym is)
      ∙ flat_map-map (λ (g : Outgo). g.frames) outgo_of outs ∙ flat_map_single (λ (o : Outgoing). bits_of o.bytes) outs

  pub sent-each : (outs : List Outgoing) (ps : List ℕ) → map outgo_of outs ≡ map (outgo_by f me log call) ps
      → All (λ (o : Outgoing). added (Sent f me o.to) log (call ∷ []) ≡ bits_of o.bytes ∷ []) outs
  sent-each [] ps is = All-nil (λ (o : Outgoing). added (Sent f me o.to) log (call ∷ []) ≡ bits_of o.bytes ∷ [])
  sent-each (o ∷ outs) [] is = absurd (cc)
  sent-each (o ∷ outs) (p ∷ ps) is =
      let first : outgo_of o ≡ outgo_by f me log call p = cc in
      let others : map outgo_of outs ≡ map (outgo_by f me log call) ps = cc in
      All-cons (λ (o : Outgoing). added (Sent f me o.to) log (call ∷ []) ≡ bits_of o.bytes ∷ []) o outs
      (ap (λ (to : ℕ). added (Sent f me to) log (call ∷ [])) (ap (λ (g : Outgo). g.to) first) ∙ sym (ap (λ (g : Outgo). g.frames) first)) (sent-each outs ps others)

-- so it does by the terminal that stands for the station's log
pub sent-by : (f : Fields) (journal : List Entry) (me : ℕ) (t : Kept) (call : Call) (outs : List Outgoing) → IsTerminal f journal me t
    → ((calls : List Call) → StandsFor t calls → map outgo_of outs ≡ map (outgo_by t.settings t.me calls call) (peers t.settings t.me))
    → map outgo_of outs ≡ map (outgo_by f me (StationLog me journal) call) (peers f me)
sent-by f journal me t call outs is sent =
    let log = StationLog me journal in
    subst (λ (f : Fields). map outgo_of outs ≡ map (outgo_by f me log call) (peers f me)) is.settings
    (subst (λ (me : ℕ). map outgo_of outs ≡ map (outgo_by t.settings me log call) (peers t.settings me)) is.station (sent log is.stands))

-- the frame that a call adds is the newest one
pub newest-added : (f : Fields) (from to : ℕ) (call : Call) (entry : Entry) (journal : List Entry) (bits : List ℕ) → IsCallOf from call entry
    → added (Sent f from to) (StationLog from journal) (call ∷ []) ≡ bits ∷ [] → newest_frame f from to (journal ++ entry ∷ []) ≡ bits
newest-added f from to call entry journal bits is added_is =
    let sent = Sent f from to (StationLog from journal ++ call ∷ []) in
    let before = take (length (Sent f from to (StationLog from journal))) sent in
    let parts : sent ≡ before ++ bits ∷ [] =
    sym (take-append-drop (length (Sent f from to (StationLog from journal))) sent) ∙ ap (λ (end : List (List ℕ)). before ++ end) added_is in
    ap (λ (log : List Call). unwrap_or (slice_get (reverse (Sent f from to log)) 0) []) (log-here from call entry journal is)
    ∙ ap (λ (all : List (List ℕ)). unwrap_or (slice_get (reverse all) 0) []) parts
    ∙ ap (λ (all : List (List ℕ)). unwrap_or (slice_get all 0) []) (reverse-append before (bits ∷ []))

-- so its slot has the frames that the log before gives
pub frames-of : (s : Setup) (before : List Entry) (time station stamp : ℕ) (outs : List Outgoing) → stamp ≡ stamp_of s station time
    → map outgo_of outs ≡ map (outgo_by s.settings station (StationLog station before) (made.Slot stamp)) (peers s.settings station)
    → map (λ (o : Outgoing). bits_of o.bytes) outs ≡ frames_at s before time station
frames-of s before time station stamp outs stamped is =
    sym (sent-bits s.settings station (StationLog station before) (made.Slot stamp) outs (peers s.settings station) is)
    ∙ ap (λ (at : ℕ). flat_map (λ (peer : ℕ). added (Sent s.settings station peer) (StationLog station before) (made.Slot at ∷ [])) (peers s.settings station)) stamped
