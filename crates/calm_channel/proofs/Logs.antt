-- What a moment adds to the logs at both ends of a line: nothing that matters to the line, unless it touches it.
use Rattle.std.proofs.Common.{◌≡◌, ◌≢◌, ℕ, ◌-◌, Bool, true, false, ◌&&◌, cond, List, [], ◌∷◌, ◌++◌, All, map, option_to_list, refl, ap, sym, subst, ◌∙◌, append_assoc, append-nil}
use Rattle.std.specs.Prelude.{◌==◌, nat_lt}
use Rattle.std.proofs.lemmas.Bool.{eq-eqb, ne_eqb}
use Rattle.std.proofs.lemmas.Grind.{flat_map-append}
use Rattle.std.proofs.lemmas.List.Elements.{All-append, All-cons, All-head, All-nil, All-tail}
use Rattle.ld_base.specs.Message.{Contents}
use Rattle.ld_base.specs.declared.fields.Fields.{Fields}
use Rattle.pingpong.specs.declared.journal.Entry.{Entry}
use Rattle.pingpong.specs.declared.journal.What.{What}
use Rattle.pingpong.specs.declared.journal.What.TheVariants.{Came, SendFailed, TakeFailed, Took}
use Rattle.payload_map.specs.Sent.{Slot as Loaded}
use Rattle.relay_core.specs.Accepted.{Accepted}
use Rattle.relay_core.specs.Line.{Line, bits_from}
use Rattle.relay_core.specs.declared.call.Call.{Call}
use Rattle.relay_core.specs.declared.call.Call.TheVariants as made
use Rattle.relay_core.specs.Sent.{Begun, Slots, begun_in, slot_by}
use Rattle.relay_core.proofs.Accepting.{Accepted-same}
use Rattle.relay_core.proofs.Calls.{Line-push, Slots-push, added-is, added-none}
use Rattle.relay_core.proofs.Lists.{All-front}
use Rattle.relay_core.proofs.Slots.{begun_in-more}
use Rattle.sample_store.proofs.Alongs.{along-push}
use Rattle.waveform_reader.specs.Scenario.{Setup}
use Rattle.waveform_reader.specs.Shapes.{value_at}
use Rattle.line_journal.specs.Crossings.{Starts, begun_with}
use Rattle.line_world.specs.Occasions.{Occasion}
use Rattle.line_world.specs.Occasions.Occasion.{arrival, departure, sampling, slot}
use Rattle.relay_core.specs.StationLog.{StationLog, calls_by, stamp_at}
use Rattle.line_world.specs.World.{Outcome, entry_of, frames_at, happens, number_of, slot_with}
use Rattle.line_world.specs.World.Outcome.{nothing, gives, fails}
use Rattle.calm_channel.proofs.Pace.{touches}

-- a call that brings no bits of a peer's line, and one that is no slot
abbrev pub IsDeaf : ℕ → Call → Type 0
IsDeaf peer call = bits_from peer call ≡ []

abbrev pub IsNoSlot : Call → Type 0
IsNoSlot (made.Sample at values) = Unit {0}
IsNoSlot (made.Slot at) = ⊥
IsNoSlot (made.Bits at peer bits) = Unit {0}
IsNoSlot (made.Fault at peer) = Unit {0}

-- such calls change neither the line and what was accepted
pub line-same : (f : Fields) (me peer : ℕ) (log calls : List Call) → All (IsDeaf peer) calls
    → (Line peer (log ++ calls) ≡ Line peer log) × (Accepted f me peer (log ++ calls) ≡ Accepted f me peer log)
line-same f me peer log [] deaf = (ap (Line peer) (append-nil log), ap (Accepted f me peer) (append-nil log))
line-same f me peer log (call ∷ calls) deaf =
    let one : Line peer (log ++ call ∷ []) ≡ Line peer log =
    Line-push peer log call ∙ ap (λ (bits : List ℕ). Line peer log ++ bits) (All-head (IsDeaf peer) call calls deaf) ∙ append-nil (Line peer log) in
    let rest = line-same f me peer (log ++ call ∷ []) calls (All-tail (IsDeaf peer) call calls deaf) in
    let split : (log ++ call ∷ []) ++ calls ≡ log ++ call ∷ calls = append_assoc log (call ∷ []) calls in (
      ap (Line peer) (sym split) ∙ rest.0 ∙ one,
      ap (Accepted f me peer) (sym split) ∙ rest.1 ∙ Accepted-same f me peer log call one,
    )

-- nor the slots
no-slot : (f : Fields) (me peer : ℕ) (before : List Call) (slots : List (Loaded Contents)) (call : Call) → IsNoSlot call → slot_by f me peer before slots call ≡ []
no-slot f me peer before slots (made.Sample at values) is = refl
no-slot f me peer before slots (made.Slot at) is = absurd is
no-slot f me peer before slots (made.Bits at from bits) is = refl
no-slot f me peer before slots (made.Fault at from) is = refl

pub slots-same : (f : Fields) (me peer : ℕ) (log calls : List Call) → All IsNoSlot calls → Slots f me peer (log ++ calls) ≡ Slots f me peer log
slots-same f me peer log [] still = ap (Slots f me peer) (append-nil log)
slots-same f me peer log (call ∷ calls) still =
    ap (Slots f me peer) (sym (append_assoc log (call ∷ []) calls))
    ∙ slots-same f me peer (log ++ call ∷ []) calls (All-tail IsNoSlot call calls still)
    ∙ Slots-push f me peer log call
    ∙ ap (λ (more : List (Loaded Contents)). Slots f me peer log ++ more) (no-slot f me peer log (Slots f me peer log) call (All-head IsNoSlot call calls still))
    ∙ append-nil (Slots f me peer log)

-- the log of a station with some entries more
pub log-more : (me : ℕ) (journal entries : List Entry) → StationLog me (journal ++ entries) ≡ StationLog me journal ++ StationLog me entries
log-more me journal entries = flat_map-append (calls_by me) journal entries

-- the messages that began on a line
pub Starts-push : (f : Fields) (from to : ℕ) (journal : List Entry) (entry : Entry)
    → Starts f from to (journal ++ entry ∷ []) ≡ Starts f from to journal ++ map (λ m. record { message = m; time = entry.time }) (begun_with f from to journal entry)
Starts-push f from to journal entry =
    along-push (λ before so_far entry. map (λ m. record { message = m; time = entry.time }) (begun_with f from to before entry)) journal entry

-- what is behind the front of a list
All-back : (P : Call → Type 0) (xs ys : List Call) → All P (xs ++ ys) → All P ys
All-back P [] ys all = all
All-back P (x ∷ xs) ys all = All-back P xs ys (All-tail P x (xs ++ ys) all)

-- where the sender has no slot, none begins
pub starts-same : (f : Fields) (from to : ℕ) (journal entries : List Entry) → All IsNoSlot (StationLog from entries)
    → Starts f from to (journal ++ entries) ≡ Starts f from to journal
starts-same f from to journal [] still = ap (Starts f from to) (append-nil journal)
starts-same f from to journal (entry ∷ entries) still =
    let here : All IsNoSlot (calls_by from entry) = All-front IsNoSlot (calls_by from entry) (StationLog from entries) still in
    let rest : All IsNoSlot (StationLog from entries) = All-back IsNoSlot (calls_by from entry) (StationLog from entries) still in
    let none : begun_with f from to journal entry ≡ [] =
    added-none (Begun f from to) (StationLog from journal) (calls_by from entry) (ap begun_in (slots-same f from to (StationLog from journal) (calls_by from entry) here)) in
    ap (Starts f from to) (sym (append_assoc journal (entry ∷ []) entries))
    ∙ starts-same f from to (journal ++ entry ∷ []) entries rest
    ∙ Starts-push f from to journal entry
    ∙ ap (λ (ms : List Contents). Starts f from to journal ++ map (λ m. record { message = m; time = entry.time }) ms) none
    ∙ append-nil (Starts f from to journal)

-- and in a slot the message that is loaded begins
pub starts-more : (f : Fields) (from to : ℕ) (journal : List Entry) (entry : Entry) (loaded : Loaded Contents)
    → Slots f from to (StationLog from journal ++ calls_by from entry) ≡ Slots f from to (StationLog from journal) ++ loaded ∷ []
    → Starts f from to (journal ++ entry ∷ []) ≡ Starts f from to journal ++ map (λ m. record { message = m; time = entry.time }) (option_to_list loaded.loaded)
starts-more f from to journal entry loaded is =
    let begins : begun_with f from to journal entry ≡ option_to_list loaded.loaded =
    added-is (Begun f from to) (StationLog from journal) (calls_by from entry) (option_to_list loaded.loaded)
    (ap begun_in is ∙ begun_in-more (Slots f from to (StationLog from journal)) loaded) in
    Starts-push f from to journal entry
    ∙ ap (λ (ms : List Contents). Starts f from to journal ++ map (λ m. record { message = m; time = entry.time }) ms) begins

-- none or one call
if_all : (P : Call → Type 0) (b : Bool) (call : Call) → P call → All P (cond b (call ∷ []) [])
if_all P true call is = All-cons P call [] is (All-nil P)
if_all P false call is = All-nil P

-- what happened, alone
one_all : (P : Call → Type 0) (me : ℕ) (entry : Entry) → All P (calls_by me entry) → All P (StationLog me (entry ∷ []))
one_all P me entry all = All-append P (calls_by me entry) [] all (All-nil P)

module _ (s : Setup) (before : List Entry) (time from to : ℕ) where
  abbrev pub entries : Occasion → Outcome → List Entry
  entries o outcome = map (entry_of s time) (happens s before time o outcome)

  -- an occasion that doesn't touch the line brings its receiver no bits of it
  pub untouched-deaf : (o : Occasion) (outcome : Outcome) → touches from to o ≡ false → All (IsDeaf from) (StationLog to (entries o outcome))
  untouched-deaf (arrival receiver sender) nothing is = All-nil (IsDeaf from)
  untouched-deaf (arrival receiver sender) (gives bits) is =
      one_all (IsDeaf from) to (entry_of s time (Came receiver sender bits)) (go (receiver == to) (sender == from) refl is)
    where
      go : (b c : Bool) → (sender == from) ≡ c → (c && b) ≡ false
          → All (IsDeaf from) (cond b (made.Bits (stamp_at to (entry_of s time (Came receiver sender bits))) sender bits ∷ []) [])
      go false c other both = All-nil (IsDeaf from)
      go true true same both = absurd (cc)
      go true false other both = All-cons (IsDeaf from) _ [] (ap (λ (b : Bool). cond b bits []) other) (All-nil (IsDeaf from))
  untouched-deaf (arrival receiver sender) fails is =
      one_all (IsDeaf from) to (entry_of s time (TakeFailed receiver sender)) (if_all (IsDeaf from) (receiver == to) (made.Fault (stamp_at to (entry_of s time (TakeFailed receiver sender))) sender) refl)
  untouched-deaf (sampling station) outcome is = go (nat_lt (number_of s station (time - 1)) (number_of s station time))
    where
      what : What
      what = Took station (value_at s.settings s.shapes station time)

      go : (b : Bool) → All (IsDeaf from) (StationLog to (map (entry_of s time) (cond b (what ∷ []) [])))
      go true =
          one_all (IsDeaf from) to (entry_of s time what)
          (if_all (IsDeaf from) (station == to) (made.Sample (stamp_at to (entry_of s time what)) (value_at s.settings s.shapes station time)) refl)
      go false = All-nil (IsDeaf from)
  untouched-deaf (slot station) outcome is =
      let what = slot_with station (frames_at s before time station) in
      one_all (IsDeaf from) to (entry_of s time what) (if_all (IsDeaf from) (station == to) (made.Slot (stamp_at to (entry_of s time what))) refl)
  untouched-deaf (departure sender receiver) nothing is = All-nil (IsDeaf from)
  untouched-deaf (departure sender receiver) (gives bits) is = All-nil (IsDeaf from)
  untouched-deaf (departure sender receiver) fails is =
      one_all (IsDeaf from) to (entry_of s time (SendFailed sender receiver)) (if_all (IsDeaf from) (sender == to) (made.Fault (stamp_at to (entry_of s time (SendFailed sender receiver))) receiver) refl)

  -- and its sender no slot
  pub untouched-still : (o : Occasion) (outcome : Outcome) → touches from to o ≡ false → All IsNoSlot (StationLog from (entries o outcome))
  untouched-still (arrival receiver sender) nothing is = All-nil IsNoSlot
  untouched-still (arrival receiver sender) (gives bits) is =
      one_all IsNoSlot from (entry_of s time (Came receiver sender bits)) (if_all IsNoSlot (receiver == from) (made.Bits (stamp_at from (entry_of s time (Came receiver sender bits))) sender bits) tt)
  untouched-still (arrival receiver sender) fails is =
      one_all IsNoSlot from (entry_of s time (TakeFailed receiver sender)) (if_all IsNoSlot (receiver == from) (made.Fault (stamp_at from (entry_of s time (TakeFailed receiver sender))) sender) tt)
  untouched-still (sampling station) outcome is = go (nat_lt (number_of s station (time - 1)) (number_of s station time))
    where
      what : What
      what = Took station (value_at s.settings s.shapes station time)

      go : (b : Bool) → All IsNoSlot (StationLog from (map (entry_of s time) (cond b (what ∷ []) [])))
      go true =
          one_all IsNoSlot from (entry_of s time what)
          (if_all IsNoSlot (station == from) (made.Sample (stamp_at from (entry_of s time what)) (value_at s.settings s.shapes station time)) tt)
      go false = All-nil IsNoSlot
  untouched-still (slot station) outcome is =
      let what = slot_with station (frames_at s before time station) in
      one_all IsNoSlot from (entry_of s time what)
      (subst (λ (b : Bool). All IsNoSlot (cond b (made.Slot (stamp_at from (entry_of s time what)) ∷ []) [])) (sym is) (All-nil IsNoSlot))
  untouched-still (departure sender receiver) nothing is = All-nil IsNoSlot
  untouched-still (departure sender receiver) (gives bits) is = All-nil IsNoSlot
  untouched-still (departure sender receiver) fails is =
      one_all IsNoSlot from (entry_of s time (SendFailed sender receiver)) (if_all IsNoSlot (sender == from) (made.Fault (stamp_at from (entry_of s time (SendFailed sender receiver))) receiver) tt)

  -- bits that come over the line: the receiver's call, and none of the sender
  abbrev pub came : List ℕ → Entry
  came bits = entry_of s time (Came to from bits)

  pub came-there : (bits : List ℕ) → StationLog to (came bits ∷ []) ≡ made.Bits (stamp_at to (came bits)) from bits ∷ []
  came-there bits =
      append-nil (calls_by to (came bits)) ∙ ap (λ (b : Bool). cond b (made.Bits (stamp_at to (came bits)) from bits ∷ []) []) (eq-eqb to to refl)

  pub came-elsewhere : (bits : List ℕ) → from ≢ to → StationLog from (came bits ∷ []) ≡ []
  came-elsewhere bits differ =
      append-nil (calls_by from (came bits))
      ∙ ap (λ (b : Bool). cond b (made.Bits (stamp_at from (came bits)) from bits ∷ []) []) (ne_eqb to from (λ same. differ (sym same)))

  -- a slot of the sender: its call, and none of the receiver
  abbrev pub slotted : Entry
  slotted = entry_of s time (slot_with from (frames_at s before time from))

  pub slotted-here : calls_by from slotted ≡ made.Slot (stamp_at from slotted) ∷ []
  slotted-here = ap (λ (b : Bool). cond b (made.Slot (stamp_at from slotted) ∷ []) []) (eq-eqb from from refl)

  pub slotted-elsewhere : from ≢ to → StationLog to (slotted ∷ []) ≡ []
  slotted-elsewhere differ =
      append-nil (calls_by to slotted) ∙ ap (λ (b : Bool). cond b (made.Slot (stamp_at to slotted) ∷ []) []) (ne_eqb from to differ)
