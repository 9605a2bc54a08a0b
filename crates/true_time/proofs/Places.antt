-- What stands in a station's log came with an entry of the journal, at the stamp of that entry.
use Rattle.std.specs.Prelude.{◌==◌, Contains, slice_get}
use Rattle.std.specs.List.{flat_map}
use Rattle.std.proofs.Common.{◌≡◌, ℕ, zero, suc, ◌*◌, ◌-◌, ◌<◌, ◌≤◌, Bool, true, false, cond, List, [], ◌∷◌, ◌++◌, drop, length, Option, None, Some, take, refl, ap, sym, subst, ◌∙◌, append-nil, arith}
use Rattle.std.proofs.Math.Nat.{div-mul-le_self, mul-le-mul_right}
use Rattle.std.proofs.lemmas.Nat.{le-div}
use Rattle.ld_base.specs.declared.fields.Fields.{Fields}
use Rattle.pingpong.specs.Journal.{IsJournal, read_at}
use Rattle.pingpong.specs.Reading.{Reading, WithinDrift}
use Rattle.pingpong.specs.declared.journal.Entry.{Entry}
use Rattle.pingpong.specs.declared.journal.What.{What}
use Rattle.pingpong.specs.declared.journal.What.TheVariants.{Came, SendFailed, Slot, TakeFailed, Took}
use Rattle.pingpong.proofs.Journals.{Follows-in}
use Rattle.relay_message.specs.Messages.{added}
use Rattle.relay_core.specs.Accepted.{Accepted, Completed, accepted_among, accepted_of, completed_by}
use Rattle.relay_core.specs.Decided.{accepted_by}
use Rattle.relay_core.specs.Log.{now, stamp_of}
use Rattle.relay_core.specs.declared.call.Call.{Call}
use Rattle.relay_core.specs.declared.call.Call.TheVariants as made
use Rattle.relay_core.specs.declared.receipt.Receipt.{Receipt}
use Rattle.relay_core.proofs.Calls.{added-none, now-push}
use Rattle.sample_store.specs.Along.{along_from}
use Rattle.line_journal.specs.Crossings.{accepted_with}
use Rattle.relay_core.specs.StationLog.{StationLog, calls_by, calls_of, stamp_at}
use Rattle.line_journal.proofs.Entries.{StationLog-push}
use Rattle.true_time.specs.Places.{IsAt, WasAccepted, added_with}
use Rattle.true_time.proofs.Alongs.{IsGrowing, along-grows, comes-with, contains-later, flat_map-grows, take-one, take-past, then-grows}

-- an entry is none or one call of a station, at the stamp of its clock
pub record IsHanded (me : ℕ) (entry : Entry) (call : Call) : Type 0 where
  pub calls : calls_by me entry ≡ call ∷ []
  pub stamp : stamp_of call ≡ stamp_at me entry

pub data Handed (me : ℕ) (entry : Entry) : Type 0 where
  quiet : calls_by me entry ≡ [] → Handed me entry
  handing : (call : Call) → IsHanded me entry call → Handed me entry

handed-if : (me : ℕ) (entry : Entry) (b : Bool) (call : Call) → calls_by me entry ≡ cond b (call ∷ []) [] → stamp_of call ≡ stamp_at me entry → Handed me entry
handed-if me entry true call are at = handing call (record { calls = are; stamp = at })
handed-if me entry false call are at = quiet are

handed-of : (me : ℕ) (entry : Entry) (what : What) → entry.what ≡ what → Handed me entry
handed-of me entry (Took station values) is = handed-if me entry (station == me) (made.Sample (stamp_at me entry) values) (ap (calls_of me (stamp_at me entry)) is) refl
handed-of me entry (Slot station first second) is = handed-if me entry (station == me) (made.Slot (stamp_at me entry)) (ap (calls_of me (stamp_at me entry)) is) refl
handed-of me entry (Came station peer bits) is = handed-if me entry (station == me) (made.Bits (stamp_at me entry) peer bits) (ap (calls_of me (stamp_at me entry)) is) refl
handed-of me entry (SendFailed station peer) is = handed-if me entry (station == me) (made.Fault (stamp_at me entry) peer) (ap (calls_of me (stamp_at me entry)) is) refl
handed-of me entry (TakeFailed station peer) is = handed-if me entry (station == me) (made.Fault (stamp_at me entry) peer) (ap (calls_of me (stamp_at me entry)) is) refl

pub handed : (me : ℕ) (entry : Entry) → Handed me entry
handed me entry = handed-of me entry entry.what refl

-- what is told of a log, told of the journal
abbrev pub in_journal : {A : Type 0} → (List Call → List A) → ℕ → List Entry → List A
in_journal of me journal = of (StationLog me journal)

pub in_journal-grows : {A : Type 0} (of : List Call → List A) → IsGrowing of → (me : ℕ) → IsGrowing (in_journal of me)
in_journal-grows of grows me = then-grows of (StationLog me) grows (flat_map-grows (calls_by me))

pub added_with-is : {A : Type 0} (of : List Call → List A) (me : ℕ) (before : List Entry) (entry : Entry)
    → added (in_journal of me) before (entry ∷ []) ≡ added_with of me before entry
added_with-is of me before entry = ap (λ log. drop (length (of (StationLog me before))) (of log)) (StationLog-push me before entry)

-- what is told of a station's log by then came with an entry
pub record CameWith {A : Type 0} (of : List Call → List A) (me : ℕ) (journal : List Entry) (n : ℕ) (x : A) : Type 0 where
  pub place : ℕ
  pub entry : Entry
  pub early : place < n
  pub is_at : IsAt journal place entry
  pub brought : Contains (added_with of me (take place journal) entry) x

pub came-with : {A : Type 0} (of : List Call → List A) → IsGrowing of → of [] ≡ [] → (me : ℕ) (journal : List Entry) (n : ℕ) (x : A)
    → Contains (of (StationLog me (take n journal))) x → CameWith of me journal n x
came-with of grows none me journal n x has =
    let found = comes-with (in_journal of me) (in_journal-grows of grows me) none journal n x has in
    record {
      place = found.place;
      entry = found.element;
      early = found.early;
      is_at = found.is_at;
      brought = subst (λ ys. Contains ys x) (added_with-is of me (take found.place journal) found.element) found.brought;
    }

pub comes-later : {A : Type 0} (of : List Call → List A) → IsGrowing of → (me : ℕ) (journal : List Entry) (place n : ℕ) (entry : Entry) (x : A) → place < n → IsAt journal place entry
    → Contains (added_with of me (take place journal) entry) x → Contains (of (StationLog me (take n journal))) x
comes-later of grows me journal place n entry x early is_at brought =
    contains-later (in_journal of me) (in_journal-grows of grows me) journal place n entry x early is_at
    (subst (λ ys. Contains ys x) (sym (added_with-is of me (take place journal) entry)) brought)

-- accepted messages are such
pub Accepted-grows : (f : Fields) (me peer : ℕ) → IsGrowing (Accepted f me peer)
Accepted-grows f me peer =
    then-grows (accepted_among me peer) (Completed f peer) (along-grows (λ before accepted r. accepted_of me peer accepted r))
    (along-grows (λ before completed call. completed_by f peer before call))

pub accepted_with-is : (f : Fields) (me peer : ℕ) (before : List Entry) (entry : Entry)
    → accepted_with f me peer before entry ≡ added_with (Accepted f me peer) me before entry
accepted_with-is f me peer before entry = go (handed me entry)
  where
    log : List Call
    log = StationLog me before

    no_more : added (Accepted f me peer) log [] ≡ []
    no_more = added-none (Accepted f me peer) log [] (ap (Accepted f me peer) (append-nil log))

    go : Handed me entry → accepted_with f me peer before entry ≡ added_with (Accepted f me peer) me before entry
    go (quiet nothing) = ap (flat_map (accepted_by f me peer log)) nothing ∙ sym (ap (added (Accepted f me peer) log) nothing ∙ no_more)
    go (handing call is) = ap (flat_map (accepted_by f me peer log)) is.calls ∙ append-nil (accepted_by f me peer log call) ∙ sym (ap (added (Accepted f me peer) log) is.calls)

Accepted-none : (f : Fields) (me peer : ℕ) → Accepted f me peer [] ≡ []
unfolding along_from
Accepted-none f me peer = refl

pub accepted-came : (f : Fields) (me peer : ℕ) (journal : List Entry) (n : ℕ) (r : Receipt) → Contains (Accepted f me peer (StationLog me (take n journal))) r
    → (place : ℕ) × (entry : Entry) × (place < n) × WasAccepted f me peer journal place entry r
accepted-came f me peer journal n r has =
    let found = came-with (Accepted f me peer) (Accepted-grows f me peer) (Accepted-none f me peer) me journal n r has in (
      found.place,
      found.entry,
      found.early,
      record { is_at = found.is_at; accepted = subst (λ rs. Contains rs r) (sym (accepted_with-is f me peer (take found.place journal) found.entry)) found.brought },
    )

-- the phases of a clock never fall in a journal, nor do its stamps
phases-rise : (drift : ℕ) (earlier later : Reading) → drift ≤ 1000000 → WithinDrift drift earlier later → earlier.phase ≤ later.phase
phases-rise drift earlier later small within =
    let more : drift * (later.time - earlier.time) ≤ 1000000 * (later.time - earlier.time) = mul-le-mul_right (later.time - earlier.time) small in
    omega (arith, more, within.least)

module _ (drift : ℕ) (journal : List Entry) (small : drift ≤ 1000000) (in_turn : IsJournal drift journal) where
  pub stamps-rise : (me i j : ℕ) (earlier later : Entry) → (1 ≤ me) × (me ≤ 3) → i ≤ j → IsAt journal i earlier → IsAt journal j later → stamp_at me earlier ≤ stamp_at me later
  stamps-rise me i j earlier later station order is_earlier is_later =
      let follows = Follows-in drift journal i j earlier later in_turn order is_earlier is_later in
      let phases : (read_at me earlier).phase ≤ (read_at me later).phase = phases-rise drift (read_at me earlier) (read_at me later) small (follows.clocks me station.0 station.1) in
      let whole : stamp_at me earlier * 1000000 ≤ (read_at me earlier).phase = div-mul-le_self (read_at me earlier).phase 1000000 in
      le-div (stamp_at me earlier) (read_at me later).phase 1000000 (omega arith) (omega (arith, phases, whole))

  now-below : (me : ℕ) (n most : ℕ) → ((place : ℕ) (entry : Entry) → place < n → IsAt journal place entry → stamp_at me entry ≤ most) → now (StationLog me (take n journal)) ≤ most
  now-below me zero most each = omega arith
  now-below me (suc n) most each = go (slice_get journal n) refl (now-below me n most (λ place entry early is. each place entry (omega (arith, early)) is))
    where
      call-more : (entry : Entry) → IsAt journal n entry → now (StationLog me (take n journal)) ≤ most → Handed me entry
          → now (StationLog me (take n journal) ++ calls_by me entry) ≤ most
      call-more entry is before (quiet nothing) = subst (λ calls. now (StationLog me (take n journal) ++ calls) ≤ most) (sym nothing) (subst (λ log. now log ≤ most) (sym (append-nil (StationLog me (take n journal)))) before)
      call-more entry is before (handing call handed) =
          let at = each n entry (omega arith) is in
          let with = now-push (StationLog me (take n journal)) call in
          subst (λ calls. now (StationLog me (take n journal) ++ calls) ≤ most) (sym handed.calls) (omega (arith, before, at, with, handed.stamp))

      go : (found : Option Entry) → slice_get journal n ≡ found → now (StationLog me (take n journal)) ≤ most → now (StationLog me (take (suc n) journal)) ≤ most
      go None is before = subst (λ entries. now (StationLog me entries) ≤ most) (sym (take-past journal n is)) before
      go (Some entry) is before =
          let all = ap (StationLog me) (take-one journal n entry is) ∙ StationLog-push me (take n journal) entry in
          subst (λ log. now log ≤ most) (sym all) (call-more entry is before (handed me entry))

  -- a terminal's time at an entry of its own is the stamp of that entry
  pub now-at : (me place : ℕ) (entry : Entry) (call : Call) → (1 ≤ me) × (me ≤ 3) → IsAt journal place entry → IsHanded me entry call
      → now (StationLog me (take place journal) ++ call ∷ []) ≡ stamp_at me entry
  now-at me place entry call station is_at handed =
      let before = now-below me place (stamp_at me entry) (λ i earlier early is. stamps-rise me i place earlier entry station (omega (arith, early)) is is_at) in
      now-push (StationLog me (take place journal)) call ∙ omega (arith, before, handed.stamp)
