-- What an entry adds to the lists of a line: the messages that began on it, those that were accepted, and their exchanges.
use Rattle.std.specs.Prelude.{filter, find, not, option_map, reverse, slice_get}
use Rattle.std.specs.List.{flat_map}
use Rattle.std.specs.Option.{option_and_then, option_to_list}
use Rattle.std.proofs.Common.{◌≡◌, ℕ, Bool, true, false, cond, List, [], ◌∷◌, ◌++◌, map, Option, None, Some, take, inl, inr, refl, ap, sym, ◌∙◌, append-nil, arith}
use Rattle.std.proofs.lemmas.Bool.{cases_Bool}
use Rattle.std.proofs.lemmas.List.{map-append, reverse-append, take-take}
use Rattle.std.proofs.lemmas.List.Elements.{filter-append}
use Rattle.ld_base.specs.Message.{Contents}
use Rattle.ld_base.specs.declared.fields.Fields.{Fields}
use Rattle.pingpong.specs.Exchange.{Stamps, exchange_of}
use Rattle.offset_track.specs.InForce.{is_slow, kept}
use Rattle.offset_track.specs.declared.track.Taken.{Taken}
use Rattle.offset_track.specs.declared.track.Taken.TheVariants as taken
use Rattle.relay_core.specs.Answers.{taken_of}
use Rattle.pingpong.specs.declared.journal.Entry.{Entry}
use Rattle.relay_message.specs.Messages.{added}
use Rattle.relay_core.specs.Decided.{accepted_by}
use Rattle.relay_core.specs.Accepted.{Accepted}
use Rattle.relay_core.specs.Line.{bits_from}
use Rattle.relay_core.specs.declared.call.Call.{Call}
use Rattle.relay_core.specs.Sent.{Begun, Slots, begun_in, slot_by}
use Rattle.relay_core.proofs.Accepting.{Accepted-same}
use Rattle.relay_core.proofs.Calls.{Slots-push, added-none}
use Rattle.relay_core.proofs.Following.{Line-same}
use Rattle.relay_core.proofs.Lists.{map-mapped}
use Rattle.sample_store.proofs.Alongs.{along-both, along-push}
use Rattle.line_journal.specs.Account.{IsHistory}
use Rattle.line_journal.specs.Crossings.{Arrivals, Beginnings, Crossings, Start, Starts, accepted_with, arrivals_with, beginnings_with, begun_with, crossing_by, is_same, legs_from, slot_time}
use Rattle.line_journal.specs.LineHistory.{LineHistory}
use Rattle.relay_core.specs.StationLog.{StationLog, calls_by}
use Rattle.line_journal.specs.Told.{arrival_on, beginning_of, with_accepted, with_begun, with_kept}
use Rattle.line_journal.specs.declared.crossing.Arrival.{Arrival}
use Rattle.line_journal.specs.declared.crossing.Beginning.{Beginning}
use Rattle.line_journal.specs.declared.crossing.Crossing.{Crossing}
use Rattle.line_journal.specs.declared.crossing.Legs.{Legs}
use Rattle.line_journal.proofs.Entries.{Hands, told-here}

pub Beginnings-push : (f : Fields) (from to : ℕ) (journal : List Entry) (entry : Entry)
    → Beginnings f from to (journal ++ entry ∷ []) ≡ Beginnings f from to journal ++ beginnings_with f from to journal entry
Beginnings-push f from to journal entry = along-push (λ before so_far entry. beginnings_with f from to before entry) journal entry

pub Arrivals-push : (f : Fields) (me peer : ℕ) (journal : List Entry) (entry : Entry)
    → Arrivals f me peer (journal ++ entry ∷ []) ≡ Arrivals f me peer journal ++ arrivals_with f me peer journal entry
Arrivals-push f me peer journal entry = along-push (λ before so_far entry. arrivals_with f me peer before entry) journal entry

pub Crossings-push : (f : Fields) (me peer : ℕ) (journal : List Entry) (entry : Entry)
    → Crossings f me peer (journal ++ entry ∷ []) ≡ Crossings f me peer journal ++ flat_map (crossing_by f me peer journal entry) (accepted_with f me peer journal entry)
Crossings-push f me peer journal entry = along-push (λ before so_far entry. flat_map (crossing_by f me peer before entry) (accepted_with f me peer before entry)) journal entry

Starts-push : (f : Fields) (from to : ℕ) (journal : List Entry) (entry : Entry)
    → Starts f from to (journal ++ entry ∷ []) ≡ Starts f from to journal ++ map (λ m. record { message = m; time = entry.time }) (begun_with f from to journal entry)
Starts-push f from to journal entry =
    along-push (λ before so_far entry. map (λ m. record { message = m; time = entry.time }) (begun_with f from to before entry)) journal entry

-- an entry of another station begins nothing and brings nothing
pub begun-elsewhere : (f : Fields) (from to : ℕ) (journal : List Entry) (entry : Entry) → calls_by from entry ≡ [] → begun_with f from to journal entry ≡ []
begun-elsewhere f from to journal entry none =
    ap (added (Begun f from to) (StationLog from journal)) none
    ∙ added-none (Begun f from to) (StationLog from journal) [] (ap (Begun f from to) (append-nil (StationLog from journal)))

pub accepted-elsewhere : (f : Fields) (me peer : ℕ) (journal : List Entry) (entry : Entry) → calls_by me entry ≡ [] → accepted_with f me peer journal entry ≡ []
accepted-elsewhere f me peer journal entry none = ap (flat_map (accepted_by f me peer (StationLog me journal))) none

-- and one of the station what its call does
pub begun-here : (f : Fields) (from to : ℕ) (journal : List Entry) (entry : Entry) (call : Call) → Hands entry from call
    → begun_with f from to journal entry ≡ added (Begun f from to) (StationLog from journal) (call ∷ [])
begun-here f from to journal entry call hands = ap (added (Begun f from to) (StationLog from journal)) hands.here

pub accepted-here : (f : Fields) (me peer : ℕ) (journal : List Entry) (entry : Entry) (call : Call) → Hands entry me call
    → accepted_with f me peer journal entry ≡ accepted_by f me peer (StationLog me journal) call
accepted-here f me peer journal entry call hands = told-here (accepted_by f me peer (StationLog me journal)) entry me call hands

-- a call that is no slot, and one that brings no bits from the peer
pub begun-silent : (f : Fields) (me peer : ℕ) (log : List Call) (call : Call) → slot_by f me peer log (Slots f me peer log) call ≡ []
    → added (Begun f me peer) log (call ∷ []) ≡ []
begun-silent f me peer log call none =
    added-none (Begun f me peer) log (call ∷ [])
    (ap begun_in (Slots-push f me peer log call ∙ ap (λ slots. Slots f me peer log ++ slots) none ∙ append-nil (Slots f me peer log)))

pub accepted-silent : (f : Fields) (me peer : ℕ) (log : List Call) (call : Call) → bits_from peer call ≡ [] → accepted_by f me peer log call ≡ []
accepted-silent f me peer log call none = added-none (Accepted f me peer) log (call ∷ []) (Accepted-same f me peer log call (Line-same peer log call none))

-- the slots of messages are those of their beginnings
abbrev start_of : Beginning → Start
start_of b = record { message = b.message; time = b.time }

Starts-are : (f : Fields) (from to : ℕ) (journal : List Entry) → Starts f from to journal ≡ map start_of (Beginnings f from to journal)
Starts-are f from to journal =
    along-both (λ before so_far entry. map (λ m. record { message = m; time = entry.time }) (begun_with f from to before entry))
    (λ before so_far entry. beginnings_with f from to before entry) (λ before starts begun. starts ≡ map start_of begun) refl
    (λ before starts begun entry are.
    ap (λ all. all ++ map (λ m. record { message = m; time = entry.time }) (begun_with f from to before entry)) are
    ∙ sym (map-append start_of begun (beginnings_with f from to before entry) ∙ ap (λ more. map start_of begun ++ more) (map-mapped start_of _ (begun_with f from to before entry))))
    journal

find-start : (m : Contents) (begun : List Beginning)
    → option_map (λ start. start.time) (find (λ start. is_same m start.message) (map start_of begun)) ≡ option_map (λ b. b.time) (find (λ b. is_same m b.message) begun)
find-start m [] = refl
find-start m (b ∷ begun) = elim (cases_Bool (is_same m b.message)) [
  | inl same ↦ rw same refl
  | inr other ↦ rw other (find-start m begun)
]

pub slot_time-is : (f : Fields) (from to : ℕ) (journal : List Entry) (m : Contents)
    → slot_time f from to journal m ≡ option_map (λ b. b.time) (find (λ b. is_same m b.message) (Beginnings f from to journal))
slot_time-is f from to journal m =
    ap (λ starts. option_map (λ start. start.time) (find (λ start. is_same m start.message) starts)) (Starts-are f from to journal)
    ∙ find-start m (Beginnings f from to journal)

module _ (f : Fields) (journal : List Entry) (entry : Entry) (l : LineHistory) (is : IsHistory f journal l) where
  abbrev after : List Entry
  after = journal ++ entry ∷ []

  begun-more : (ms : List Contents) → begun_with f l.from l.to journal entry ≡ ms
      → Beginnings f l.from l.to after ≡ l.begun ++ map (λ m. record { message = m; time = entry.time; heard = slice_get (reverse (Arrivals f l.from l.to journal)) 0 }) ms
  begun-more ms are =
      Beginnings-push f l.from l.to journal entry
      ∙ ap (λ xs. Beginnings f l.from l.to journal ++ map (λ m. record { message = m; time = entry.time; heard = slice_get (reverse (Arrivals f l.from l.to journal)) 0 }) xs) are
      ∙ ap (λ xs. xs ++ map (λ m. record { message = m; time = entry.time; heard = slice_get (reverse (Arrivals f l.from l.to journal)) 0 }) ms) (sym is.begun)

  last-same : accepted_with f l.to l.from journal entry ≡ [] → l.last ≡ slice_get (reverse (Arrivals f l.to l.from after)) 0
  last-same none =
      is.last ∙ ap (λ xs. slice_get (reverse xs) 0) (sym (
      Arrivals-push f l.to l.from journal entry
      ∙ ap (λ rs. Arrivals f l.to l.from journal ++ map (λ r. record { came = entry.time; began = slot_time f l.from l.to journal r.message }) rs) none
      ∙ append-nil (Arrivals f l.to l.from journal)
      ))

  crossings-same : accepted_with f l.to l.from journal entry ≡ [] → l.newest_first ≡ kept (λ crossing. crossing.exchange) f.slow (Crossings f l.to l.from after)
  crossings-same none =
      is.crossings ∙ ap (kept (λ crossing. crossing.exchange) f.slow) (sym (
      Crossings-push f l.to l.from journal entry
      ∙ ap (λ rs. Crossings f l.to l.from journal ++ flat_map (crossing_by f l.to l.from journal entry) rs) none
      ∙ append-nil (Crossings f l.to l.from journal)
      ))

  -- nothing happens on the line
  pub IsHistory-quiet : begun_with f l.from l.to journal entry ≡ [] → accepted_with f l.to l.from journal entry ≡ [] → IsHistory f (journal ++ entry ∷ []) l
  IsHistory-quiet begun none = record { begun = sym (begun-more [] begun ∙ append-nil l.begun); last = last-same none; crossings = crossings-same none }

  -- a message begins, or none
  pub IsHistory-begun : (heard : Option Arrival) (m : Option Contents) → heard ≡ slice_get (reverse (Arrivals f l.from l.to journal)) 0
      → begun_with f l.from l.to journal entry ≡ option_to_list m → accepted_with f l.to l.from journal entry ≡ []
      → IsHistory f (journal ++ entry ∷ []) (with_begun entry.time heard m l)
  IsHistory-begun heard None echoes begun none = IsHistory-quiet begun none
  IsHistory-begun heard (Some m) echoes begun none = record {
    begun = ap (λ h. l.begun ++ record { message = m; time = entry.time; heard = h } ∷ []) echoes ∙ sym (begun-more (m ∷ []) begun);
    last = last-same none;
    crossings = crossings-same none;
  }

-- the exchanges that are kept, with one more or none
kept-one : (slow : ℕ) (before : List Crossing) (c : Crossing) (b : Bool) → is_slow slow c.exchange ≡ b
    → with_kept (Some (cond b taken.Slow taken.Kept)) (Some c.exchange) c.legs (kept (λ crossing. crossing.exchange) slow before)
    ≡ kept (λ crossing. crossing.exchange) slow (before ++ c ∷ [])
kept-one slow before c true is =
    ap (λ xs. take 8 (reverse xs)) (sym (
    filter-append (λ x. not (is_slow slow x.exchange)) before (c ∷ [])
    ∙ ap (λ b. filter (λ x. not (is_slow slow x.exchange)) before ++ cond (not b) (c ∷ []) []) is
    ∙ append-nil (filter (λ x. not (is_slow slow x.exchange)) before)
    ))
kept-one slow before c false is =
    ap (λ xs. c ∷ xs) (take-take 7 8 (reverse (filter (λ x. not (is_slow slow x.exchange)) before)) (omega arith))
    ∙ ap (take 8) (sym (
    ap reverse (
    filter-append (λ x. not (is_slow slow x.exchange)) before (c ∷ [])
    ∙ ap (λ b. filter (λ x. not (is_slow slow x.exchange)) before ++ cond (not b) (c ∷ []) []) is
    )
    ∙ reverse-append (filter (λ x. not (is_slow slow x.exchange)) before) (c ∷ [])
    ))

kept-more : (slow : ℕ) (before : List Crossing) (e : Option Stamps) (legs : Option Legs) (taken : Option Taken) → taken ≡ option_map (taken_of slow) e
    → with_kept taken e legs (kept (λ crossing. crossing.exchange) slow before)
    ≡ kept (λ crossing. crossing.exchange) slow (before ++ map (λ exchange. record { exchange = exchange; legs = legs }) (option_to_list e))
kept-more slow before None legs taken is =
    ap (λ t. with_kept t None legs (kept (λ crossing. crossing.exchange) slow before)) is ∙ ap (kept (λ crossing. crossing.exchange) slow) (sym (append-nil before))
kept-more slow before (Some e) legs taken is =
    ap (λ t. with_kept t (Some e) legs (kept (λ crossing. crossing.exchange) slow before)) is
    ∙ kept-one slow before (record { exchange = e; legs = legs }) (is_slow slow e) refl

module _ (f : Fields) (journal : List Entry) (entry : Entry) (l : LineHistory) (is : IsHistory f journal l) where
  began_same : (m : Contents) → slot_time f l.from l.to journal m ≡ option_map (λ b. b.time) (beginning_of l m)
  began_same m = slot_time-is f l.from l.to journal m ∙ ap (λ begun. option_map (λ b. b.time) (find (λ b. is_same m b.message) begun)) (sym is.begun)

  -- what arrives with the messages accepted
  pub arrivals-are : (at : ℕ) (m : Option Contents) → accepted_with f l.to l.from journal entry ≡ option_to_list (option_map (λ x. record { message = x; at = at }) m)
      → arrivals_with f l.to l.from journal entry ≡ option_to_list (option_map (arrival_on entry.time l) m)
  arrivals-are at None accepted = ap (map (λ r. record { came = entry.time; began = slot_time f l.from l.to journal r.message })) accepted
  arrivals-are at (Some m) accepted =
      ap (map (λ r. record { came = entry.time; began = slot_time f l.from l.to journal r.message })) accepted
      ∙ ap (λ began. record { came = entry.time; began = began } ∷ []) (began_same m)

  crossings-are : (at : ℕ) (m : Contents) → accepted_with f l.to l.from journal entry ≡ record { message = m; at = at } ∷ []
      → Crossings f l.to l.from (journal ++ entry ∷ [])
      ≡ Crossings f l.to l.from journal ++ map (λ e. record { exchange = e; legs = legs_from entry.time (beginning_of l m) }) (option_to_list (exchange_of m at))
  crossings-are at m accepted =
      Crossings-push f l.to l.from journal entry
      ∙ ap (λ rs. Crossings f l.to l.from journal ++ flat_map (crossing_by f l.to l.from journal entry) rs) accepted
      ∙ ap (λ xs. Crossings f l.to l.from journal ++ xs) (append-nil (crossing_by f l.to l.from journal entry (record { message = m; at = at })))
      ∙ ap (λ legs. Crossings f l.to l.from journal ++ map (λ e. record { exchange = e; legs = legs }) (option_to_list (exchange_of m at)))
      (ap (λ begun. legs_from entry.time (find (λ b. is_same m b.message) begun)) (sym is.begun))

  -- a message is accepted, or none
  pub IsHistory-accepted : (at : ℕ) (taken : Option Taken) (m : Option Contents) → begun_with f l.from l.to journal entry ≡ []
      → accepted_with f l.to l.from journal entry ≡ option_to_list (option_map (λ x. record { message = x; at = at }) m)
      → taken ≡ option_and_then (λ x. option_map (taken_of f.slow) (exchange_of x at)) m
      → IsHistory f (journal ++ entry ∷ []) (with_accepted entry.time at taken m l)
  IsHistory-accepted at taken None begun accepted is_taken = IsHistory-quiet f journal entry l is begun accepted
  IsHistory-accepted at taken (Some m) begun accepted is_taken = record {
    begun = (IsHistory-quiet-begun begun);
    last = sym (
        ap (λ xs. slice_get (reverse xs) 0) (Arrivals-push f l.to l.from journal entry ∙ ap (λ xs. Arrivals f l.to l.from journal ++ xs) (arrivals-are at (Some m) accepted))
        ∙ ap (λ xs. slice_get xs 0) (reverse-append (Arrivals f l.to l.from journal) (arrival_on entry.time l m ∷ []))
        );
    crossings =
        ap (with_kept taken (exchange_of m at) (legs_from entry.time (beginning_of l m))) is.crossings
        ∙ kept-more f.slow (Crossings f l.to l.from journal) (exchange_of m at) (legs_from entry.time (beginning_of l m)) taken is_taken
        ∙ ap (kept (λ crossing. crossing.exchange) f.slow) (sym (crossings-are at m accepted));
  }
    where
      IsHistory-quiet-begun : begun_with f l.from l.to journal entry ≡ [] → l.begun ≡ Beginnings f l.from l.to (journal ++ entry ∷ [])
      IsHistory-quiet-begun none = sym (begun-more f journal entry l is [] none ∙ append-nil l.begun)
