-- The messages that begin in a station's slot, on the histories.
use Rattle.std.specs.Prelude.{◌==◌, ◌&&◌, ◌||◌, find, is_some, reverse, slice_get}
use Rattle.std.specs.List.{list_any}
use Rattle.std.specs.Option.{option_to_list}
use Rattle.std.proofs.Common.{◌≡◌, ◌≢◌, ℕ, suc, ◌≤◌, Bool, true, false, cond, List, [], ◌∷◌, ◌++◌, All, map, Option, None, Some, get_or, inl, inr, refl, ap, sym, subst, ◌∙◌, arith}
use Rattle.std.proofs.lemmas.Bool.{and_parts, cases_Bool, cases_eq, eq-eqb, eqb-true, ne_eqb, or_parts}
use Rattle.std.proofs.lemmas.List.Elements.{All-head, All-map, All-tail}
use Rattle.ld_base.specs.Message.{Contents}
use Rattle.ld_base.specs.Settings.{setting_fault}
use Rattle.ld_base.specs.declared.fields.Fields.{Fields}
use Rattle.pingpong.specs.declared.journal.Entry.{Entry}
use Rattle.relay_message.specs.Messages.{added}
use Rattle.relay_core.specs.Answers.{outgo_by, outgo_of}
use Rattle.relay_core.specs.Log.{peers}
use Rattle.relay_core.specs.declared.call.Call.{Call}
use Rattle.relay_core.specs.Sent.{Begun}
use Rattle.relay_core.specs.declared.answers.Outgoing.{Outgoing}
use Rattle.ld_base.proofs.Accepted.{AreInRange-from_no_fault}
use Rattle.line_journal.specs.Account.{IsHistory}
use Rattle.line_journal.specs.Inside.{way_of}
use Rattle.line_journal.specs.Crossings.{Arrivals, accepted_with, begun_with}
use Rattle.line_journal.specs.LineHistory.{LineHistory}
use Rattle.line_journal.specs.Stations.{ways}
use Rattle.relay_core.specs.StationLog.{StationLog}
use Rattle.line_journal.specs.Told.{begun_to, last_on, with_begun, with_slot}
use Rattle.line_journal.specs.declared.crossing.Arrival.{Arrival}
use Rattle.line_journal.proofs.Entries.{Hands}
use Rattle.line_journal.proofs.LineLists.{IsHistory-begun, IsHistory-quiet, begun-elsewhere, begun-here}
use Rattle.line_journal.proofs.HistoryWays.{IsWay, each-way, line-found, peer-found}

heads : {A : Type 0} (x y : A) (xs ys : List A) → x ∷ xs ≡ y ∷ ys → x ≡ y
heads x y xs ys same = cc

tails : {A : Type 0} (x y : A) (xs ys : List A) → x ∷ xs ≡ y ∷ ys → xs ≡ ys
tails x y xs ys same = cc

-- the frames of a slot tell which message begins for a peer
begun_to-is : (f : Fields) (me : ℕ) (log : List Call) (call : Call) (p : ℕ) (frames : List Outgoing) (ps : List ℕ)
    → map outgo_of frames ≡ map (outgo_by f me log call) ps → list_any (λ q. q == p) ps ≡ true → added (Begun f me p) log (call ∷ []) ≡ option_to_list (begun_to p frames)
begun_to-is f me log call p [] [] are some = absurd (cc)
begun_to-is f me log call p [] (q ∷ ps) are some = absurd (cc)
begun_to-is f me log call p (o ∷ frames) [] are some = absurd (cc)
begun_to-is f me log call p (o ∷ frames) (q ∷ ps) are some =
    let head = heads (outgo_of o) (outgo_by f me log call q) (map outgo_of frames) (map (outgo_by f me log call) ps) are in
    let tail = tails (outgo_of o) (outgo_by f me log call q) (map outgo_of frames) (map (outgo_by f me log call) ps) are in
    let to : o.to ≡ q = ap (λ g. g.to) head in
    let begun : option_to_list o.begun ≡ added (Begun f me q) log (call ∷ []) = ap (λ g. g.begun) head in
    elim (cases_Bool (o.to == p)) [
      | inl hit ↦
          rw hit (subst (λ s. added (Begun f me s) log (call ∷ []) ≡ option_to_list o.begun) (sym to ∙ eqb-true o.to p hit) (sym begun))
      | inr miss ↦
          let other : (q == p) ≡ false = ap (λ s. s == p) (sym to) ∙ miss in
          let rest : list_any (λ q. q == p) ps ≡ true = sym (ap (λ b. b || list_any (λ q. q == p) ps) other) ∙ some in
          rw miss (begun_to-is f me log call p frames ps tail rest)
    ]

-- what is kept of the last arrival on a line
last-found : (f : Fields) (journal : List Entry) (peer me : ℕ) (histories : List LineHistory) → All (IsHistory f journal) histories
    → is_some (find (λ l. (l.from == peer) && (l.to == me)) histories) ≡ true → last_on histories peer me ≡ slice_get (reverse (Arrivals f me peer journal)) 0
last-found f journal peer me [] all some = absurd (cc)
last-found f journal peer me (l ∷ histories) all some = elim (cases_Bool ((l.from == peer) && (l.to == me))) [
  | inl hit ↦
      let parts = and_parts (l.from == peer) (l.to == me) hit in
      rw hit ((All-head (IsHistory f journal) l histories all).last
      ∙ ap (λ to. slice_get (reverse (Arrivals f to l.from journal)) 0) (eqb-true l.to me parts.1)
      ∙ ap (λ from. slice_get (reverse (Arrivals f me from journal)) 0) (eqb-true l.from peer parts.0))
  | inr miss ↦ rw miss (last-found f journal peer me histories (All-tail (IsHistory f journal) l histories all) (rw miss at some))
]

-- a history stays that of its line, and has room for one message less at the least
begun-way : (tick : ℕ) (heard : Option Arrival) (m : Option Contents) (l : LineHistory) → way_of (with_begun tick heard m l) ≡ way_of l
begun-way tick heard None l = refl
begun-way tick heard (Some m) l = refl

begun-room : (tick n : ℕ) (heard : Option Arrival) (m : Option Contents) (l : LineHistory) → suc n ≤ l.room → n ≤ (with_begun tick heard m l).room
begun-room tick n heard None l within = omega (arith, within)
begun-room tick n heard (Some m) l within = omega (arith, within)

slot-way : (tick me : ℕ) (heard : ℕ → Option Arrival) (frames : List Outgoing) (l : LineHistory) → way_of (with_slot tick me heard frames l) ≡ way_of l
slot-way tick me heard frames l = go (l.from == me)
  where
    go : (b : Bool) → way_of (cond b (with_begun tick (heard l.to) (begun_to l.to frames) l) l) ≡ way_of l
    go true = begun-way tick (heard l.to) (begun_to l.to frames) l
    go false = refl

slot-room : (tick me n : ℕ) (heard : ℕ → Option Arrival) (frames : List Outgoing) (l : LineHistory) → suc n ≤ l.room → n ≤ (with_slot tick me heard frames l).room
slot-room tick me n heard frames l within = go (l.from == me)
  where
    go : (b : Bool) → n ≤ (cond b (with_begun tick (heard l.to) (begun_to l.to frames) l) l).room
    go true = begun-room tick n (heard l.to) (begun_to l.to frames) l within
    go false = omega (arith, within)

pub ways-slot : (tick me : ℕ) (heard : ℕ → Option Arrival) (frames : List Outgoing) (histories : List LineHistory)
    → map way_of (map (with_slot tick me heard frames) histories) ≡ map way_of histories
ways-slot tick me heard frames [] = refl
ways-slot tick me heard frames (l ∷ histories) =
    ap (λ w. w ∷ map way_of (map (with_slot tick me heard frames) histories)) (slot-way tick me heard frames l) ∙ ap (λ ws. way_of l ∷ ws) (ways-slot tick me heard frames histories)

pub rooms-slot : (tick me : ℕ) (heard : ℕ → Option Arrival) (frames : List Outgoing) (histories : List LineHistory) (n : ℕ) → All (λ l. suc n ≤ l.room) histories
    → All (λ l. n ≤ l.room) (map (with_slot tick me heard frames) histories)
rooms-slot tick me heard frames histories n each =
    All-map (λ l. n ≤ l.room) (with_slot tick me heard frames) histories (λ k d inside. slot-room tick me n heard frames _ (each k d inside))

-- a slot in which no message begins changes no history
is-none : (m : Option Contents) → is_some m ≡ false → m ≡ None
is-none None none = refl
is-none (Some m) none = absurd (cc)

begun_to-none : (to : ℕ) (frames : List Outgoing) → list_any (λ o. is_some o.begun) frames ≡ false → begun_to to frames ≡ None
begun_to-none to [] none = refl
begun_to-none to (o ∷ frames) none =
    let parts = or_parts (is_some o.begun) (list_any (λ o. is_some o.begun) frames) none in
    elim (cases_Bool (o.to == to)) [
      | inl hit ↦ rw hit (is-none o.begun parts.0)
      | inr miss ↦ rw miss (begun_to-none to frames parts.1)
    ]

slot-same : (tick me : ℕ) (heard : ℕ → Option Arrival) (frames : List Outgoing) → list_any (λ o. is_some o.begun) frames ≡ false
    → (l : LineHistory) → with_slot tick me heard frames l ≡ l
slot-same tick me heard frames none l =
    ap (λ m. cond (l.from == me) (with_begun tick (heard l.to) m l) l) (begun_to-none l.to frames none) ∙ same (l.from == me)
  where
    same : (b : Bool) → cond b l l ≡ l
    same true = refl
    same false = refl

pub slot-quiet : (tick me : ℕ) (heard : ℕ → Option Arrival) (frames : List Outgoing) → list_any (λ o. is_some o.begun) frames ≡ false
    → (histories : List LineHistory) → map (with_slot tick me heard frames) histories ≡ histories
slot-quiet tick me heard frames none [] = refl
slot-quiet tick me heard frames none (l ∷ histories) =
    ap (λ x. x ∷ map (with_slot tick me heard frames) histories) (slot-same tick me heard frames none l) ∙ ap (λ xs. l ∷ xs) (slot-quiet tick me heard frames none histories)

-- with the slot each history is that of the journal with it
pub histories-slot : (f : Fields) (journal : List Entry) (entry : Entry) (me : ℕ) (call : Call) → Hands entry me call
    → (histories : List LineHistory) (heard : ℕ → Option Arrival) (frames : List Outgoing) → setting_fault f ≡ None → map way_of histories ≡ ways f
    → ((peer : ℕ) → 1 ≤ peer → peer ≤ 3 → heard peer ≡ last_on histories peer me) → map outgo_of frames ≡ map (outgo_by f me (StationLog me journal) call) (peers f me)
    → ((to peer : ℕ) → accepted_with f to peer journal entry ≡ []) → All (IsHistory f journal) histories
    → All (IsHistory f (journal ++ entry ∷ [])) (map (with_slot entry.time me heard frames) histories)
histories-slot f journal entry me call hands histories heard frames none are is_heard is_frames quiet all =
    All-map (IsHistory f (journal ++ entry ∷ [])) (with_slot entry.time me heard frames) histories (λ k d inside.
    one (get_or histories k d) (all k d inside) (each-way f none histories are k d inside))
  where
    one : (l : LineHistory) → IsHistory f journal l → IsWay f.stations (way_of l) → IsHistory f (journal ++ entry ∷ []) (with_slot entry.time me heard frames l)
    one l is way = elim (cases_eq l.from me) [
      | inl mine ↦
          let most = (AreInRange-from_no_fault f none).stations.1 in
          let back : l.to ≢ me = λ same. way.differ (mine ∙ sym same) in
          let least : 1 ≤ me = subst (λ s. 1 ≤ s) mine way.from.0 in
          let within : me ≤ f.stations = subst (λ s. s ≤ f.stations) mine way.from.1 in
          let echoes : heard l.to ≡ slice_get (reverse (Arrivals f l.from l.to journal)) 0 =
          is_heard l.to way.to.0 (omega (arith, way.to.1, most))
          ∙ last-found f journal l.to me histories all (line-found f none histories are l.to me way.to.0 way.to.1 least within back)
          ∙ ap (λ s. slice_get (reverse (Arrivals f s l.to journal)) 0) (sym mine) in
          let begun : begun_with f l.from l.to journal entry ≡ option_to_list (begun_to l.to frames) =
          ap (λ s. begun_with f s l.to journal entry) mine
          ∙ begun-here f me l.to journal entry call hands
          ∙ begun_to-is f me (StationLog me journal) call l.to frames (peers f me) is_frames
          (peer-found f none histories are me l.to least within way.to.0 way.to.1 (λ same. back (sym same))) in
          subst (λ b. IsHistory f (journal ++ entry ∷ []) (cond b (with_begun entry.time (heard l.to) (begun_to l.to frames) l) l)) (sym (eq-eqb l.from me mine))
          (IsHistory-begun f journal entry l is (heard l.to) (begun_to l.to frames) echoes begun (quiet l.to l.from))
      | inr other ↦
          subst (λ b. IsHistory f (journal ++ entry ∷ []) (cond b (with_begun entry.time (heard l.to) (begun_to l.to frames) l) l)) (sym (ne_eqb l.from me other))
          (IsHistory-quiet f journal entry l is (begun-elsewhere f l.from l.to journal entry (hands.elsewhere l.from other)) (quiet l.to l.from))
    ]
