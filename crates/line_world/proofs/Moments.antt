-- The moments of a scenario go up in time and name stations of the line, and so do the entries of the journal that they lead to.
use Rattle.std.proofs.Common.{◌≡◌, ◌≢◌, ℕ, zero, suc, ◌<◌, ◌≤◌, Bool, true, false, cond, List, [], ◌∷◌, ◌++◌, map, arith, refl, sym, subst, append_assoc, append-nil}
use Rattle.std.specs.Prelude.{◌%◌, ◌==◌, ◌-◌, nat_lt, nat_le, All, AllPairs}
use Rattle.std.specs.List.{flat_map}
use Rattle.std.proofs.lemmas.Bool.Decides.{nat_tests}
use Rattle.std.proofs.lemmas.List.Elements.{All-append, All-cons, All-filter, All-head, All-map, All-nil, All-push, All-tail, All-weaker, filter_passes}
use Rattle.std.proofs.lemmas.List.Quantifiers.{all_pairs_push}
use Rattle.ld_base.specs.declared.fields.Fields.{Fields}
use Rattle.pingpong.specs.declared.journal.Entry.{Entry}
use Rattle.pingpong.specs.declared.journal.What.{What}
use Rattle.pingpong.specs.declared.journal.What.TheVariants.{Came, SendFailed, TakeFailed, Took}
use Rattle.relay_core.specs.Log.{is_peer, peers}
use Rattle.waveform_reader.specs.Scenario.{Setup}
use Rattle.waveform_reader.specs.Shapes.{value_at}
use Rattle.waveform_reader.specs.Sound.{IsStation}
use Rattle.line_world.specs.Journals.{AreFirst, IsEntry}
use Rattle.line_journal.specs.Stations.{ArePair, Names, Way, stations, ways}
use Rattle.line_world.specs.Occasions.{Moment, Occasion, arrivals, at_tick, moments, moments_at, occasions, samplings, slot_of, slots}
use Rattle.line_world.specs.Occasions.Occasion.{arrival, departure, sampling, slot}
use Rattle.line_world.specs.World.{Event, Leads, Outcome, entries_of, entry_of, frames_at, happens, journal_with, number_of, slot_with}
use Rattle.line_world.specs.World.Outcome.{fails, gives, nothing}

-- what is made of each of some elements
All-made : {A B : Type 0} (P : A → Type 0) (Q : B → Type 0) (made : A → List B) (xs : List A) → All P xs → ((x : A) → P x → All Q (made x))
    → All Q (flat_map made xs)
All-made P Q made [] all each = All-nil Q
All-made P Q made (x ∷ xs) all each =
    All-append Q (made x) (flat_map made xs) (each x (All-head P x xs all)) (All-made P Q made xs (All-tail P x xs all) each)

-- an occasion names stations of so many, and none as its own peer
abbrev Fits : ℕ → Occasion → Type 0
Fits count (arrival receiver sender) = ArePair count receiver sender
Fits count (sampling station) = IsStation count station
Fits count (slot station) = IsStation count station
Fits count (departure sender receiver) = ArePair count sender receiver

-- the three stations that there may be
some_three : All (λ station. 1 ≤ station) (1 ∷ 2 ∷ 3 ∷ [])
some_three = let P = λ (station : ℕ). 1 ≤ station in
    All-cons P 1 (2 ∷ 3 ∷ []) (omega arith) (All-cons P 2 (3 ∷ []) (omega arith) (All-cons P 3 [] (omega arith) (All-nil P)))

-- those of a line
is_station : (n station : ℕ) → 1 ≤ station → nat_le station n ≡ true → IsStation n station
is_station n station low test = grind (arith, nat_tests)

stations-fit : (f : Fields) → All (IsStation f.stations) (stations f)
stations-fit f k d inside =
    let test = λ (station : ℕ). nat_le station f.stations in
    is_station f.stations _ (All-filter test (λ station. 1 ≤ station) (1 ∷ 2 ∷ 3 ∷ []) some_three k d inside) (filter_passes test (1 ∷ 2 ∷ 3 ∷ []) k d inside)

-- and the peers of one
is_other : (f : Fields) (me station : ℕ) → 1 ≤ station → is_peer f me station ≡ true → IsStation f.stations station × (me ≢ station)
is_other f me station low test = grind (arith, nat_tests)

peers-fit : (f : Fields) (me : ℕ) → All (λ peer. IsStation f.stations peer × (me ≢ peer)) (peers f me)
peers-fit f me k d inside =
    is_other f me _ (All-filter (is_peer f me) (λ station. 1 ≤ station) (1 ∷ 2 ∷ 3 ∷ []) some_three k d inside) (filter_passes (is_peer f me) (1 ∷ 2 ∷ 3 ∷ []) k d inside)

pairs-fit : (f : Fields) (me : ℕ) → IsStation f.stations me → All (ArePair f.stations me) (peers f me)
pairs-fit f me is =
    All-weaker (λ peer. IsStation f.stations peer × (me ≢ peer)) (ArePair f.stations me) (λ peer there. record { one_there = is; other_there = there.0; differ = there.1 })
    (peers f me) (peers-fit f me)

-- the occasions of a tick
ways-fit : (f : Fields) → All (λ way. ArePair f.stations way.to way.from) (ways f)
ways-fit f =
    All-made (IsStation f.stations) (λ (way : Way). ArePair f.stations way.to way.from) (λ receiver. map (λ sender. record { from = sender; to = receiver }) (peers f receiver))
    (stations f) (stations-fit f)
    (λ receiver is. All-map (λ (way : Way). ArePair f.stations way.to way.from) (λ sender. record { from = sender; to = receiver }) (peers f receiver) (pairs-fit f receiver is))

slot-fits : (f : Fields) (station : ℕ) → IsStation f.stations station → All (Fits f.stations) (slot_of f station)
slot-fits f station is =
    All-cons (Fits f.stations) (slot station) (map (departure station) (peers f station)) is
    (All-map (Fits f.stations) (departure station) (peers f station) (pairs-fit f station is))

slots-fit : (f : Fields) (tick : ℕ) → All (Fits f.stations) (slots f tick)
slots-fit f tick = go (tick % 125 == 0)
  where
    go : (b : Bool) → All (Fits f.stations) (cond b (flat_map (slot_of f) (stations f)) [])
    go true = All-made (IsStation f.stations) (Fits f.stations) (slot_of f) (stations f) (stations-fit f) (slot-fits f)
    go false = All-nil (Fits f.stations)

occasions-fit : (f : Fields) (tick : ℕ) → All (Fits f.stations) (occasions f tick)
occasions-fit f tick =
    All-append (Fits f.stations) (arrivals f ++ samplings f) (slots f tick)
    (All-append (Fits f.stations) (arrivals f) (samplings f) (All-map (Fits f.stations) (λ (way : Way). arrival way.to way.from) (ways f) (ways-fit f))
    (All-map (Fits f.stations) sampling (stations f) (stations-fit f)))
    (slots-fit f tick)

-- moments whose times never fall, from one on and before another, and whose occasions fit
abbrev InTurn : ℕ → ℕ → ℕ → List Moment → Type 0
InTurn count low high [] = Unit {0}
InTurn count low high (m ∷ ms) = (low ≤ m.time) × (m.time < high) × Fits count m.occasion × InTurn count m.time high ms

InTurn-lower : (count low other high : ℕ) (ms : List Moment) → low ≤ other → InTurn count other high ms → InTurn count low high ms
InTurn-lower count low other high [] below turn = tt
InTurn-lower count low other high (m ∷ ms) below turn = (omega (arith, below, turn.0), turn.1, turn.2, turn.3)

InTurn-join : (count low middle high : ℕ) (xs ys : List Moment) → low ≤ middle → middle ≤ high → InTurn count low middle xs → InTurn count middle high ys
    → InTurn count low high (xs ++ ys)
InTurn-join count low middle high [] ys below above first second = InTurn-lower count low middle high ys below second
InTurn-join count low middle high (m ∷ xs) ys below above first second = (
  first.0,
  omega (arith, above, first.1),
  first.2,
  InTurn-join count m.time middle high xs ys (omega (arith, first.1)) above first.3 second,
)

InTurn-front : (count low high : ℕ) (xs ys : List Moment) → InTurn count low high (xs ++ ys) → InTurn count low high xs
InTurn-front count low high [] ys turn = tt
InTurn-front count low high (m ∷ xs) ys turn = (turn.0, turn.1, turn.2, InTurn-front count m.time high xs ys turn.3)

InTurn-tick : (count tick : ℕ) (these : List Occasion) → All (Fits count) these → InTurn count tick (suc tick) (at_tick tick these)
InTurn-tick count tick [] all = tt
InTurn-tick count tick (o ∷ these) all = (
  omega arith,
  omega arith,
  All-head (Fits count) o these all,
  InTurn-tick count tick these (All-tail (Fits count) o these all),
)

-- those of a scenario
moments-in_turn : (f : Fields) (n : ℕ) → InTurn f.stations 0 n (moments f n)
unfolding moments
moments-in_turn f zero = tt
moments-in_turn f (suc n) =
    InTurn-join f.stations 0 n (suc n) (moments f n) (moments_at f n) (omega arith) (omega arith) (moments-in_turn f n)
    (InTurn-tick f.stations n (occasions f n) (occasions-fit f n))

first-in_turn : (s : Setup) (these : List Moment) → AreFirst s these → InTurn s.settings.stations 0 s.end these
first-in_turn s these first =
    InTurn-front s.settings.stations 0 s.end these first.left (subst (InTurn s.settings.stations 0 s.end) (sym first.are) (moments-in_turn s.settings s.end))

-- what happens names the stations of its occasion
module _ (s : Setup) (before : List Entry) (time : ℕ) where
  abbrev N : What → Type 0
  N what = Names s.settings.stations what

  alone : (what : What) → N what → All N (what ∷ [])
  alone what is = All-cons N what [] is (All-nil N)

  happens-named : (o : Occasion) (outcome : Outcome) → Fits s.settings.stations o → All N (happens s before time o outcome)
  happens-named (arrival receiver sender) nothing fit = All-nil N
  happens-named (arrival receiver sender) (gives bits) fit = alone (Came receiver sender bits) fit
  happens-named (arrival receiver sender) fails fit = alone (TakeFailed receiver sender) fit
  happens-named (sampling station) outcome fit = go (nat_lt (number_of s station (time - 1)) (number_of s station time))
    where
      go : (b : Bool) → All N (cond b (Took station (value_at s.settings s.shapes station time) ∷ []) [])
      go true = alone (Took station (value_at s.settings s.shapes station time)) fit
      go false = All-nil N
  happens-named (slot station) outcome fit = alone (slot_with station (frames_at s before time station)) fit
  happens-named (departure sender receiver) nothing fit = All-nil N
  happens-named (departure sender receiver) (gives bits) fit = All-nil N
  happens-named (departure sender receiver) fails fit = alone (SendFailed sender receiver) fit

-- a journal of a scenario so far, up to a time
pub record IsSoFar (s : Setup) (time : ℕ) (journal : List Entry) : Type 0 where
  pub entries : All (IsEntry s) journal
  pub past : All (λ entry. entry.time ≤ time) journal
  pub order : AllPairs (λ earlier later. earlier.time ≤ later.time) journal

IsSoFar-none : (s : Setup) → IsSoFar s 0 []
IsSoFar-none s = record { entries = All-nil (IsEntry s); past = All-nil (λ entry. entry.time ≤ 0); order = λ i j d before inside. absurd (omega (arith, inside)) }

IsSoFar-later : (s : Setup) (time later : ℕ) (journal : List Entry) → time ≤ later → IsSoFar s time journal → IsSoFar s later journal
IsSoFar-later s time later journal order so_far = record {
  entries = so_far.entries;
  past = λ k d inside. omega (arith, order, so_far.past k d inside);
  order = so_far.order;
}

IsSoFar-push : (s : Setup) (time : ℕ) (journal : List Entry) (what : What) → time < s.end → Names s.settings.stations what → IsSoFar s time journal
    → IsSoFar s time (journal ++ entry_of s time what ∷ [])
IsSoFar-push s time journal what early named so_far =
    let entry = entry_of s time what in
    record {
      entries = All-push (IsEntry s) journal entry so_far.entries (record { early = early; phases = refl; names = named });
      past = All-push (λ entry. entry.time ≤ time) journal entry so_far.past (omega arith);
      order = all_pairs_push (λ earlier later. earlier.time ≤ later.time) journal entry so_far.order so_far.past;
    }

IsSoFar-join : (s : Setup) (time : ℕ) (journal : List Entry) (whats : List What) → time < s.end → All (Names s.settings.stations) whats → IsSoFar s time journal
    → IsSoFar s time (journal ++ map (entry_of s time) whats)
IsSoFar-join s time journal [] early named so_far = rw (append-nil journal) so_far
IsSoFar-join s time journal (what ∷ whats) early named so_far =
    rw (sym (append_assoc journal (entry_of s time what ∷ []) (map (entry_of s time) whats)))
    (IsSoFar-join s time (journal ++ entry_of s time what ∷ []) whats early (All-tail (Names s.settings.stations) what whats named)
    (IsSoFar-push s time journal what early (All-head (Names s.settings.stations) what whats named) so_far))

-- events in turn keep it
IsSoFar-events : (s : Setup) (time : ℕ) (journal : List Entry) (events : List Event) → time ≤ s.end → InTurn s.settings.stations time s.end (map (λ event. event.moment) events)
    → IsSoFar s time journal → IsSoFar s s.end (journal_with s journal events)
IsSoFar-events s time journal [] early turn so_far = IsSoFar-later s time s.end journal early so_far
IsSoFar-events s time journal (event ∷ events) early turn so_far =
    IsSoFar-events s event.moment.time (journal ++ entries_of s journal event) events (omega (arith, turn.1)) turn.3
    (IsSoFar-join s event.moment.time journal (happens s journal event.moment.time event.moment.occasion event.outcome) turn.1
    (happens-named s journal event.moment.time event.moment.occasion event.outcome turn.2) (IsSoFar-later s time event.moment.time journal turn.0 so_far))

pub IsSoFar-all : (s : Setup) (these : List Moment) (journal : List Entry) → AreFirst s these → Leads s these [] journal → IsSoFar s s.end journal
IsSoFar-all s these journal first leads =
    subst (IsSoFar s s.end) (sym leads.journal)
    (IsSoFar-events s 0 [] leads.events (omega arith) (subst (InTurn s.settings.stations 0 s.end) (sym leads.moments) (first-in_turn s these first)) (IsSoFar-none s))
