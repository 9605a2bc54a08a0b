-- The journal of a run is one of its world's: its entries, and the calls that they hand to the stations.
use Rattle.std.proofs.Common.{◌≡◌, ℕ, ◌-◌, ◌≤◌, Bool, true, false, cond, ℤ, List, [], ◌∷◌, ◌++◌, All, FitsSigned, fold, get_or, map, arith, refl, ap, sym, subst}
use Rattle.std.specs.Prelude.{◌==◌, nat_lt}
use Rattle.std.specs.Int.{w16}
use Rattle.std.proofs.lemmas.Bool.{eq-eqb, eqb-true}
use Rattle.std.proofs.lemmas.Int.{ints}
use Rattle.std.proofs.lemmas.List.Elements.{All-append, All-cons, All-nil, All-take, All-weaker}
use Rattle.ld_base.proofs.Accepted.{AreInRange-from_no_fault}
use Rattle.ld_base.specs.Ticks.{last_stamp}
use Rattle.ld_base.specs.declared.phases.Phases.{Phases}
use Rattle.c3794_frame.specs.Numbers.{AreBits}
use Rattle.pingpong.specs.declared.journal.Entry.{Entry}
use Rattle.pingpong.specs.declared.journal.What.{What}
use Rattle.pingpong.specs.declared.journal.What.TheVariants.{Came, SendFailed, Slot, TakeFailed, Took}
use Rattle.relay_message.specs.FitPhases.{FitPhases}
use Rattle.relay_core.specs.Calls.{AreCalls, FitValues, bits_of_call}
use Rattle.relay_core.specs.Line.{bits_from}
use Rattle.relay_core.specs.Log.{stamp_of as handed}
use Rattle.relay_core.specs.declared.call.Call.{Call}
use Rattle.relay_core.specs.declared.call.Call.TheVariants as made
use Rattle.relay_core.specs.Sent.{Slots}
use Rattle.waveform_reader.specs.Scenario.{Setup}
use Rattle.waveform_reader.specs.Shapes.{value_at}
use Rattle.waveform_reader.specs.Sound.{ArePhases, IsSetup, IsStation, IsValue}
use Rattle.line_world.specs.Journals.{AreFirst, IsEntry}
use Rattle.line_journal.specs.Stations.{ArePair, Names}
use Rattle.line_world.specs.Occasions.{Moment, Occasion}
use Rattle.line_world.specs.Occasions.Occasion.{arrival, departure, sampling, slot}
use Rattle.line_world.specs.Run.{State, after, outcome_by, run_through, start}
use Rattle.relay_core.specs.StationLog.{StationLog, calls_by, calls_of, stamp_at}
use Rattle.line_world.specs.World.{Event, Leads, Outcome, entries_of, entry_of, frames_at, happens, journal_with, number_of, slot_with, stamp_of}
use Rattle.line_world.specs.World.Outcome.{fails, gives, nothing}
use Rattle.line_world.proofs.Moments.{IsSoFar, IsSoFar-all}
use Rattle.calm_channel.specs.Calm.{IsCalm}
use Rattle.calm_channel.proofs.Bits.{IsSent, calls-bring, joined-are, sent-are}
use Rattle.calm_channel.proofs.Clocked.{entry-stamped, log-all, stamps-fit}
use Rattle.calm_channel.proofs.Keeping.{kept-all}

-- every value of a scenario is one of the converter
abbrev pub ValuesFit : Setup → Type 0
ValuesFit s = (station t : ℕ) → ArePhases (value_at s.settings s.shapes station t)

-- a run leads to its journal
leads-from : (s : Setup) (state : State) (ms : List Moment) → Leads s ms state.journal (fold (after s) state ms).journal
leads-from s state [] = record { events = []; moments = refl; journal = refl }
leads-from s state (m ∷ ms) =
    let rest = leads-from s (after s state m) ms in
    record {
      events = record { moment = m; outcome = outcome_by state.lines m.time m.occasion } ∷ rest.events;
      moments = ap (λ (these : List Moment). m ∷ these) rest.moments;
      journal = rest.journal;
    }

pub run-leads : (s : Setup) (these : List Moment) → Leads s these [] (run_through s these).journal
run-leads s these = leads-from s (start s) these

pub run-so_far : (s : Setup) (these : List Moment) → AreFirst s these → IsSoFar s s.end (run_through s these).journal
run-so_far s these first = IsSoFar-all s these (run_through s these).journal first (run-leads s these)

-- what holds of all that can happen holds of a journal's entries
module _ (s : Setup) (Q : Entry → Type 0)
    (each : (before : List Entry) (time : ℕ) (o : Occasion) (outcome : Outcome) → All Q (map (entry_of s time) (happens s before time o outcome))) where
  journal-all : (old : List Entry) (events : List Event) → All Q old → All Q (journal_with s old events)
  journal-all old [] all = all
  journal-all old (event ∷ events) all =
      journal-all (old ++ entries_of s old event) events
      (All-append Q old (entries_of s old event) all (each old event.moment.time event.moment.occasion event.outcome))

  pub run-all : (these : List Moment) → All Q (run_through s these).journal
  run-all these = let leads = run-leads s these in subst (All Q) (sym leads.journal) (journal-all [] leads.events (All-nil Q))

-- the values of a sample have sixteen bits
abbrev HasFit : What → Type 0
HasFit (Took station values) = FitPhases values
HasFit (Slot station first second) = Unit {0}
HasFit (Came station peer bits) = Unit {0}
HasFit (SendFailed station peer) = Unit {0}
HasFit (TakeFailed station peer) = Unit {0}

value-fits : (v : ℤ) → IsValue v → FitsSigned w16 v
value-fits v is = omega (arith, ints, is.0, is.1)

phases-fit : (phases : Phases) → ArePhases phases → FitPhases phases
phases-fit phases are = record { a = value-fits phases.a are.a; b = value-fits phases.b are.b; c = value-fits phases.c are.c }

module _ (s : Setup) (fit : ValuesFit s) where
  abbrev Q : Entry → Type 0
  Q entry = HasFit entry.what

  alone : (time : ℕ) (what : What) → HasFit what → All Q (entry_of s time what ∷ [])
  alone time what is = All-cons Q (entry_of s time what) [] is (All-nil Q)

  happens-fit : (before : List Entry) (time : ℕ) (o : Occasion) (outcome : Outcome) → All Q (map (entry_of s time) (happens s before time o outcome))
  happens-fit before time (arrival receiver sender) nothing = All-nil Q
  happens-fit before time (arrival receiver sender) (gives bits) = alone time (Came receiver sender bits) tt
  happens-fit before time (arrival receiver sender) fails = alone time (TakeFailed receiver sender) tt
  happens-fit before time (sampling station) outcome = go (nat_lt (number_of s station (time - 1)) (number_of s station time))
    where
      values : Phases
      values = value_at s.settings s.shapes station time

      go : (b : Bool) → All Q (map (entry_of s time) (cond b (Took station values ∷ []) []))
      go true = alone time (Took station values) (phases-fit values (fit station time))
      go false = All-nil Q
  happens-fit before time (slot station) outcome = alone time (slot_with station (frames_at s before time station)) tt
  happens-fit before time (departure sender receiver) nothing = All-nil Q
  happens-fit before time (departure sender receiver) (gives bits) = All-nil Q
  happens-fit before time (departure sender receiver) fails = alone time (SendFailed sender receiver) tt

  pub run-fits : (these : List Moment) → All (λ entry. HasFit entry.what) (run_through s these).journal
  run-fits these = run-all s Q happens-fit these

-- a call that an entry hands to a station: its values fit, and its bits are a peer's
abbrev IsPeers : ℕ → ℕ → Call → Type 0
IsPeers stations me (made.Sample at values) = FitPhases values
IsPeers stations me (made.Slot at) = Unit {0}
IsPeers stations me (made.Bits at peer bits) = ArePair stations me peer
IsPeers stations me (made.Fault at peer) = Unit {0}

-- none or one of them
if_one : (stations me : ℕ) (b : Bool) (call : Call) → (b ≡ true → IsPeers stations me call) → All (IsPeers stations me) (cond b (call ∷ []) [])
if_one stations me true call is = All-cons (IsPeers stations me) call [] (is refl) (All-nil (IsPeers stations me))
if_one stations me false call is = All-nil (IsPeers stations me)

peers-of : (stations me at : ℕ) (what : What) → Names stations what → HasFit what → All (IsPeers stations me) (calls_of me at what)
peers-of stations me at (Took station values) named fit = if_one stations me (station == me) (made.Sample at values) (λ is. fit)
peers-of stations me at (Slot station first second) named fit = if_one stations me (station == me) (made.Slot at) (λ is. tt)
peers-of stations me at (Came station peer bits) named fit =
    if_one stations me (station == me) (made.Bits at peer bits) (λ is. subst (λ (k : ℕ). ArePair stations k peer) (eqb-true station me is) named)
peers-of stations me at (SendFailed station peer) named fit = if_one stations me (station == me) (made.Fault at peer) (λ is. tt)
peers-of stations me at (TakeFailed station peer) named fit = if_one stations me (station == me) (made.Fault at peer) (λ is. tt)

-- the bits of such a call, where what each peer's line brings are bits
bits-are : (stations me : ℕ) (call : Call) → IsPeers stations me call → ((peer : ℕ) → ArePair stations me peer → AreBits (bits_from peer call)) → AreBits (bits_of_call call)
bits-are stations me (made.Sample at values) is each = record { each = λ i. omega arith }
bits-are stations me (made.Slot at) is each = record { each = λ i. omega arith }
bits-are stations me (made.Bits at peer bits) is each = subst AreBits (ap (λ (b : Bool). cond b bits []) (eq-eqb peer peer refl)) (each peer is)
bits-are stations me (made.Fault at peer) is each = record { each = λ i. omega arith }

values-are : (stations me : ℕ) (call : Call) → IsPeers stations me call → FitValues call
values-are stations me (made.Sample at values) is = is
values-are stations me (made.Slot at) is = tt
values-are stations me (made.Bits at peer bits) is = tt
values-are stations me (made.Fault at peer) is = tt

-- each call of a station's log in a calm run can be made
module _ (s : Setup) (sound : IsSetup s) (calm : IsCalm s) (fit : ValuesFit s) (these : List Moment) (first : AreFirst s these) (me : ℕ) (there : IsStation s.settings.stations me) where
  abbrev journal : List Entry
  journal = (run_through s these).journal

  abbrev stations : ℕ
  stations = s.settings.stations

  abbrev log : List Call
  log = StationLog me journal

  low_enough : me ≤ 3
  low_enough = let few = (AreInRange-from_no_fault s.settings sound.settings).stations.1 in omega (arith, few, there.1)

  so_far : IsSoFar s s.end journal
  so_far = run-so_far s these first

  stamps : All (λ call. handed call ≤ last_stamp) log
  stamps =
      log-all (λ call. handed call ≤ last_stamp) me journal
      (λ k d inside.
      let entry : Entry = get_or journal k d in
      let is : IsEntry s entry = so_far.entries k d inside in
      let early : entry.time ≤ 20000000 = omega (arith, is.early, sound.end.1) in
      let fits = stamps-fit s sound me (there.0, low_enough) entry.time early in
      All-weaker (λ call. handed call ≡ stamp_of s me entry.time) (λ call. handed call ≤ last_stamp) (λ call same. omega (arith, same, fits))
      (calls_by me entry) (entry-stamped s me entry is))

  peers : All (IsPeers stations me) log
  peers =
      log-all (IsPeers stations me) me journal
      (λ k d inside.
      let entry : Entry = get_or journal k d in
      peers-of stations me (stamp_at me entry) entry.what (so_far.entries k d inside).names (run-fits s fit these k d inside))

  brings : (peer : ℕ) → ArePair stations me peer → All (λ call. AreBits (bits_from peer call)) log
  brings peer pair =
      let turned : ArePair stations peer me = record { one_there = pair.other_there; other_there = pair.one_there; differ = λ same. pair.differ (sym same) } in
      let kept = kept-all s sound calm peer me turned these first in
      let few = (AreInRange-from_no_fault s.settings sound.settings).channels.1 in
      let sent = sent-are s.settings (Slots s.settings peer me (StationLog peer journal)) few in
      calls-bring peer log
      (subst AreBits (sym kept.keeps.on_line.line_is) (joined-are _ (All-take IsSent kept.keeps.on_line.come _ sent)))

  pub run-calls : AreCalls log
  run-calls k d inside =
      let call : Call = get_or log k d in
      let is : IsPeers stations me call = peers k d inside in
      record {
        stamp = stamps k d inside;
        values = values-are stations me call is;
        bits = bits-are stations me call is (λ peer pair. brings peer pair k d inside);
      }
