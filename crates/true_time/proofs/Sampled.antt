-- What was taken and placed, each with its entry; and the sample that a message tells of was taken before it began.
use Rattle.std.specs.Prelude.{Contains, ◌==◌}
use Rattle.std.proofs.Common.{◌≡◌, ℕ, suc, ◌+◌, ◌*◌, ◌<◌, ◌≤◌, Bool, true, false, cond, List, [], ◌∷◌, ◌++◌, take, refl, ap, sym, subst, ◌∙◌, append-nil, arith}
use Rattle.std.proofs.lemmas.Bool.{eqb-true}
use Rattle.ld_base.specs.Message.{Contents}
use Rattle.ld_base.specs.declared.fields.Fields.{Fields}
use Rattle.ld_base.specs.declared.phases.Phases.{Phases}
use Rattle.pingpong.specs.Journal.{read_at}
use Rattle.pingpong.specs.declared.journal.Entry.{Entry}
use Rattle.pingpong.specs.declared.journal.What.{What}
use Rattle.pingpong.specs.declared.journal.What.TheVariants.{Came, SendFailed, Slot, TakeFailed, Took}
use Rattle.relay_message.specs.Messages.{added}
use Rattle.sample_store.specs.Aligned.{IsSample}
use Rattle.sample_store.specs.Along.{along_from}
use Rattle.sample_store.specs.Offers.{Placed, Taken, placed_by, taken_by}
use Rattle.sample_store.specs.declared.ring.Numbered.{Numbered}
use Rattle.relay_core.specs.Decided.{Offers, offered_by}
use Rattle.relay_core.specs.Log.{now}
use Rattle.relay_core.specs.declared.call.Call.{Call}
use Rattle.relay_core.specs.declared.call.Call.TheVariants as made
use Rattle.relay_core.proofs.Calls.{added-none}
use Rattle.waveform_reader.specs.Sound.{IsStation}
use Rattle.relay_core.specs.StationLog.{StationLog, calls_of, stamp_at}
use Rattle.line_journal.proofs.Entries.{StationLog-push}
use Rattle.true_time.specs.Places.{Began, IsAt, PlacedIn, TakenIn, WasPlaced, WasTaken, added_with}
use Rattle.true_time.proofs.Alongs.{IsGrowing, along-grows, take-one, then-grows}
use Rattle.true_time.proofs.Begun.{began-is}
use Rattle.true_time.proofs.Brought.{taken-with}
use Rattle.true_time.proofs.Elements.{last-in, none-in}
use Rattle.true_time.proofs.Places.{Handed, IsHanded, came-with, handed, now-at}
use Rattle.true_time.proofs.Places.Handed.{quiet, handing}
use Rattle.true_time.proofs.Premises.{Stands, of-three}

Offers-grows : (f : Fields) (me : ℕ) → IsGrowing (Offers f me)
Offers-grows f me = along-grows (λ before offers call. offered_by f me before call)

TakenIn-grows : (f : Fields) (me : ℕ) → IsGrowing (TakenIn f me)
TakenIn-grows f me = then-grows (Taken f.spacing) (Offers f me) (along-grows (λ before taken offer. taken_by f.spacing taken offer)) (Offers-grows f me)

PlacedIn-grows : (f : Fields) (me peer : ℕ) → IsGrowing (PlacedIn f me peer)
PlacedIn-grows f me peer =
    then-grows (Placed f.spacing f.limit peer) (Offers f me) (along-grows (λ before placed offer. placed_by f.spacing f.limit peer placed offer)) (Offers-grows f me)

TakenIn-none : (f : Fields) (me : ℕ) → TakenIn f me [] ≡ []
unfolding along_from
TakenIn-none f me = refl

PlacedIn-none : (f : Fields) (me peer : ℕ) → PlacedIn f me peer [] ≡ []
unfolding along_from
PlacedIn-none f me peer = refl

-- what an entry adds to something that is told of a station's log came with its call
pub with-call : {A : Type 0} (of : List Call → List A) (me : ℕ) (before : List Entry) (entry : Entry) (x : A) → Contains (added_with of me before entry) x
    → (call : Call) × IsHanded me entry call × Contains (added of (StationLog me before) (call ∷ [])) x
with-call {A = A} of me before entry x has = go (handed me entry)
  where
    log : List Call
    log = StationLog me before

    nothing : added of log [] ≡ []
    nothing = added-none of log [] (ap of (append-nil log))

    go : Handed me entry → (call : Call) × IsHanded me entry call × Contains (added of log (call ∷ [])) x
    go (quiet absent) = absurd (none-in x (subst (λ ys. Contains ys x) (ap (added of log) absent ∙ nothing) has))
    go (handing call is) = (call, is, subst (λ calls. Contains (added of log calls) x) is.calls has)

-- the log behind an entry
pub log-at : (me : ℕ) (journal : List Entry) (place : ℕ) (entry : Entry) (call : Call) → IsAt journal place entry → IsHanded me entry call
    → StationLog me (take (suc place) journal) ≡ StationLog me (take place journal) ++ call ∷ []
log-at me journal place entry call is_at is =
    ap (StationLog me) (take-one journal place entry is_at) ∙ StationLog-push me (take place journal) entry ∙ ap (λ calls. StationLog me (take place journal) ++ calls) is.calls

-- an entry that hands on a sample is that of a sample
took-if : (b : Bool) (me station at time : ℕ) (values sample : Phases) → (station == me) ≡ b → cond b (made.Sample time values ∷ []) [] ≡ made.Sample at sample ∷ []
    → Took station values ≡ Took me sample
took-if true me station at time values sample same is =
    let sampled : values ≡ sample = cc in
    ap (λ s. Took s values) (eqb-true station me same) ∙ ap (Took me) sampled
took-if false me station at time values sample same is = absurd (cc)

other-if : (b : Bool) (call : Call) (at : ℕ) (sample : Phases) → (call ≡ made.Sample at sample → ⊥) → cond b (call ∷ []) [] ≡ made.Sample at sample ∷ [] → ⊥
other-if true call at sample other is = other (cc)
other-if false call at sample other is = cc

took-of : (me at time : ℕ) (what : What) (sample : Phases) → calls_of me time what ≡ made.Sample at sample ∷ [] → what ≡ Took me sample
took-of me at time (Took station values) sample is = took-if (station == me) me station at time values sample refl is
took-of me at time (Slot station first second) sample is = absurd (other-if (station == me) (made.Slot time) at sample (λ same. cc) is)
took-of me at time (Came station peer bits) sample is = absurd (other-if (station == me) (made.Bits time peer bits) at sample (λ same. cc) is)
took-of me at time (SendFailed station peer) sample is = absurd (other-if (station == me) (made.Fault time peer) at sample (λ same. cc) is)
took-of me at time (TakeFailed station peer) sample is = absurd (other-if (station == me) (made.Fault time peer) at sample (λ same. cc) is)

-- a sample that was taken by then came with an entry that took it
pub came-taken : (f : Fields) (station : ℕ) (journal : List Entry) (n : ℕ) (sample : Numbered) → Contains (TakenIn f station (StationLog station (take n journal))) sample
    → (place : ℕ) × (entry : Entry) × (place < n) × WasTaken f station journal place entry sample
came-taken f station journal n sample has =
    let found = came-with (TakenIn f station) (TakenIn-grows f station) (TakenIn-none f station) station journal n sample has in
    let (call, is, brought) = with-call (TakenIn f station) station (take found.place journal) found.entry sample found.brought in
    let with = taken-with f station (StationLog station (take found.place journal)) call sample brought in (
      found.place,
      found.entry,
      found.early,
      record {
        is_at = found.is_at;
        took = took-of station with.at (stamp_at station found.entry) found.entry.what sample.values (is.calls ∙ ap (λ c. c ∷ []) with.call_is);
        taken = found.brought;
      },
    )

-- at the stamp that is its number's
pub sample-at : (f : Fields) (journal : List Entry) → Stands f journal → (station place : ℕ) (entry : Entry) (sample : Numbered) → IsStation f.stations station
    → WasTaken f station journal place entry sample → IsSample f.spacing sample.number (read_at station entry)
sample-at f journal stands station place entry sample there was =
    let log = StationLog station (take place journal) in
    let (call, is, brought) = with-call (TakenIn f station) station (take place journal) entry sample was.taken in
    let with = taken-with f station log call sample brought in
    let time : now (log ++ call ∷ []) ≡ stamp_at station entry = now-at f.drift journal (omega (arith, stands.drift)) stands.in_turn station place entry call (of-three f journal station stands there) was.is_at is in
    record {
      since = subst (λ t. sample.number * f.spacing ≤ t) time with.since;
      until = subst (λ t. t ≤ sample.number * f.spacing + 1) time with.until;
    }

-- values that were placed by then came with an entry
pub came-placed : (f : Fields) (me peer : ℕ) (journal : List Entry) (n : ℕ) (value : Numbered) → Contains (PlacedIn f me peer (StationLog me (take n journal))) value
    → (place : ℕ) × (entry : Entry) × (place < n) × WasPlaced f me peer journal place entry value
came-placed f me peer journal n value has =
    let found = came-with (PlacedIn f me peer) (PlacedIn-grows f me peer) (PlacedIn-none f me peer) me journal n value has in
    (found.place, found.entry, found.early, record { is_at = found.is_at; placed = found.brought })

-- a message that began tells of a sample that its sender took before
pub told-sample : (f : Fields) (from to : ℕ) (journal : List Entry) (place : ℕ) (entry : Entry) (m : Contents) → Began f from to journal place entry m
    → (taken_at : ℕ) × (taken : Entry) × (taken_at < place) × WasTaken f from journal taken_at taken (record { number = m.number; values = m.phases })
told-sample f from to journal place entry m began =
    let (call, handed, is) = began-is f from to (take place journal) entry m began.begun in
    let told : ◌≡◌ {A = Numbered} is.sample (record { number = m.number; values = m.phases }) = ap (λ x. record { number = x.number; values = x.phases }) (sym is.is) in
    let inside = last-in (TakenIn f from (StationLog from (take place journal))) is.sample is.newest in
    came-taken f from journal place (record { number = m.number; values = m.phases })
    (subst (λ sample. Contains (TakenIn f from (StationLog from (take place journal))) sample) told inside)
