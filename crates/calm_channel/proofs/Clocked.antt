-- The stamps of a scenario's clocks: they never fall, and a terminal can be handed each of them.
use Rattle.std.proofs.Common.{◌≡◌, ℕ, ◌-◌, ◌*◌, ◌/◌, ◌≤◌, Bool, true, false, cond, List, [], ◌∷◌, All, fold, get_or, max, arith, refl, ap, subst, mul-le-mul_right}
use Rattle.std.specs.Prelude.{◌==◌}
use Rattle.std.proofs.lemmas.List.{get_or-map}
use Rattle.std.proofs.lemmas.List.Elements.{All-append, All-cons, All-head, All-nil, All-tail}
use Rattle.ld_base.specs.Ticks.{last_stamp}
use Rattle.pingpong.specs.Clock.{Course, phase}
use Rattle.pingpong.specs.declared.journal.Entry.{Entry}
use Rattle.pingpong.specs.declared.journal.What.{What}
use Rattle.pingpong.specs.declared.journal.What.TheVariants.{Came, SendFailed, Slot, TakeFailed, Took}
use Rattle.pingpong.proofs.Gains.{WithinDrift-phase, phase-most}
use Rattle.relay_core.specs.Log.{stamp_of as handed}
use Rattle.relay_core.specs.declared.call.Call.{Call}
use Rattle.relay_core.specs.declared.call.Call.TheVariants as made
use Rattle.waveform_reader.specs.Scenario.{Setup}
use Rattle.waveform_reader.specs.Sound.{IsClock, IsSetup, true_clock}
use Rattle.line_world.specs.Journals.{IsEntry}
use Rattle.relay_core.specs.StationLog.{StationLog, calls_by, calls_of, stamp_at}
use Rattle.line_world.specs.World.{stamp_of}

-- the clock of a station
abbrev pub clock_of : Setup → ℕ → Course
clock_of s station = get_or s.clocks (station - 1) true_clock

module _ (s : Setup) (sound : IsSetup s) (station : ℕ) (there : (1 ≤ station) × (station ≤ 3)) where
  abbrev clock : Course
  clock = clock_of s station

  pub is_clock : IsClock s.settings.drift (clock_of s station)
  is_clock = sound.clocks (station - 1) true_clock (omega (arith, there.0, there.1, sound.three))

  pub stamp-is : (t : ℕ) → stamp_of s station t ≡ phase (clock_of s station) t / 1000000
  stamp-is t =
      ap (λ (p : ℕ). p / 1000000) (get_or-map (λ (c : Course). phase c t) s.clocks (station - 1) true_clock 0 (omega (arith, there.0, there.1, sound.three)))

  pub stamps-rise : (earlier later : ℕ) → earlier ≤ later → stamp_of s station earlier ≤ stamp_of s station later
  stamps-rise earlier later order =
      let gains = WithinDrift-phase 200 clock is_clock.course.in_range earlier later order in
      let small : 200 ≤ 1000000 = omega arith in
      let drifted : 200 * (later - earlier) ≤ 1000000 * (later - earlier) = mul-le-mul_right (later - earlier) small in
      let phases : phase clock earlier ≤ phase clock later = omega (arith, gains.least, drifted) in
      omega (arith, stamp-is earlier, stamp-is later, phases)

  pub stamps-fit : (t : ℕ) → t ≤ 20000000 → stamp_of s station t ≤ last_stamp
  stamps-fit t within =
      let most = phase-most clock t is_clock.course.in_range in
      let start : clock.start ≤ 1000000000000 = is_clock.course.start in
      omega (arith, stamp-is t, most, start, within)

-- what holds of the calls of each entry holds of a log
pub log-all : (P : Call → Type 0) (me : ℕ) (journal : List Entry) → All (λ entry. All P (calls_by me entry)) journal → All P (StationLog me journal)
log-all P me [] each = All-nil P
log-all P me (entry ∷ journal) each =
    All-append P (calls_by me entry) (StationLog me journal) (All-head (λ entry. All P (calls_by me entry)) entry journal each)
    (log-all P me journal (All-tail (λ entry. All P (calls_by me entry)) entry journal each))

-- none or one call
if_stamped : {at : ℕ} (b : Bool) (call : Call) → handed call ≡ at → All (λ call. handed call ≡ at) (cond b (call ∷ []) [])
if_stamped {at = at} true call is = All-cons (λ call. handed call ≡ at) call [] is (All-nil (λ call. handed call ≡ at))
if_stamped {at = at} false call is = All-nil (λ call. handed call ≡ at)

-- the stamp of an entry's call
pub stamped : (me at : ℕ) (what : What) → All (λ call. handed call ≡ at) (calls_of me at what)
stamped me at (Took station values) = if_stamped (station == me) (made.Sample at values) refl
stamped me at (Slot station first second) = if_stamped (station == me) (made.Slot at) refl
stamped me at (Came station peer bits) = if_stamped (station == me) (made.Bits at peer bits) refl
stamped me at (SendFailed station peer) = if_stamped (station == me) (made.Fault at peer) refl
stamped me at (TakeFailed station peer) = if_stamped (station == me) (made.Fault at peer) refl

pub entry-stamped : (s : Setup) (me : ℕ) (entry : Entry) → IsEntry s entry → All (λ call. handed call ≡ stamp_of s me entry.time) (calls_by me entry)
entry-stamped s me entry is =
    let same : stamp_at me entry ≡ stamp_of s me entry.time = ap (λ (phases : List ℕ). get_or phases (me - 1) 0 / 1000000) is.phases in
    subst (λ (at : ℕ). All (λ call. handed call ≡ at) (calls_by me entry)) same (stamped me (stamp_at me entry) entry.what)

-- a log whose stamps are no later than one
pub now-most : (log : List Call) (latest most : ℕ) → latest ≤ most → All (λ call. handed call ≤ most) log → fold (λ latest call. max latest (handed call)) latest log ≤ most
now-most [] latest most low all = low
now-most (call ∷ log) latest most low all =
    let here : handed call ≤ most = All-head (λ call. handed call ≤ most) call log all in
    now-most log (max latest (handed call)) most (omega (arith, low, here)) (All-tail (λ call. handed call ≤ most) call log all)
