-- The lines of a calm run, its messages after all ticks below one, and its worlds.
use Rattle.std.proofs.Common.{◌≡◌, ℕ, zero, suc, ◌+◌, ◌-◌, ◌*◌, ◌%◌, ◌≤◌, ◌<◌, inl, inr, Bool, true, false, List, [], ◌++◌, flat_map, take, arith, refl, ap, sym, subst, ◌∙◌, append-nil, append_assoc}
use Rattle.std.specs.Prelude.{◌==◌}
use Rattle.std.proofs.lemmas.List.Sums.{sum_by-append}
use Rattle.ld_base.proofs.Accepted.{AreInRange-from_no_fault}
use Rattle.ld_base.specs.declared.fields.Fields.{Fields}
use Rattle.pingpong.specs.declared.journal.Entry.{Entry}
use Rattle.relay_core.specs.Accepted.{Accepted}
use Rattle.relay_core.specs.Sent.{Sent}
use Rattle.waveform_reader.specs.Scenario.{Setup}
use Rattle.waveform_reader.specs.Sound.{IsSetup}
use Rattle.line_journal.specs.Crossings.{Starts}
use Rattle.line_world.specs.Journals.{AreFirst}
use Rattle.line_journal.specs.Stations.{ArePair}
use Rattle.line_world.specs.Occasions.{Moment, at_tick, moments, moments_at}
use Rattle.line_world.specs.Run.{State, run_through}
use Rattle.relay_core.specs.StationLog.{StationLog}
use Rattle.line_world.specs.World.{Leads}
use Rattle.line_world.specs.Worlds.{FollowsScript, IsWorld, World}
use Rattle.line_world.proofs.Firsts.{are_first}
use Rattle.line_world.proofs.Idle.{moments_more, moments_none}
use Rattle.calm_channel.specs.Calm.{IsCalm, delay_of_line}
use Rattle.calm_channel.specs.Coming.{AcceptedAre, AcceptedBelow, AcceptedIn, Come, LinesAre, asked, frames_come}
use Rattle.calm_channel.proofs.Events.{run-leads}
use Rattle.calm_channel.proofs.Keeping.{kept-all}
use Rattle.calm_channel.proofs.Pace.{each_pair, occasions_in}
use Rattle.calm_channel.proofs.Walk.{is_asking}

-- in each tick the line is asked once
abbrev AskedOnce : Bool → ℕ → ℕ → ℕ → Type 0
AskedOnce has_slots n from to = (tick : ℕ) → asked from to (at_tick tick (occasions_in n has_slots)) ≡ 1

asked-once : (has_slots : Bool) (n from to : ℕ) → 2 ≤ n → n ≤ 3 → ArePair n from to → AskedOnce has_slots n from to
asked-once true =
    each_pair (AskedOnce true) (λ tick. refl) (λ tick. refl) (λ tick. refl) (λ tick. refl) (λ tick. refl) (λ tick. refl) (λ tick. refl) (λ tick. refl)
asked-once false =
    each_pair (AskedOnce false) (λ tick. refl) (λ tick. refl) (λ tick. refl) (λ tick. refl) (λ tick. refl) (λ tick. refl) (λ tick. refl) (λ tick. refl)

module _ (f : Fields) (from to : ℕ) (some : 2 ≤ f.stations) (few : f.stations ≤ 3) (pair : ArePair f.stations from to) where
  pub asked-below : (n : ℕ) → asked from to (moments f n) ≡ n
  asked-below zero = ap (asked from to) (moments_none f)
  asked-below (suc n) =
      let here : asked from to (moments_at f n) ≡ 1 = asked-once (n % 125 == 0) f.stations from to some few pair n in
      ap (asked from to) (moments_more f n) ∙ sum_by-append (is_asking from to) (moments f n) (moments_at f n) ∙ (omega (arith, here, asked-below n))

-- the moments of the ticks below one are first moments of those of some ticks more
ticks-on : (f : Fields) (n more : ℕ) → (left : List Moment) × (moments f n ++ left ≡ moments f (n + more))
ticks-on f n zero = ([], append-nil (moments f n) ∙ ap (moments f) (omega arith))
ticks-on f n (suc more) =
    let rest = ticks-on f n more in (
      rest.0 ++ moments_at f (n + more),
      sym (append_assoc (moments f n) rest.0 (moments_at f (n + more))) ∙ ap (λ (these : List Moment). these ++ moments_at f (n + more)) rest.1
          ∙ sym (moments_more f (n + more)) ∙ ap (moments f) (omega arith),
    )

pub first-below : (s : Setup) (n : ℕ) → n ≤ s.end → AreFirst s (moments s.settings n)
first-below s n within =
    let rest = ticks-on s.settings n (s.end - n) in
    record { left = rest.0; are = rest.1 ∙ ap (moments s.settings) (omega (arith, within)) }

pub accepted-below : (s : Setup) → IsSetup s → AcceptedAre s → AcceptedBelow s
accepted-below s sound accepted n within from to pair =
    let range = (AreInRange-from_no_fault s.settings sound.settings).stations in
    let these : List Moment = moments s.settings n in
    accepted these (first-below s n within) from to pair
    ∙ ap (λ (ticks : ℕ). Come s from to ticks (Starts s.settings from to (run_through s these).journal)) (asked-below s.settings from to range.0 range.1 pair n)

-- the frames that have come
pub lines-are : (s : Setup) → IsSetup s → IsCalm s → LinesAre s
lines-are s sound calm these first from to pair =
    let line = (kept-all s sound calm from to pair these first).keeps.on_line in
    line.line_is
    ∙ ap (λ (n : ℕ). flat_map (λ bits. bits) (take n (Sent s.settings from to (StationLog from (run_through s these).journal))))
    (counted line.come (delay_of_line s from to) (asked from to these) line.early line.late)
  where
    counted : (come delay ticks : ℕ) → ((k : ℕ) → k < come → 125 * k + delay < ticks) → ticks ≤ 125 * come + delay → come ≡ frames_come delay ticks
    counted zero delay ticks early late = omega (arith, late)
    counted (suc come) delay ticks early late = let last = early come (omega arith) in omega (arith, last, late)

-- a world over the script wires of its scenario, by what it has carried out
module _ (w : World) (is : IsWorld w) (follows : FollowsScript w) where
  journal-is : (run_through w.setup follows.these).journal ≡ w.journal
  journal-is = ap (λ (state : State). state.journal) follows.run

  first : AreFirst w.setup follows.these
  first =
      are_first w (record {
        these = follows.these;
        done = follows.done;
        within = is.within;
        leads = subst (Leads w.setup follows.these []) journal-is (run-leads w.setup follows.these);
      })

  -- what holds of the journal of each run through first moments holds of the world's
  pub world-run : (P : List Entry → Type 0) → ((these : List Moment) → AreFirst w.setup these → P (run_through w.setup these).journal) → P w.journal
  world-run P each = subst P journal-is (each follows.these first)

  pub world-accepted : IsSetup w.setup → AcceptedAre w.setup → w.halted ≡ false → AcceptedIn w
  world-accepted sound accepted running from to pair =
      let f : Fields = w.setup.settings in
      let range = (AreInRange-from_no_fault f sound.settings).stations in
      let whole : follows.these ≡ moments f w.next =
      elim follows.done.part_of [
        | inl none ↦ follows.done.whole ∙ ap (λ (part : List Moment). moments f w.next ++ part) none ∙ append-nil (moments f w.next)
        | inr cut ↦ absurd (cc (cut.0, running))
      ] in
      let ticks : asked from to follows.these ≡ w.next = ap (asked from to) whole ∙ asked-below f from to range.0 range.1 pair w.next in
      ap (λ (j : List Entry). Accepted f to from (StationLog to j)) (sym journal-is)
      ∙ accepted follows.these first from to pair
      ∙ ap (λ (n : ℕ). Come w.setup from to n (Starts f from to (run_through w.setup follows.these).journal)) ticks
      ∙ ap (λ (j : List Entry). Come w.setup from to w.next (Starts f from to j)) journal-is
