-- Where an exchange in force comes from, and when the true times of its messages are known.
use Rattle.std.specs.Prelude.{Contains, filter, find, int_le, not, option_map, reverse, slice_get}
use Rattle.std.specs.List.{flat_map, list_all}
use Rattle.std.specs.Option.{option_and_then, option_to_list}
use Rattle.std.proofs.Common.{◌≡◌, ℕ, ◌<◌, Bool, true, List, [], ◌∷◌, Option, None, Some, take, refl, ap, sym, subst, ◌∙◌}
use Rattle.ld_base.specs.declared.fields.Fields.{Fields}
use Rattle.offset_track.specs.InForce.{InForce, is_candidate, is_slow, kept}
use Rattle.offset_track.proofs.Choices.{find-filter_passes}
use Rattle.pingpong.specs.Exchange.{Stamps, exchange_of, round_trip}
use Rattle.pingpong.specs.declared.journal.Entry.{Entry}
use Rattle.relay_core.specs.Accepted.{Accepted}
use Rattle.relay_core.specs.Log.{now}
use Rattle.relay_core.specs.declared.receipt.Receipt.{Receipt}
use Rattle.relay_core.proofs.Calls.{added-is}
use Rattle.sample_store.specs.Along.{along_from}
use Rattle.line_journal.specs.Crossings.{Arrivals, Beginnings, Crossings, accepted_with, crossing_by, is_same, legs_from, legs_of, slot_time}
use Rattle.line_journal.specs.Report.{crossing_in_force}
use Rattle.relay_core.specs.StationLog.{StationLog}
use Rattle.line_journal.specs.declared.crossing.Arrival.{Arrival}
use Rattle.line_journal.specs.declared.crossing.Beginning.{Beginning}
use Rattle.line_journal.specs.declared.crossing.Crossing.{Crossing}
use Rattle.line_journal.specs.declared.crossing.Legs.{Legs}
use Rattle.line_journal.proofs.LineLists.{Crossings-push}
use Rattle.true_time.specs.Estimates.{AreHonest}
use Rattle.true_time.specs.Places.{Began, WasAccepted}
use Rattle.true_time.proofs.Accepted.{accepted-once}
use Rattle.true_time.proofs.Alongs.{along-grows, comes-with}
use Rattle.true_time.proofs.Beginnings.{began-found, began-slot, beginning_of, found-began, slot-began}
use Rattle.true_time.proofs.Elements.{in-filtered, in-flat_map, in-found, in-mapped, in-reversed, in-taken, option-in}
use Rattle.true_time.proofs.Lasts.{AreLast, are-last}
use Rattle.true_time.proofs.Lasts.AreLast.{neither, both}

-- what is in force was offered, and is a candidate
pub in-force-offered : {A : Type 0} (stamps : A → Stamps) (slow age now : ℕ) (offered : List A) (x : A) → InForce stamps slow age now offered ≡ Some x → Contains offered x
in-force-offered {A = A} stamps slow age now offered x is =
    in-filtered (λ y. not (is_slow slow (stamps y))) offered x (in-reversed (filter (λ y. not (is_slow slow (stamps y))) offered) x
    (in-taken 8 (reverse (filter (λ y. not (is_slow slow (stamps y))) offered)) x
    (in-filtered (λ y. is_candidate age now (stamps y)) (kept stamps slow offered) x
    (in-found test (filter (λ y. is_candidate age now (stamps y)) (kept stamps slow offered)) x is))))
  where
    test : A → Bool
    test y = list_all (λ z. int_le (round_trip (stamps y)) (round_trip (stamps z))) (filter (λ y. is_candidate age now (stamps y)) (kept stamps slow offered))

pub in-force-candidate : {A : Type 0} (stamps : A → Stamps) (slow age now : ℕ) (offered : List A) (x : A) → InForce stamps slow age now offered ≡ Some x
    → is_candidate age now (stamps x) ≡ true
in-force-candidate {A = A} stamps slow age now offered x is =
    find-filter_passes (λ y. is_candidate age now (stamps y)) test (kept stamps slow offered) x is
  where
    test : A → Bool
    test y = list_all (λ z. int_le (round_trip (stamps y)) (round_trip (stamps z))) (filter (λ y. is_candidate age now (stamps y)) (kept stamps slow offered))

-- an exchange came with the message that was accepted with an entry
pub record CameBy (f : Fields) (me peer : ℕ) (journal : List Entry) (n : ℕ) (c : Crossing) : Type 0 where
  pub place : ℕ
  pub entry : Entry
  pub second : Receipt
  pub early : place < n
  pub accepted : WasAccepted f me peer journal place entry second
  pub exchange : exchange_of second.message second.at ≡ Some c.exchange
  pub legs : c.legs ≡ legs_of f me peer (take place journal) entry.time second.message

Crossings-none : (f : Fields) (me peer : ℕ) → Crossings f me peer [] ≡ []
unfolding along_from
Crossings-none f me peer = refl

pub crossing-came : (f : Fields) (me peer : ℕ) (journal : List Entry) (n : ℕ) (c : Crossing) → Contains (Crossings f me peer (take n journal)) c → CameBy f me peer journal n c
crossing-came f me peer journal n c has =
    let found = comes-with (Crossings f me peer) (along-grows (λ before so_far entry. flat_map (crossing_by f me peer before entry) (accepted_with f me peer before entry)))
    (Crossings-none f me peer) journal n c has in
    let before = take found.place journal in
    let here = subst (λ cs. Contains cs c) (added-is (Crossings f me peer) before (found.element ∷ []) _ (Crossings-push f me peer before found.element)) found.brought in
    let (r, inside, by) = in-flat_map (crossing_by f me peer before found.element) (accepted_with f me peer before found.element) c here in
    let (e, is, whole) = in-mapped (λ e. record { exchange = e; legs = legs_of f me peer before found.element.time r.message }) (option_to_list (exchange_of r.message r.at)) c by in
    record {
      place = found.place;
      entry = found.element;
      second = r;
      early = found.early;
      accepted = record { is_at = found.is_at; accepted = inside };
      exchange = option-in (exchange_of r.message r.at) e is ∙ ap (λ x. Some x.exchange) whole;
      legs = sym (ap (λ x. x.legs) whole);
    }

pub in-force-came : (f : Fields) (me peer : ℕ) (journal : List Entry) (n : ℕ) (c : Crossing) → crossing_in_force f me peer (take n journal) ≡ Some c → CameBy f me peer journal n c
in-force-came f me peer journal n c is =
    crossing-came f me peer journal n c (in-force-offered (λ crossing. crossing.exchange) f.slow f.age (now (StationLog me (take n journal))) (Crossings f me peer (take n journal)) c is)

-- the legs of an exchange that turned and came back at these times, by what its sender had heard
abbrev legs_heard : ℕ → ℕ → Option Arrival → Option Legs
legs_heard turned back arrival = option_and_then (λ heard. option_map (λ sent. record { sent = sent; came = heard.came; turned = turned; back = back }) heard.began) arrival

-- the two messages of an exchange, from the second: where it began, and what its sender had heard by then
module _ (f : Fields) (me peer : ℕ) (journal : List Entry) (back_at : ℕ) (back : Entry) (second : Receipt) where
  abbrev before : List Entry
  before = take back_at journal

  -- from true times that are known to the entries
  honest-from : (legs : Legs) (b : Beginning) (turned_at : ℕ) (turned : Entry) → turned_at < back_at → Began f peer me journal turned_at turned second.message
      → b ≡ beginning_of f peer me journal turned_at turned second.message → legs_from back.time (Some b) ≡ Some legs → AreHonest f me peer journal back_at back second legs
  honest-from legs b turned_at turned home began is known =
      go (are-last f peer me journal turned_at)
    where
      heard : b.heard ≡ slice_get (reverse (Arrivals f peer me (take turned_at journal))) 0
      heard = ap (λ x. x.heard) is

      time : b.time ≡ turned.time
      time = ap (λ x. x.time) is

      go : AreLast f peer me journal turned_at (Arrivals f peer me (take turned_at journal)) (Accepted f peer me (StationLog peer (take turned_at journal)))
          → AreHonest f me peer journal back_at back second legs
      go (neither nothing none) = absurd (let unknown = sym known ∙ ap (legs_heard b.time back.time) (heard ∙ nothing) in cc)
      go (both came_at came first held was arrival last) =
          began-at (slot_time f me peer (take came_at journal) first.message) refl
        where
          began-at : (slot : Option ℕ) → slot_time f me peer (take came_at journal) first.message ≡ slot → AreHonest f me peer journal back_at back second legs
          began-at None none =
              absurd (let nothing = sym known ∙ ap (legs_heard b.time back.time) (heard ∙ arrival) ∙ ap (λ slot. option_map (λ sent. record { sent = sent; came = came.time; turned = b.time; back = back.time }) slot) none in cc)
          began-at (Some t) slot =
              let whole : Some legs ≡ Some (record { sent = t; came = came.time; turned = b.time; back = back.time }) =
              sym known ∙ ap (legs_heard b.time back.time) (heard ∙ arrival) ∙ ap (λ slot. option_map (λ sent. record { sent = sent; came = came.time; turned = b.time; back = back.time }) slot) slot in
              let (sent_at, sent, there, first_began, at) = slot-began f me peer journal came_at first.message t slot in
              record {
                sent_at = sent_at;
                came_at = came_at;
                turned_at = turned_at;
                sent = sent;
                came = came;
                turned = turned;
                first = first;
                there = there;
                held = held;
                home = home;
                second_began = began;
                last = last;
                first_came = was;
                first_began = first_began;
                times = (let same : legs ≡ record { sent = t; came = came.time; turned = b.time; back = back.time } = cc in
                    same ∙ ap (λ s. record { sent = s; came = came.time; turned = b.time; back = back.time }) at
                    ∙ ap (λ s. record { sent = sent.time; came = came.time; turned = s; back = back.time }) time);
              }

  pub known-honest : (legs : Legs) → legs_of f me peer before back.time second.message ≡ Some legs → AreHonest f me peer journal back_at back second legs
  known-honest legs known = go (find (λ b. is_same second.message b.message) (Beginnings f peer me before)) refl
    where
      go : (found : Option Beginning) → find (λ b. is_same second.message b.message) (Beginnings f peer me before) ≡ found → AreHonest f me peer journal back_at back second legs
      go None none = absurd (let nothing = sym known ∙ ap (legs_from back.time) none in cc)
      go (Some b) some =
          let (turned_at, turned, home, began, is) = found-began f peer me journal back_at second.message b some in
          honest-from legs b turned_at turned home began is (sym (ap (legs_from back.time) some) ∙ known)

  -- and from the entries to true times
  pub honest-known : (legs : Legs) → AreHonest f me peer journal back_at back second legs → legs_of f me peer before back.time second.message ≡ Some legs
  honest-known legs honest =
      ap (legs_from back.time) (began-found f peer me journal back_at honest.turned_at honest.turned second.message honest.home honest.second_began)
      ∙ go (are-last f peer me journal honest.turned_at)
    where
      go : AreLast f peer me journal honest.turned_at (Arrivals f peer me (take honest.turned_at journal)) (Accepted f peer me (StationLog peer (take honest.turned_at journal)))
          → legs_from back.time (Some (beginning_of f peer me journal honest.turned_at honest.turned second.message)) ≡ Some legs
      go (neither nothing none) = absurd (let nothing = sym honest.last ∙ none in cc)
      go (both came_at came first held was arrival last) =
          let firsts : ◌≡◌ {A = Option Receipt} (Some first) (Some honest.first) = sym last ∙ honest.last in
          let one : first ≡ honest.first = cc in
          let places : came_at ≡ honest.came_at = accepted-once f peer me journal came_at honest.came_at came honest.came honest.first (subst (WasAccepted f peer me journal came_at came) one was) honest.first_came in
          let entries : ◌≡◌ {A = Option Entry} (Some came) (Some honest.came) = sym was.is_at ∙ ap (slice_get journal) places ∙ honest.first_came.is_at in
          let there : came ≡ honest.came = cc in
          let slot : slot_time f me peer (take came_at journal) first.message ≡ Some honest.sent.time =
          ap (λ r. slot_time f me peer (take came_at journal) r.message) one ∙ ap (λ k. slot_time f me peer (take k journal) honest.first.message) places
          ∙ began-slot f me peer journal honest.came_at honest.sent_at honest.sent honest.first.message honest.there honest.first_began in
          ap (legs_heard honest.turned.time back.time) arrival
          ∙ ap (λ slot. option_map (λ sent. record { sent = sent; came = came.time; turned = honest.turned.time; back = back.time }) slot) slot
          ∙ ap (λ e. Some (record { sent = honest.sent.time; came = e.time; turned = honest.turned.time; back = back.time })) there
          ∙ ap (λ x. Some x) (sym honest.times)
