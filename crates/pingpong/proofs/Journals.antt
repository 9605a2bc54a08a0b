-- Entries of a journal, and an exchange among them.
use Rattle.std.specs.Prelude.{ℕ, ◌-◌, List, Some, slice_get}
use Rattle.std.proofs.Common.{◌≡◌, ◌≤◌, inl, inr, refl, sym, ◌∙◌, arith}
use Rattle.std.proofs.lemmas.Bool.{cases_lt, cases_order}
use Rattle.std.proofs.lemmas.Option.{get_or_from_slice_get, slice_get_within}
use Rattle.pingpong.specs.Bounded.{IsPassage}
use Rattle.pingpong.specs.Journal.{read_at, Follows, IsJournal, passage, Happened}
use Rattle.pingpong.specs.Reading.{Reading, WithinDrift, SameClock}
use Rattle.pingpong.specs.declared.journal.Entry.{Entry}

WithinDrift-self : (drift : ℕ) (reading : Reading) → WithinDrift drift reading reading
WithinDrift-self drift reading =
    let none : reading.time - reading.time ≡ 0 = omega arith in
    record { order = omega arith; most = rw none (omega arith); least = rw none (omega arith) }

pub Follows-in : (drift : ℕ) (journal : List Entry) (i j : ℕ) (earlier later : Entry) → IsJournal drift journal → i ≤ j
    → slice_get journal i ≡ Some earlier → slice_get journal j ≡ Some later → Follows drift earlier later
Follows-in drift journal i j earlier later follows order is_earlier is_later =
    let first = get_or_from_slice_get journal i earlier earlier is_earlier in
    let second = get_or_from_slice_get journal j later earlier is_later in
    elim (cases_order i j) [
      | inl same ↦
          let is : later ≡ earlier = sym second ∙ rw (← same) first in
          rw is (record { order = omega arith; clocks = λ station first last. WithinDrift-self drift (read_at station earlier) })
      | inr differ ↦ elim differ [
        | inl before ↦ rw (first, second) at (follows i j earlier before (slice_get_within journal j later is_later))
        | inr behind ↦ absurd (omega arith)
      ]
    ]

pub IsPassage-in : (drift : ℕ) (journal : List Entry) (sent came turned back now : Entry) → IsJournal drift journal
    → Happened journal sent came turned back now → (station peer : ℕ) → (1 ≤ station) × (station ≤ 3) → (1 ≤ peer) × (peer ≤ 3)
    → IsPassage drift (passage station peer sent came turned back) (read_at station now) (read_at peer now)
IsPassage-in drift journal sent came turned back now follows at station peer is_station is_peer =
    let follow = λ (i j : ℕ) (earlier later : Entry). Follows-in drift journal i j earlier later follows in
    let since_sent = follow at.place_sent at.place_now sent now (omega arith) at.is_sent at.is_now in
    let since_came = follow at.place_came at.place_now came now (omega arith) at.is_came at.is_now in
    let since_turned = follow at.place_turned at.place_now turned now (omega arith) at.is_turned at.is_now in
    let since_back = follow at.place_back at.place_now back now at.since at.is_back at.is_now in
    record {
      order = record {
        there = (follow at.place_sent at.place_came sent came at.there at.is_sent at.is_came).order;
        held = (follow at.place_came at.place_turned came turned at.held at.is_came at.is_turned).order;
        home = (follow at.place_turned at.place_back turned back at.home at.is_turned at.is_back).order;
        over = since_back.order;
      };
      now = refl;
      own_since_sent = since_sent.clocks station is_station.0 is_station.1;
      own_since_back = since_back.clocks station is_station.0 is_station.1;
      peer_since_came = since_came.clocks peer is_peer.0 is_peer.1;
      peer_since_turned = since_turned.clocks peer is_peer.0 is_peer.1;
    }

pub SameClock-in : (drift : ℕ) (journal : List Entry) (i j : ℕ) (one other : Entry) → IsJournal drift journal
    → slice_get journal i ≡ Some one → slice_get journal j ≡ Some other → (station : ℕ) → (1 ≤ station) × (station ≤ 3)
    → SameClock drift (read_at station one) (read_at station other)
SameClock-in drift journal i j one other follows is_one is_other station is_station = elim (cases_lt i j) [
  | inl before ↦ inl ((Follows-in drift journal i j one other follows (omega arith) is_one is_other).clocks station is_station.0 is_station.1)
  | inr behind ↦ inr ((Follows-in drift journal j i other one follows behind is_other is_one).clocks station is_station.0 is_station.1)
]
