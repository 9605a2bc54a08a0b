use Rattle.std.specs.Vec.{with_items}
use Rattle.std.proofs.Common.{◌≡◌, ℕ, ◌≤◌, All, None, Option, ap, arith, map, refl, subst, sym, ◌∙◌}
use Rattle.pingpong.specs.declared.journal.What.TheVariants as what
use Rattle.relay_core.specs.declared.call.Call.TheVariants as made
use Rattle.relay_core.proofs.Lists.{written-mapped}
use Rattle.line_journal.specs.Account.{IsHistory, entry_at}
use Rattle.line_journal.specs.Inside.{way_of}
use Rattle.relay_core.specs.StationLog.{StationLog, stamp_at}
use Rattle.line_journal.specs.Told.{last_on, with_slot}
use Rattle.line_journal.specs.declared.crossing.Arrival.{Arrival}
use Rattle.line_journal.proofs.Accounts.{Forged-same, accepted-none, judged-sends, lines-decided}
use Rattle.line_journal.proofs.Departures.{histories-slot, rooms-slot, ways-slot}
use Rattle.line_journal.proofs.Entries.{Hands-slot}
use Rattle.line_journal.proofs.Rooms.{room-after, room-each, room-lines}
use Rattle.line_journal.proofs.Tallies.{TotalOf-same, totals-same}
use Rattle.line_journal.proofs.account.Account.slotted.Goals as goal

pub begin_all-requires : goal.begin_all-requires
begin_all-requires c =
    let room = rw (← c.self.view_is) at c.requires.room in
    subst (All (λ l. 1 ≤ l.room)) (sym c.deref_mut.ensures.value) (room-each 1 _ c.self.inside.histories.items room)

pub decide-requires-clause-room : goal.decide-requires-clause-room
decide-requires-clause-room c =
    let room = rw (← c.self.view_is) at c.requires.room in
    let lines = room-lines 1 _ c.self.inside.histories.items room in
    omega (arith, lines)

-- the histories after the slot
histories : (c : goal.After-decide)
    → (with_items c.self.inside.histories c.begin_all.new.histories).items
    ≡ map (with_slot c.args.now.now.tick c.args.me c.begin_all.ensures.0 c.deref.result.now) c.self.inside.histories.items
histories c = written-mapped _ c.self.inside.histories _ c.begin_all.new.histories c.deref_mut.ensures.value c.begin_all.ensures.2

pub invariant_of-self : goal.invariant_of-self
invariant_of-self c = record {
  settings = c.self.invariant.settings;
  totals = c.self.invariant.totals;
  ways = ap (map way_of) (histories c) ∙ ways-slot c.args.now.now.tick c.args.me c.begin_all.ensures.0 c.deref.result.now c.self.inside.histories.items ∙ c.self.invariant.ways;
}

pub returns-clause-room : goal.returns-clause-room
returns-clause-room c =
    let after = c.decide.ensures.room in
    rw (← c.self.view_is)
    (room-after _ _ c.self.inside.histories.items _ (omega (arith, after.0, after.1))
    (λ n each. subst (All (λ l. n ≤ l.room)) (sym (histories c))
    (rooms-slot c.args.now.now.tick c.args.me c.begin_all.ensures.0 c.deref.result.now c.self.inside.histories.items n each)))

pub returns-clause-account : goal.returns-clause-account
returns-clause-account c =
    rw (← c.self.view_is) (λ journal first second old is.
    let f = c.self.inside.settings in
    let me = c.args.me in
    let entry = entry_at c.args.now.now (what.Slot me first second) in
    let call = made.Slot (stamp_at me entry) in
    let log = StationLog me journal in
    let hands = Hands-slot c.args.now.now me first second in
    let none = judged-sends f me log (stamp_at me entry) in
    let heard : ℕ → Option Arrival = c.begin_all.ensures.0 in
    record {
      lines = c.decide.ensures.lines
          ∙ lines-decided f journal entry me call hands c.self.inside.lines.items None c.deref-2.result.now old.lines refl none (c.deref-2.ensures.0 ∙ is.changes);
      totals = totals-same f journal entry me call hands c.self.inside.totals old.totals (TotalOf-same f me log call (λ A tells. refl) none);
      forged = old.forged ∙ sym (Forged-same f journal entry refl);
      histories = subst (All (IsHistory f _)) (sym (histories c))
          (histories-slot f journal entry me call hands c.self.inside.histories.items heard c.deref.result.now c.self.invariant.settings c.self.invariant.ways
          (λ peer least most. c.begin_all.ensures.1 peer least most ∙ ap (λ ls. last_on ls peer me) c.deref_mut.ensures.value)
          (ap (map _) c.deref.ensures.0 ∙ is.frames) (accepted-none f journal entry me call hands (λ p. refl)) old.histories);
    })
