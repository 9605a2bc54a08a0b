use Rattle.std.proofs.Common.{None, arith, refl, sym, ◌∙◌}
use Rattle.pingpong.specs.declared.journal.What.TheVariants as what
use Rattle.relay_core.specs.declared.call.Call.TheVariants as made
use Rattle.line_journal.specs.Account.{entry_at}
use Rattle.relay_core.specs.StationLog.{StationLog, stamp_at}
use Rattle.line_journal.proofs.Accounts.{Forged-same, accepted-none, begun-none, judged-faults, histories-quiet, lines-decided}
use Rattle.line_journal.proofs.Entries.{Hands-send_failed, Hands-take_failed}
use Rattle.line_journal.proofs.Rooms.{room-after, room-lines, room-same}
use Rattle.line_journal.proofs.Tallies.{TotalOf-same, totals-same}
use Rattle.line_journal.proofs.account.Account.faulted.Goals as goal

pub decide-requires-clause-room : goal.decide-requires-clause-room
decide-requires-clause-room c =
    let room = rw (← c.self.view_is) at c.requires.room in
    let lines = room-lines 1 _ c.self.inside.histories.items room in
    omega (arith, lines)

pub returns-clause-room : goal.returns-clause-room
returns-clause-room c =
    let after = c.decide.ensures.room in
    rw (← c.self.view_is)
    (room-after _ _ c.self.inside.histories.items c.self.inside.histories.items (omega (arith, after.0, after.1)) (λ n. room-same n c.self.inside.histories.items))

pub returns-clause-took : goal.returns-clause-took
returns-clause-took c =
    rw (← c.self.view_is) (λ journal peer old is.
    let f = c.self.inside.settings in
    let me = c.args.me in
    let entry = entry_at c.args.now.now (what.TakeFailed me peer) in
    let call = made.Fault (stamp_at me entry) peer in
    let log = StationLog me journal in
    let hands = Hands-take_failed c.args.now.now me peer in
    let none = judged-faults f me log (stamp_at me entry) peer in
    record {
      lines = c.decide.ensures.lines
          ∙ lines-decided f journal entry me call hands c.self.inside.lines.items None c.deref.result.now old.lines refl none (c.deref.ensures.0 ∙ is);
      totals = totals-same f journal entry me call hands c.self.inside.totals old.totals (TotalOf-same f me log call (λ A tells. refl) none);
      forged = old.forged ∙ sym (Forged-same f journal entry refl);
      histories = histories-quiet f journal entry me call hands c.self.inside.histories.items (begun-none f journal entry me call hands (λ p. refl))
          (accepted-none f journal entry me call hands (λ p. refl)) old.histories;
    })

pub returns-clause-sent : goal.returns-clause-sent
returns-clause-sent c =
    rw (← c.self.view_is) (λ journal peer old is.
    let f = c.self.inside.settings in
    let me = c.args.me in
    let entry = entry_at c.args.now.now (what.SendFailed me peer) in
    let call = made.Fault (stamp_at me entry) peer in
    let log = StationLog me journal in
    let hands = Hands-send_failed c.args.now.now me peer in
    let none = judged-faults f me log (stamp_at me entry) peer in
    record {
      lines = c.decide.ensures.lines
          ∙ lines-decided f journal entry me call hands c.self.inside.lines.items None c.deref.result.now old.lines refl none (c.deref.ensures.0 ∙ is);
      totals = totals-same f journal entry me call hands c.self.inside.totals old.totals (TotalOf-same f me log call (λ A tells. refl) none);
      forged = old.forged ∙ sym (Forged-same f journal entry refl);
      histories = histories-quiet f journal entry me call hands c.self.inside.histories.items (begun-none f journal entry me call hands (λ p. refl))
          (accepted-none f journal entry me call hands (λ p. refl)) old.histories;
    })
