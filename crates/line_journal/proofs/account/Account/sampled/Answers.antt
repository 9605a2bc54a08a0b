use Rattle.std.proofs.Common.{◌-◌, arith, refl, sym, ◌∙◌}
use Rattle.pingpong.specs.declared.journal.What.TheVariants as what
use Rattle.relay_core.specs.declared.call.Call.TheVariants as made
use Rattle.line_journal.specs.Account.{entry_at}
use Rattle.relay_core.specs.StationLog.{StationLog, stamp_at}
use Rattle.line_journal.specs.Told.{with_judged}
use Rattle.line_journal.proofs.Accounts.{Forged-same, accepted-none, begun-none, histories-quiet, lines-decided}
use Rattle.line_journal.proofs.Entries.{Hands-took}
use Rattle.line_journal.proofs.Rooms.{room-after, room-lines, room-same}
use Rattle.line_journal.proofs.Tallies.{TotalOf-silent, totals-told}
use Rattle.line_journal.proofs.account.Account.sampled.Goals as goal

pub decide-requires-clause-room : goal.decide-requires-clause-room
decide-requires-clause-room c =
    let room = rw (← c.self.view_is) at c.requires.room in
    let lines = room-lines 1 _ c.self.inside.histories.items room in
    omega (arith, lines)

pub returns-clause-room : goal.returns-clause-room
returns-clause-room c =
    let after = c.decide.ensures.room in
    rw (← c.self.view_is)
    (room-after _ _ c.self.inside.histories.items c.self.inside.histories.items (omega (arith, after.0, after.1)) (λ n. room-same n c.self.inside.histories.items))

pub returns-clause-account : goal.returns-clause-account
returns-clause-account c =
    rw (← c.self.view_is) (λ journal values old is.
    let f = c.self.inside.settings in
    let me = c.args.me in
    let entry = entry_at c.args.now.now (what.Took me values) in
    let call = made.Sample (stamp_at me entry) values in
    let log = StationLog me journal in
    let hands = Hands-took c.args.now.now me values in
    record {
      lines = c.decide.ensures.lines
          ∙ lines-decided f journal entry me call hands c.self.inside.lines.items c.args.sampled.now.judged c.deref.result.now old.lines refl is.judged
          (c.deref.ensures.0 ∙ is.changes);
      totals = totals-told f journal entry me call hands c.self.inside.totals (c.from.result - 1) c.count_judged.new.total _ (λ t. with_judged t c.args.sampled.now.judged)
          (omega (arith, c.from.ensures, c.get.ensures.number, c.get.ensures.in_range))
          old.totals (TotalOf-silent f me log call c.args.sampled.now.judged (λ A tells. refl) is.judged) c.count_judged.ensures;
      forged = old.forged ∙ sym (Forged-same f journal entry refl);
      histories = histories-quiet f journal entry me call hands c.self.inside.histories.items (begun-none f journal entry me call hands (λ peer. refl))
          (accepted-none f journal entry me call hands (λ peer. refl)) old.histories;
    })
