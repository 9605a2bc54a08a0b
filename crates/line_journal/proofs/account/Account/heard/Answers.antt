use Rattle.std.specs.Option.{option_to_list}
use Rattle.std.proofs.Common.{◌≡◌, ◌<◌, ◌≤◌, ◌-◌, ◌++◌, ◌∙◌, ap, arith, get_or, length, map, subst, sym}
use Rattle.std.proofs.lemmas.List.{length-set}
use Rattle.std.proofs.lemmas.List.Elements.{All-set}
use Rattle.pingpong.specs.declared.journal.What.TheVariants as what
use Rattle.relay_core.specs.Log as log
use Rattle.relay_core.specs.declared.call.Call.TheVariants as made
use Rattle.relay_core.proofs.Lists as lists
use Rattle.line_journal.specs.Account.{IsHistory, entry_at}
use Rattle.line_journal.specs.Inside.{way_of}
use Rattle.line_journal.specs.Crossings.{Forged}
use Rattle.line_journal.specs.LineHistory.{AreRising}
use Rattle.line_journal.specs.Stations.{Way}
use Rattle.line_journal.specs.Report.{alarm_line, est_line, set_line}
use Rattle.relay_core.specs.StationLog.{StationLog, stamp_at}
use Rattle.line_journal.specs.Told.{accepted_in, crossing_told, with_accepted, with_arrival, with_heard, with_judged}
use Rattle.line_journal.proofs.Accounts.{Forged-push, lines-told}
use Rattle.line_journal.proofs.Entries.{Hands-came, StationLog-here}
use Rattle.line_journal.proofs.Histories.{map-set_alike}
use Rattle.line_journal.proofs.Receipts.{arrivals-heard, estimates-heard, history-heard, history-other, receipts-length, same-way}
use Rattle.line_journal.proofs.Rising.{Beginnings-rise}
use Rattle.line_journal.proofs.Rooms.{room-after, room-lines, room-same}
use Rattle.line_journal.proofs.Tallies.{TotalOf-heard, totals-told}
use Rattle.line_journal.proofs.HistoryWays.{history-at, same-place}
use Rattle.line_journal.proofs.account.Account.heard.Goals as goal

pub estimate-requires : goal.estimate-requires
estimate-requires c =
    let room = rw (← c.self.view_is) at c.requires.room in
    let lines = room-lines 1 _ c.self.inside.histories.items room in
    record { room = omega (arith, lines) }

pub decide-requires-clause-room : goal.decide-requires-clause-room
decide-requires-clause-room c =
    let room = rw (← c.self.view_is) at c.requires.room in
    let lines = room-lines 1 _ c.self.inside.histories.items room in
    let more = c.estimate.ensures.room in
    omega (arith, lines, more.0, more.1)

-- the history of the line from the peer
line : (c : goal.After-decide)
    → (way_of (get_or c.self.inside.histories.items c.place_of-place.result c.index_mut-history.result.now) ≡ record { from = c.args.peer; to = c.args.me })
    × (c.place_of-place.result < length c.self.inside.histories.items)
line c =
    history-at c.self.inside.settings c.self.invariant.settings c.self.inside.histories.items c.self.invariant.ways c.place_of-place.result _ c.index_mut-history.result.now
    (c.place_of-place.ensures c.self.inside.settings (ap (λ f. f.stations) (sym c.fields.ensures.same)))

pub invariant_of-self : goal.invariant_of-self
invariant_of-self c =
    let items = c.self.inside.histories.items in
    let l = c.index_mut-history.result.now in
    let new = c.meet-arrival.new.history in
    record {
      settings = c.self.invariant.settings;
      totals = length-set c.self.inside.totals (c.from.result - 1) c.count_judged.new.total ∙ c.self.invariant.totals;
      ways = map-set_alike way_of items c.place_of-place.result new l
          (same-way new.from l.from new.to l.to c.meet-arrival.ensures.same.0 c.meet-arrival.ensures.same.1 ∙ ap way_of c.index_mut-history.ensures.value)
          ∙ c.self.invariant.ways;
    }

pub returns-clause-room : goal.returns-clause-room
returns-clause-room c =
    let items = c.self.inside.histories.items in
    let l = c.index_mut-history.result.now in
    let first = c.estimate.ensures.room in
    let second = c.decide.ensures.room in
    rw (← c.self.view_is)
    (room-after _ _ items _ (omega (arith, first.0, first.1, second.0, second.1)) (λ n each.
    let had = each c.place_of-place.result l (line c).1 in
    let room = c.meet-arrival.ensures.same.2 ∙ ap (λ x. x.room) c.index_mut-history.ensures.value in
    All-set (λ x. n ≤ x.room) items c.place_of-place.result c.meet-arrival.new.history (omega (arith, had, room)) (room-same n items each)))

pub returns-clause-account : goal.returns-clause-account
returns-clause-account c =
    rw (← c.self.view_is) (λ journal bits old at_is is.
    let f = c.self.inside.settings in
    let me = c.args.me in
    let peer = c.args.peer in
    let heard = c.args.heard.now in
    let entry = entry_at c.args.now.now (what.Came me peer bits) in
    let stamp = stamp_at me entry in
    let call = made.Bits stamp peer bits in
    let hands = Hands-came c.args.now.now me peer bits in
    let place = c.place_of-place.result in
    let items = c.self.inside.histories.items in
    let l = c.index_mut-history.result.now in
    let new = c.meet-arrival.new.history in
    let value = c.index_mut-history.ensures.value in
    let time = at_is ∙ ap log.now (StationLog-here journal entry me call hands) in
    let is_l : IsHistory f journal l = subst (IsHistory f journal) (sym value) (old.histories place l (line c).1) in
    let way_l : way_of l ≡ record { from = peer; to = me } = ap way_of value ∙ (line c).0 in
    let from : l.from ≡ peer = ap (λ (w : Way). w.from) way_l in
    let to : l.to ≡ me = ap (λ (w : Way). w.to) way_l in
    let rising : AreRising l.begun = subst AreRising (sym is_l.begun) (Beginnings-rise f l.from l.to journal) in
    let new_is = c.meet-arrival.ensures.history rising ∙ ap (λ t. with_accepted c.args.now.now.tick t heard.taken (accepted_in heard.news) l) time in
    let is_new = subst (IsHistory f _) (sym new_is) (history-heard f journal entry me peer stamp bits heard hands is l is_l from to) in
    let est = map (est_line f me peer entry) (option_to_list (crossing_told new heard.taken heard.chosen)) in
    record {
      lines = c.decide.ensures.lines
          ∙ ap (λ xs. xs ++ map (set_line entry.time me) (option_to_list heard.judged) ++ map (alarm_line entry.time me) c.deref.result.now) (c.estimate.ensures.lines (what.Came me peer bits))
          ∙ lines-told f journal entry me call hands c.self.inside.lines.items est heard.judged c.deref.result.now old.lines
          (estimates-heard f journal entry me peer stamp bits heard hands is new is_new (c.meet-arrival.ensures.same.0 ∙ from) (c.meet-arrival.ensures.same.1 ∙ to))
          is.judged (c.deref.ensures.0 ∙ is.changes);
      totals = totals-told f journal entry me call hands c.self.inside.totals (c.from.result - 1) c.count_judged.new.total _ (λ t. with_judged (with_heard t heard) heard.judged)
          (omega (arith, c.from.ensures, c.get.ensures.number, c.get.ensures.in_range)) old.totals
          (TotalOf-heard f me peer stamp bits (StationLog me journal) heard is (receipts-length f me peer (StationLog me journal) call heard is))
          (c.count_judged.ensures ∙ ap (λ t. with_judged t heard.judged) c.count_heard.ensures);
      forged = c.count_forged.ensures
          ∙ ap (λ n. with_arrival n c.meet-arrival.result) old.forged
          ∙ ap (with_arrival (Forged f journal)) (c.meet-arrival.ensures.arrival rising)
          ∙ sym (Forged-push f journal entry _ (arrivals-heard f journal entry me peer stamp bits heard hands is l is_l from to));
      histories = lists.All-set (IsHistory f journal) (IsHistory f _) items place new old.histories
          (λ k d inside away of_line. history-other f journal entry me peer stamp bits heard hands is (get_or items k d) of_line
          (λ same. away (same-place f c.self.invariant.settings items c.self.invariant.ways k place d l inside (line c).1 (same ∙ sym (line c).0))))
          is_new;
    })
