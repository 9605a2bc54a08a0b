use Rattle.std.specs.Vec.{with_items}
use Rattle.std.proofs.Common.{◌≡◌, ◌≤◌, ◌∙◌, All, ap, arith, length, map, subst, sym}
use Rattle.std.proofs.lemmas.List.{length-map}
use Rattle.relay_core.proofs.Lists.{written}
use Rattle.line_journal.specs.Account.{IsHistory}
use Rattle.line_journal.specs.Inside.{roomless, way_of}
use Rattle.line_journal.proofs.Histories.{histories-roomless, on-ok, ways-roomless}
use Rattle.line_journal.proofs.Rooms.{room-all}
use Rattle.line_journal.proofs.account.Account.make_room.Goals as goal

-- the histories are as they were, but for their rooms
same : (c : goal.After-self-1) → map roomless c.make_room_on.new.histories ≡ map roomless c.self.inside.histories.items
same c = c.make_room_on.ensures.same ∙ ap (map roomless) c.deref_mut.ensures.value

items : (c : goal.After-self-1) → (with_items c.self.inside.histories c.make_room_on.new.histories).items ≡ c.make_room_on.new.histories
items c =
    written c.self.inside.histories c.make_room_on.new.histories
    (sym (length-map c.make_room_on.new.histories roomless) ∙ ap length (same c) ∙ length-map c.self.inside.histories.items roomless)

pub invariant_of-self-2 : goal.invariant_of-self-2
invariant_of-self-2 c = record {
  settings = c.self.invariant.settings;
  totals = c.self.invariant.totals;
  ways = ap (map way_of) (items c) ∙ ways-roomless c.make_room_on.new.histories c.self.inside.histories.items (same c) ∙ c.self.invariant.ways;
}

pub returns-clause-account : goal.returns-clause-account
returns-clause-account c =
    rw (← c.self.view_is) (λ journal old. record {
      lines = c.in_ok-reserve.ensures.items ∙ old.lines;
      totals = old.totals;
      forged = old.forged;
      histories = subst (All (IsHistory _ journal)) (sym (items c))
          (histories-roomless c.self.inside.settings journal c.self.inside.histories.items c.make_room_on.new.histories (sym (same c)) old.histories);
    })

pub returns-clause-room : goal.returns-clause-room
returns-clause-room c =
    on-ok c.make_room_on.result _ _ (λ each. room-all c.args.calls _ _ (omega (arith, c.in_ok-reserve.ensures.ok)) (subst (All (λ l. c.args.calls ≤ l.room)) (sym (items c)) each))
    c.make_room_on.ensures.room
