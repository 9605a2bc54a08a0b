use Rattle.std.proofs.Common.{◌≡◌, refl, ◌∙◌}
use Rattle.pingpong.specs.declared.journal.What.TheVariants.{TakeFailed}
use Rattle.relay_core.specs.Answers.{changes_by}
use Rattle.relay_core.specs.declared.call.Call.TheVariants as made
use Rattle.line_world.proofs.Stationing.{IsCallOf, names-station, peer-at, stationed, terminal-at, told-of}
use Rattle.line_world.proofs.terminals.Terminals.take_failed.Goals as goal

pub fault-changes-requires : goal.fault-changes-requires
fault-changes-requires c =
    peer-at c.self.inside.scenario c.self.inside.journal.items c.self.inside.terminals.items c.args.receiver c.args.sender c.place_of.result
    c.index_mut-terminal.result.now c.self.invariant.terminals (rw (← c.self.view_is) at c.requires.two) c.place_of.ensures c.index_mut-terminal.ensures.value

-- the entry is the failed call of the receiver
is_call : (c : goal.After-push_reserved) → IsCallOf c.args.receiver (made.Fault c.stamp-stamp.result c.args.sender) c.entry.result
is_call c =
    let now = c.args.now.now in
    names-station c.args.receiver c.stamp-stamp.result now.tick now.phases (TakeFailed c.args.receiver c.args.sender)
    (λ at. made.Fault at c.args.sender) c.entry.result c.entry.ensures c.stamp-stamp.ensures (λ me at. refl)

pub invariant_of-self : goal.invariant_of-self
invariant_of-self c =
    let h = c.self.inside in
    let there = (rw (← c.self.view_is) at c.requires.two).one_there in
    let old = c.index_mut-terminal.result.now in
    let kept = c.self.invariant in
    let changes = c.fault-changes.result.items in
    let terminal = terminal-at h.scenario.settings h.journal.items h.terminals.items c.args.receiver c.place_of.result old kept.terminals there c.place_of.ensures
    c.index_mut-terminal.ensures.value in
    let told = told-of (λ f me log at. changes ≡ changes_by f me log (made.Fault at c.args.sender)) h.scenario.settings h.account.settings h.journal.items c.args.receiver
    c.stamp-stamp.result _ old terminal kept.settings c.stamp-stamp.ensures c.fault-changes.ensures.changes in
    record {
      terminals = rw c.push_reserved.ensures.items
          (stationed h.scenario.settings h.journal.items h.terminals.items c.args.receiver c.place_of.result (made.Fault c.stamp-stamp.result c.args.sender) c.entry.result
          old c.fault-changes.new.self kept.terminals there c.place_of.ensures c.index_mut-terminal.ensures.value (is_call c)
          (record { settings = c.fault-changes.ensures.settings; stands = c.fault-changes.ensures.stands }));
      settings = c.faulted.ensures.settings ∙ kept.settings;
      account = rw (c.push_reserved.ensures.items, c.entry.ensures) (c.faulted.ensures.took h.journal.items c.args.sender kept.account told);
    }
