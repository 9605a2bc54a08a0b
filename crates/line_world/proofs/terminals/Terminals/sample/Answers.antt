use Rattle.std.proofs.Common.{refl, ◌∙◌}
use Rattle.pingpong.specs.declared.journal.What.TheVariants.{Took}
use Rattle.relay_core.specs.declared.call.Call.TheVariants as made
use Rattle.relay_core.specs.IsAnswer.{IsSampled}
use Rattle.line_world.proofs.Stationing.{names-station, stationed, terminal-at, told-of}
use Rattle.line_world.proofs.terminals.Terminals.sample.Goals as goal

pub invariant_of-self : goal.invariant_of-self
invariant_of-self c =
    let h = c.self.inside in
    let there = rw (← c.self.view_is) at c.requires.there in
    let now = c.args.now.now in
    let old = c.index_mut-terminal.result.now in
    let kept = c.self.invariant in
    let values = c.value-values.result in
    let answer = c.sample-sampled.result in
    let is = names-station c.args.station c.stamp-stamp.result now.tick now.phases (Took c.args.station values)
    (λ at. made.Sample at values) c.entry.result c.entry.ensures c.stamp-stamp.ensures (λ me at. refl) in
    let terminal = terminal-at h.scenario.settings h.journal.items h.terminals.items c.args.station c.place_of.result old kept.terminals there c.place_of.ensures
    c.index_mut-terminal.ensures.value in
    let told = told-of (λ f me log at. IsSampled f me log (made.Sample at values) answer) h.scenario.settings h.account.settings h.journal.items c.args.station
    c.stamp-stamp.result _ old terminal kept.settings c.stamp-stamp.ensures
    c.sample-sampled.ensures.answer in
    record {
      terminals = rw c.push_reserved.ensures.items
          (stationed h.scenario.settings h.journal.items h.terminals.items c.args.station c.place_of.result (made.Sample c.stamp-stamp.result values) c.entry.result old
          c.sample-sampled.new.self kept.terminals there c.place_of.ensures c.index_mut-terminal.ensures.value is
          (record { settings = c.sample-sampled.ensures.settings; stands = c.sample-sampled.ensures.stands }));
      settings = c.sampled.ensures.settings ∙ kept.settings;
      account = rw (c.push_reserved.ensures.items, c.entry.ensures) (c.sampled.ensures.account h.journal.items values kept.account told);
    }
