use Rattle.std.proofs.Common.{[], ◌∷◌, ◌++◌, ap, refl, sym, ◌∙◌}
use Rattle.pingpong.specs.declared.journal.What.TheVariants.{Came}
use Rattle.relay_core.specs.Log as log
use Rattle.relay_core.specs.declared.call.Call.TheVariants as made
use Rattle.std.specs.Prelude.{unwrap_or}
use Rattle.relay_core.specs.IsAnswer.{IsHeard}
use Rattle.relay_core.specs.StationLog.{StationLog}
use Rattle.line_world.proofs.Stationing.{IsCallOf, clock-now, log-here, names-station, peer-at, stationed, terminal-at, told-of}
use Rattle.line_world.proofs.terminals.Terminals.came.Goals as goal

pub bits-heard-requires : goal.bits-heard-requires
bits-heard-requires c =
    peer-at c.self.inside.scenario c.self.inside.journal.items c.self.inside.terminals.items c.args.receiver c.args.sender c.place_of.result
    c.index_mut-terminal.result.now c.self.invariant.terminals (rw (← c.self.view_is) at c.requires.two) c.place_of.ensures c.index_mut-terminal.ensures.value

-- the entry is the call of the receiver
is_call : (c : goal.After-push_reserved) → IsCallOf c.args.receiver (made.Bits c.stamp-stamp.result c.args.sender c.args.bits) c.entry.result
is_call c =
    let now = c.args.now.now in
    names-station c.args.receiver c.stamp-stamp.result now.tick now.phases (Came c.args.receiver c.args.sender c.args.bits)
    (λ at. made.Bits at c.args.sender c.args.bits) c.entry.result c.entry.ensures c.stamp-stamp.ensures (λ me at. refl)

pub invariant_of-self : goal.invariant_of-self
invariant_of-self c =
    let h = c.self.inside in
    let there = (rw (← c.self.view_is) at c.requires.two).one_there in
    let old = c.index_mut-terminal.result.now in
    let kept = c.self.invariant in
    let answer = c.bits-heard.result in
    let call = made.Bits c.stamp-stamp.result c.args.sender c.args.bits in
    let terminal = terminal-at h.scenario.settings h.journal.items h.terminals.items c.args.receiver c.place_of.result old kept.terminals there c.place_of.ensures
    c.index_mut-terminal.ensures.value in
    let before = StationLog c.args.receiver h.journal.items in
    let told = told-of (λ f me log at. IsHeard f me c.args.sender log (made.Bits at c.args.sender c.args.bits) answer) h.scenario.settings h.account.settings
    h.journal.items c.args.receiver c.stamp-stamp.result _ old terminal kept.settings c.stamp-stamp.ensures
    c.bits-heard.ensures.answer in
    let time = c.unwrap_or-at.ensures ∙ ap (λ time. unwrap_or time c.stamp-stamp.result) (c.clock.ensures (before ++ call ∷ []) (c.bits-heard.ensures.stands before terminal.stands))
    ∙ clock-now before call c.stamp-stamp.result ∙ ap log.now (sym (log-here c.args.receiver call c.entry.result h.journal.items (is_call c)))
    ∙ ap (λ e. log.now (StationLog c.args.receiver (h.journal.items ++ e ∷ []))) c.entry.ensures in
    record {
      terminals = rw c.push_reserved.ensures.items
          (stationed h.scenario.settings h.journal.items h.terminals.items c.args.receiver c.place_of.result call c.entry.result
          old c.bits-heard.new.self kept.terminals there c.place_of.ensures c.index_mut-terminal.ensures.value (is_call c)
          (record { settings = c.bits-heard.ensures.settings; stands = c.bits-heard.ensures.stands }));
      settings = c.heard.ensures.settings ∙ kept.settings;
      account = rw (c.push_reserved.ensures.items, c.entry.ensures) (c.heard.ensures.account h.journal.items c.args.bits kept.account time told);
    }
