use Rattle.std.proofs.Common.{subst}
use Rattle.line_world.specs.Inside.{world_of}
use Rattle.line_world.specs.Journals.{IsJournalOf}
use Rattle.line_world.specs.Worlds.{World}
use Rattle.line_world.proofs.Firsts.{are_first}
use Rattle.line_world.proofs.world.World.journal.Goals as goal

pub returns-clause-law : goal.returns-clause-law
returns-clause-law g c =
    let w : World = world_of g.W.Wire.faults g.W.Wire.script g.W.Wire.next_tick c.self.inside in
    let is = c.self.invariant.world in
    subst (λ (w : World). IsJournalOf w.setup w.journal) c.self.view_is
    (c.a_world_keeps_a_journal.ensures w.setup is.these w.journal c.scenario.ensures.kept (are_first w is) is.leads)
