use Rattle.std.proofs.Common.{sym, rules, tests}
use Rattle.std.specs.Prelude.{◌==◌}
use Rattle.std.proofs.lemmas.Iterator.{YieldsList-from_slice}
use Rattle.std.proofs.lemmas.Iterator.Search.{find_from_yields_List}
use Rattle.relay_core.specs.declared.answers.Outgoing.{Outgoing}
use Rattle.line_world.proofs.Frames.{none_found}
use Rattle.line_world.proofs.tick.frame_to.Goals as goal

pub unreachable-requires : goal.unreachable-requires
unreachable-requires c =
    let frames = c.args.frames.now in
    let found = find_from_yields_List (λ (o : Outgoing). o.to == c.args.to) _ _ c.find.result c.find.ensures.ran (YieldsList-from_slice frames cc) (λ x b q k. search (rules, tests)) in
    none_found (λ (o : Outgoing). o.to == c.args.to) frames c.requires (sym (rw c.in-None.is at found))
