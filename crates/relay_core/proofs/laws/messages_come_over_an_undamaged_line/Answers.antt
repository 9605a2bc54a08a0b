use Rattle.std.proofs.Common.{sym, ap, ◌∙◌, ◌/◌}
use Rattle.relay_core.specs.Calls.{AreStations}
use Rattle.relay_core.specs.Line.{messages_on, rules_of}
use Rattle.relay_core.specs.Sent.{Slots}
use Rattle.relay_core.proofs.Undamaged.{Accepted-whole, Slots-come}
use Rattle.relay_core.proofs.laws.messages_come_over_an_undamaged_line.Goals as goal

pub returns : goal.returns
returns c f me peer n own other none stations calls first within line =
    let turned : AreStations f peer me = record { one = stations.another; another = stations.one; differ = λ same. stations.differ (sym same) } in
    let can = Slots-come f peer me other none turned calls in
    let come = c.messages_come_over_an_undamaged_line.ensures.messages (rules_of f) (Slots f peer me other) n can.rules can.sendable can.turn first within in
    Accepted-whole f me peer (n / 256) own other none turned calls (ap (messages_on f) line ∙ come)
