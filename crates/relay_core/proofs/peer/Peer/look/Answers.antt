use Rattle.std.proofs.Common.{◌++◌, ◌∙◌, ap, map}
use Rattle.channel_alarm.specs.Alarms.{is_on, stands, turns}
use Rattle.relay_core.specs.declared.answers.Change.{Change}
use Rattle.relay_core.proofs.peer.Peer.look.Goals as goal

pub returns-clause-changes : goal.returns-clause-changes
returns-clause-changes c =
    let p = c.args.self.now in
    c.add.ensures
    ∙ ap (λ ts. c.args.changes.now.items ++ map {B = Change} (λ turn. record { peer = p.station; turn = turn }) ts)
    (c.deref.ensures.0 ∙ c.update-turns.ensures.turns ∙ ap (λ known. turns (stands p.alarms) (is_on p.alarms.silent known)) c.facts-facts.ensures)
