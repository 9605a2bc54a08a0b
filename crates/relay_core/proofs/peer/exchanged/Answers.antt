use Rattle.std.proofs.Common.{◌++◌}
use Rattle.std.specs.Option.{option_to_list}
use Rattle.relay_core.proofs.peer.exchanged.Goals as goal

pub returns-clause-fresh : goal.returns-clause-fresh
returns-clause-fresh c = λ offered stands.
    let settings = c.offer-taken.ensures.settings in
    rw (c.in-Accepted.is, ← settings.0, ← settings.1, ← c.exchange_of.ensures)
    (c.in_force.ensures.in_force (offered ++ option_to_list c.exchange_of.result) (c.offer-taken.ensures.stands offered stands))
