use Rattle.std.proofs.Common.{rules}
use Rattle.phasor.proofs.Sizes.{AreSamples-from}
use Rattle.phasor.proofs.changes.changed.Goals as goal

pub returns-clause-in_range : goal.returns-clause-in_range
returns-clause-in_range g c =
    AreSamples-from c.args.newest.now (search rules) c.changed_station.ensures.in_range c.changed_station-2.ensures.in_range c.changed_if_there.ensures.in_range
