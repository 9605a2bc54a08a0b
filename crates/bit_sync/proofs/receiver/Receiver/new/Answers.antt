use Rattle.bit_sync.proofs.Fills.{nothing_fed}
use Rattle.bit_sync.specs.Step.{rules}
use Rattle.bit_sync.proofs.receiver.Receiver.new.Goals as goal

pub returns-clause-empty : goal.returns-clause-empty
returns-clause-empty c = nothing_fed (rules c.args.words c.args.misses c.args.channels) _ c.zeros.ensures
