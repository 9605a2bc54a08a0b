use Rattle.sample_store.proofs.Empty.{StandsFor-none}
use Rattle.sample_store.proofs.store.Store.new.Goals as goal

pub returns-clause-stands : goal.returns-clause-stands
returns-clause-stands c = rw c.get.ensures.number (StandsFor-none c.args.s.now c.args.me c.new.result c.new.ensures)
