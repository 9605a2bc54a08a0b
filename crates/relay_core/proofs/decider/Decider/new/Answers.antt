use Rattle.std.proofs.Common.{◌∙◌, sym}
use Rattle.sample_store.specs.Along.{along_from}
use Rattle.relay_core.proofs.decider.Decider.new.Goals as goal

pub invariant_of-result : goal.invariant_of-result
unfolding along_from
invariant_of-result c = record { in_step = c.in_ok-new.ensures.next ∙ sym c.new.ensures.stands.given_next }

pub returns-clause-decides : goal.returns-clause-decides
unfolding along_from
returns-clause-decides c = record {
  fields = (c.new.ensures.settings.0, c.in_ok-new.ensures.settings);
  station = c.new.ensures.settings.1;
  store = c.new.ensures.stands;
  trip = c.in_ok-new.ensures.stands;
}
