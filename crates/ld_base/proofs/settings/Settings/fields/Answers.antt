use Rattle.ld_base.proofs.Accepted.{AreInRange-from_no_fault, words_differ}
use Rattle.ld_base.proofs.settings.Settings.fields.Goals as goal

pub returns-clause-in_range : goal.returns-clause-in_range
returns-clause-in_range c = AreInRange-from_no_fault c.self.inside.fields c.self.invariant

pub returns-clause-words : goal.returns-clause-words
returns-clause-words c = words_differ c.self.inside.fields c.self.invariant
