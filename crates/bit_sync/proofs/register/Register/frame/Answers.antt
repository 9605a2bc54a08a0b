use Rattle.std.proofs.Common.{◌∙◌}
use Rattle.bit_sync.proofs.Registers.{newest_words}
use Rattle.bit_sync.proofs.register.Register.frame.Goals as goal

pub returns-clause-number : goal.returns-clause-number
returns-clause-number c = c.bytes_of.ensures.number ∙ newest_words _ _ _ _ c.bytes_of.ensures.small c.self.view_is
