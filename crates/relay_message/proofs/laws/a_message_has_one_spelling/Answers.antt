use Rattle.relay_message.proofs.Spellings.{spelled-only}
use Rattle.relay_message.proofs.laws.a_message_has_one_spelling.Goals as goal

pub returns : goal.returns
returns c = spelled-only
