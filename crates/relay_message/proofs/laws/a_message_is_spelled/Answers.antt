use Rattle.relay_message.proofs.Spellings.{spelled-is}
use Rattle.relay_message.proofs.laws.a_message_is_spelled.Goals as goal

pub returns : goal.returns
returns c = spelled-is
