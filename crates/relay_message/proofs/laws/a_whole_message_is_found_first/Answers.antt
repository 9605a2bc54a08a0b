use Rattle.relay_message.proofs.Spellings.{told-spelled}
use Rattle.relay_message.proofs.laws.a_whole_message_is_found_first.Goals as goal

pub returns : goal.returns
returns c = told-spelled
