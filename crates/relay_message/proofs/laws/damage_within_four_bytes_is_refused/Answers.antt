use Rattle.relay_message.proofs.Spellings.{damage-refused}
use Rattle.relay_message.proofs.laws.damage_within_four_bytes_is_refused.Goals as goal

pub returns : goal.returns
returns c = damage-refused
