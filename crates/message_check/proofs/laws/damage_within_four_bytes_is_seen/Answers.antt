use Rattle.message_check.proofs.Damage.{damage-seen}
use Rattle.message_check.proofs.laws.damage_within_four_bytes_is_seen.Goals as goal

pub returns : goal.returns
returns c = damage-seen
