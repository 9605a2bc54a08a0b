use Rattle.message_check.proofs.Damage.{damage-of-checked}
use Rattle.message_check.proofs.laws.damage_of_checked_bytes_is_seen.Goals as goal

pub returns : goal.returns
returns c = damage-of-checked
