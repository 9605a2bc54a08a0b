use Rattle.calm_channel.proofs.Below.{lines-are}
use Rattle.calm_channel.proofs.laws.frames_come_as_they_were_sent.Goals as goal

pub returns : goal.returns
returns c s sound calm = lines-are s sound calm
