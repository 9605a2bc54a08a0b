use Rattle.relay_message.proofs.Lines.{told-longer}
use Rattle.relay_message.proofs.laws.a_longer_line_tells_the_same_first.Goals as goal

pub returns : goal.returns
returns g c = told-longer g.L.Format.layout
