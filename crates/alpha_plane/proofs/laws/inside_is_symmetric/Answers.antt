use Rattle.alpha_plane.proofs.Insides.{Inside_comm}
use Rattle.alpha_plane.proofs.laws.inside_is_symmetric.Goals as goal

pub returns : goal.returns
returns c = Inside_comm
