use Rattle.alpha_plane.proofs.Insides.{Inside-one_zero}
use Rattle.alpha_plane.proofs.laws.one_zero_is_outside.Goals as goal

pub returns : goal.returns
returns c = Inside-one_zero
