use Rattle.alpha_plane.proofs.Insides.{Inside-products}
use Rattle.alpha_plane.proofs.laws.inside_goes_by_the_ratio.Goals as goal

pub returns : goal.returns
returns c = Inside-products
