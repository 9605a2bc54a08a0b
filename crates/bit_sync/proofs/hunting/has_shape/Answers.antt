use Rattle.bit_sync.proofs.Shapes.{shape_of, unshaped}
use Rattle.bit_sync.proofs.hunting.has_shape.Goals as goal

pub returns : goal.returns
unfolding shape_of
returns c fails k below shape = unshaped c.args.newest c.args.count c.ranges.newest.fits c.requires fails k below shape
