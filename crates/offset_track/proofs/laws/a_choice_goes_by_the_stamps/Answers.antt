use Rattle.offset_track.proofs.Maps.{InForce-map}
use Rattle.offset_track.proofs.laws.a_choice_goes_by_the_stamps.Goals as goal

pub returns : goal.returns
returns g c = InForce-map
