use Rattle.waveform_reader.proofs.ShapeFacts.{nothing_there}
use Rattle.waveform_reader.proofs.laws.a_station_that_is_not_there_has_no_current.Goals as goal

pub returns : goal.returns
returns c s station t kept beyond = nothing_there s kept station t beyond
