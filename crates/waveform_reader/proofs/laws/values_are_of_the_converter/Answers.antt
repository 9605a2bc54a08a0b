use Rattle.waveform_reader.proofs.ShapeFacts.{values_kept}
use Rattle.waveform_reader.proofs.laws.values_are_of_the_converter.Goals as goal

pub returns : goal.returns
returns c = values_kept (λ k. (c.a_factor_stays_within_its_scale.ensures 20 k).0)
