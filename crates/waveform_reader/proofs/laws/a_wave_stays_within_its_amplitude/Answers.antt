use Rattle.std.proofs.Common.{◌+◌}
use Rattle.waveform_reader.proofs.WaveFacts.{wave_small}
use Rattle.waveform_reader.proofs.laws.a_wave_stays_within_its_amplitude.Goals as goal

pub returns : goal.returns
returns c twentieths step amplitude = wave_small amplitude _ (c.a_factor_stays_within_its_scale.ensures 20 (twentieths + step)).0
