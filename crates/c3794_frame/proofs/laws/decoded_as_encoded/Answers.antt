use Rattle.c3794_frame.proofs.Readings.{frame_read}
use Rattle.c3794_frame.proofs.laws.decoded_as_encoded.Goals as goal

pub returns : goal.returns
returns c words f bits = frame_read words f bits
