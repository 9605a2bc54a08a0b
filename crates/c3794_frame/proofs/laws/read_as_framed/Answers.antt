use Rattle.c3794_frame.proofs.Readings.{read_is_frame}
use Rattle.c3794_frame.proofs.laws.read_as_framed.Goals as goal

pub returns : goal.returns
returns c words channels bits f = read_is_frame words channels bits f
