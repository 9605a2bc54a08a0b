use Rattle.c3794_frame.proofs.Streams.{word_at_frame}
use Rattle.c3794_frame.proofs.laws.header_words_stand_at_frames.Goals as goal

pub returns : goal.returns
returns c words odd which bits p = word_at_frame words odd which bits p
