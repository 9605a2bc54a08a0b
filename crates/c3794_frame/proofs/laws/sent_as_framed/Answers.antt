use Rattle.c3794_frame.proofs.Sent.{sent_frame, word-lt}
use Rattle.c3794_frame.proofs.laws.sent_as_framed.Goals as goal

pub returns : goal.returns
returns c words f are frame = sent_frame words f (word-lt words f.odd are) frame
