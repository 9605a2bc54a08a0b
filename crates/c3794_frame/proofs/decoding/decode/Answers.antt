use Rattle.std.proofs.Common.{ap, sym, ◌∙◌}
use Rattle.c3794_frame.specs.Numbers.{bits_of}
use Rattle.c3794_frame.specs.Reading.{read_frame}
use Rattle.c3794_frame.proofs.Decoded.{framed}
use Rattle.c3794_frame.proofs.Readings.{frame_read}
use Rattle.c3794_frame.proofs.decoding.decode.Goals as goal

pub returns-clause-frame : goal.returns-clause-frame
returns-clause-frame c = framed _ _ _ _ c.requires.0 c.requires.1 c.read.ensures.long c.read.ensures.reading

pub returns-clause-exact : goal.returns-clause-exact
returns-clause-exact c f frame of same =
    let read = ap (λ n. read_frame c.args.words.now n (bits_of c.args.bits.now)) (sym same) in
    c.read.ensures.reading ∙ read ∙ frame_read c.args.words.now f _ c.read.ensures.words frame of
