use Rattle.std.proofs.Common.{◌≡◌, ◌∙◌, ap}
use Rattle.c3794_frame.specs.FrameOf.{frame_bits}
use Rattle.c3794_frame.specs.Numbers.{bits_of}
use Rattle.c3794_frame.proofs.Filled.{frame-whole}
use Rattle.c3794_frame.proofs.Sent.{sent_frame, word-lt}
use Rattle.c3794_frame.proofs.encoding.encode.Goals as goal

pub returns-clause-bits : goal.returns-clause-bits
returns-clause-bits c =
    c.encode_into.ensures.bits
    ∙ ap (frame_bits c.args.words.now)
    (frame-whole c.args.f.now _ _ _ _ c.channels.ensures.fits c.odd.ensures c.yellow.ensures (c.from.ensures ∙ c.channels.ensures.channels) c.payload-payload.ensures.payload)

pub returns-clause-frame : goal.returns-clause-frame
returns-clause-frame c =
    let f = c.args.f.now in
    let same : bits_of c.encode_into.new.bits ≡ frame_bits c.args.words.now f = returns-clause-bits c in
    rw same (sent_frame c.args.words.now f (word-lt c.args.words.now f.odd c.encode_into.ensures.words) c.channels.ensures.fits)
