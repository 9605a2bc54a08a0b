use Rattle.script_wire.proofs.FrameBits.{flipped_line, flipped_past}
use Rattle.script_wire.proofs.chunks.flip.Goals as goal

pub returns-then-bit-lt-FRAME_BITS : goal.returns-then-bit-lt-FRAME_BITS
returns-then-bit-lt-FRAME_BITS c = rw c.from.ensures (flipped_line c.args.bytes.now c.args.bit c.if-bit-lt-FRAME_BITS.true c.told-bytes)

pub returns-else-bit-lt-FRAME_BITS : goal.returns-else-bit-lt-FRAME_BITS
returns-else-bit-lt-FRAME_BITS c = flipped_past c.args.bytes.now c.args.bit _ c.if-bit-lt-FRAME_BITS.false
