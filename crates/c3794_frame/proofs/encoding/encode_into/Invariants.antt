use Rattle.std.specs.Prelude.{length}
use Rattle.c3794_frame.specs.Frame.{filled}
use Rattle.c3794_frame.proofs.Encoded.{IsEncodedTo}
use Rattle.c3794_frame.proofs.encoding.encode_into.Given as goal

abbrev pub invariant-loop-k : goal.invariant-loop-k
invariant-loop-k l =
    IsEncodedTo l.k l.words (record { odd = l.odd; channels = length l.bytes; yellow = l.yellow; payload = filled l.bytes }) (filled l.bytes) l.bits
