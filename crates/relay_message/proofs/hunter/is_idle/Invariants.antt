use Rattle.std.proofs.Common.{take}
use Rattle.relay_message.proofs.Hunting.{Idle}
use Rattle.relay_message.proofs.hunter.is_idle.Given as goal

-- no message begins in the bytes so far
abbrev pub invariant-loop-byte : goal.invariant-loop-byte
invariant-loop-byte g l = Idle g.L.Format.layout (take l.byte-index l.bytes)
