use Rattle.std.proofs.Common.{arith}
use Rattle.relay_message.proofs.Places.{told-ends}
use Rattle.relay_message.proofs.laws.fewer_bytes_tell_nothing.Goals as goal

pub returns : goal.returns
returns g c = λ bytes few. told-ends g.L.Format.layout bytes (omega (arith, g.met.L.Format.size_is, few))
