use Rattle.std.proofs.Common.{◌<◌, arith}
use Rattle.relay_message.proofs.Places.{told-other}
use Rattle.relay_message.proofs.laws.an_idle_byte_tells_nothing.Goals as goal

pub returns : goal.returns
returns g c = λ byte line other.
    let laws = g.met.L.Format in
    let some : 0 < g.L.Format.layout.size = omega (arith, laws.size_is, laws.size_fits.0) in
    told-other g.L.Format.layout byte line some (λ bytes. laws.begins byte bytes other)
