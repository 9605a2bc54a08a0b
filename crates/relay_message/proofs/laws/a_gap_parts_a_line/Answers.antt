use Rattle.std.proofs.Common.{◌<◌, arith}
use Rattle.relay_message.proofs.Lines.{told-parts}
use Rattle.relay_message.proofs.laws.a_gap_parts_a_line.Goals as goal

pub returns : goal.returns
returns g c =
    let laws = g.met.L.Format in
    let some : 0 < g.L.Format.layout.size = omega (arith, laws.size_is, laws.size_fits.0) in
    told-parts g.L.Format.layout some
