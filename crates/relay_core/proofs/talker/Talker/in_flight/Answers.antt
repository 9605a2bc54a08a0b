use Rattle.std.proofs.Common.{◌<◌, arith, length}
use Rattle.relay_core.proofs.Begins.{Begins-busy}
use Rattle.relay_core.proofs.talker.Talker.in_flight.Goals as goal

pub returns : goal.returns
returns c = λ f slots ready talks is.
    let busy : 0 < length c.args.self.now.outlet.left = grind arith in
    Begins-busy f c.args.self.now slots ready talks busy
