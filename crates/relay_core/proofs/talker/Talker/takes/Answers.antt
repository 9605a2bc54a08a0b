use Rattle.std.proofs.Common.{◌<◌, ◌≤◌, ◌∙◌, ap, arith, leb, length}
use Rattle.relay_core.proofs.Begins.{can_begin-busy, can_begin-idle}
use Rattle.relay_core.proofs.talker.Talker.takes.Goals as goal

pub returns-then-in_flight : goal.returns-then-in_flight
returns-then-in_flight c f slots talks =
    let busy : 0 < length c.args.self.now.outlet.left = grind arith in
    can_begin-busy f c.args.self.now slots c.args.number talks busy

pub returns : goal.returns
returns c f slots talks =
    let idle : length c.args.self.now.outlet.left ≤ 0 = grind arith in
    ap (leb c.args.self.now.next) c.from.ensures ∙ can_begin-idle f c.args.self.now slots c.args.number talks idle
