use Rattle.std.proofs.Common.{◌≡◌, ◌-◌, ◌∙◌, ap, arith, length, sym}
use Rattle.payload_map.proofs.Slots.{length-left}
use Rattle.payload_map.proofs.outlet.Outlet.in_flight.Goals as goal

pub returns : goal.returns
returns c =
    let o = c.self.inside in
    let left : length c.args.self.now.left ≡ 36 - o.sent = ap (λ s. length s.left) (sym c.self.view_is) ∙ length-left o.sent o.message (omega (arith, c.self.invariant)) in
    grind arith
