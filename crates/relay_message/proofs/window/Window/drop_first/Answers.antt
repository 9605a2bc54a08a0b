use Rattle.std.proofs.Common.{◌≡◌, ◌-◌, length, arith, length-drop}
use Rattle.relay_message.proofs.window.Window.drop_first.Goals as goal

pub overflow_add-self : goal.overflow_add-self
overflow_add-self c =
    let inside = c.self.inside in
    let long : length c.args.self.now ≡ length inside.bytes.items - inside.first = rw (← c.self.view_is) (length-drop inside.first inside.bytes.items) in
    omega (arith, long, c.requires, c.self.invariant.0, c.self.invariant.1)
