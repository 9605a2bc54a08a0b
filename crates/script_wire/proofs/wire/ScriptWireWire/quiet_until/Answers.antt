use Rattle.std.proofs.Common.{◌≡◌, ◌≤◌, ℕ, subst, sym, rules}
use Rattle.ld_base.specs.Script.{next_tick}
use Rattle.script_wire.proofs.NextTicks.{not_before}
use Rattle.script_wire.proofs.wire.ScriptWireWire.quiet_until.Goals as goal

pub returns-clause-later : goal.returns-clause-later
returns-clause-later c =
    let next : c.unwrap_or.result ≡ next_tick c.args.self.now.script c.args.at = search rules in
    subst (λ (tick : ℕ). c.args.at ≤ tick) (sym next) (not_before c.args.self.now.script c.args.at)
