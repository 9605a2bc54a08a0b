use Rattle.std.proofs.Common.{subst}
use Rattle.ld_base.specs.Settings.{AreInRange}
use Rattle.relay_core.specs.Decided.{Offers}
use Rattle.relay_core.specs.StandsFor.{kept_of}
use Rattle.relay_core.proofs.terminal.Terminal.last_set.Goals as goal

pub returns : goal.returns
returns c = λ calls stands.
    let t = kept_of c.self.inside in
    let held = rw (← c.self.view_is) at stands in
    rw (← c.self.view_is) (c.last.ensures t.settings t.me (Offers t.settings t.me calls) (subst AreInRange c.fields.ensures.same c.fields.ensures.in_range).count.0 held.decides)
