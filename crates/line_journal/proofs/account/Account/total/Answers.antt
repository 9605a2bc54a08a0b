use Rattle.std.specs.Prelude.{slice_get}
use Rattle.std.proofs.Common.{◌≡◌, ◌-◌, ◌∙◌, ap, arith, length}
use Rattle.std.proofs.lemmas.Option.{slice_get-get_or}
use Rattle.line_journal.proofs.account.Account.total.Goals as goal

pub returns : goal.returns
returns c =
    let long : length c.self.inside.totals ≡ 3 = c.self.invariant.totals in
    let at : c.args.station - 1 ≡ c.from.result - 1 = omega (arith, c.from.ensures, c.get.ensures.number) in
    rw (← c.self.view_is)
    (ap (slice_get c.self.inside.totals) at
    ∙ slice_get-get_or c.self.inside.totals (c.from.result - 1) _ (omega (arith, long, c.from.ensures, c.get.ensures.in_range)))
