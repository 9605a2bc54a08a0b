use Rattle.std.proofs.Common.{◌≡◌, FitsSigned, w64, to_z, of_z, ap, refl, sym, ◌∙◌, rules}
use Rattle.std.proofs.lemmas.Int.{to_z-of_z}
use Rattle.pingpong.specs.Exchange.{estimate2}
use Rattle.resample.proofs.mixer.mixed_by.Goals as goal

pub returns : goal.returns
returns c =
    let first : c.earlier.inside.number ≡ c.args.earlier.now.number = ap (λ m. m.number) c.earlier.view_is in
    let one : c.earlier.inside.phases ≡ c.args.earlier.now.phases = ap (λ m. m.phases) c.earlier.view_is in
    let other : c.m.inside.phases ≡ c.args.m.now.phases = ap (λ m. m.phases) c.m.view_is in
    let fits : FitsSigned w64 c.estimate2-estimate2.result = search rules in
    let estimate : to_z w64 (of_z w64 c.estimate2-estimate2.result) ≡ estimate2 c.args.fresh.now.exchange =
    to_z-of_z w64 c.estimate2-estimate2.result fits ∙ c.estimate2-estimate2.ensures.estimate in
    let sample = rw (first, estimate) at (sym c.own_sample.ensures.number ∙ c.in_ok-own.was) in
    let weight = rw (first, estimate) at c.weight-weight.ensures.weight in
    let values = rw (one, other, weight) at c.mixed_phases.ensures in
    rw (sample, values, c.exchange.ensures.exchange, weight, first) refl
