use Rattle.std.proofs.Common.{FitsSigned, w64, to_z, of_z, ap, sym, ◌∙◌, rules}
use Rattle.std.proofs.lemmas.Int.{to_z-of_z}
use Rattle.sample_store.specs.Aligned.{Aligned}
use Rattle.sample_store.proofs.Placings.{Ahead-is, Double-is, Stored-is}
use Rattle.sample_store.proofs.store.place_number.Goals as goal

pub returns-then-place-now : goal.returns-then-place-now
returns-then-place-now c =
    let fits : FitsSigned w64 c.aligned-n.result = search rules in
    let of_estimate : FitsSigned w64 c.estimate2.result = search rules in
    let is = to_z-of_z w64 c.aligned-n.result fits ∙ c.aligned-n.ensures
    ∙ ap (Aligned c.args.spacing c.args.number) (to_z-of_z w64 c.estimate2.result of_estimate ∙ c.estimate2.ensures.estimate) in
    Ahead-is c.args.spacing c.args.limit c.args.fresh.now.at c.args.ring.now (to_z w64 (of_z w64 c.aligned-n.result)) _ is (search rules) (search rules) (search rules)

pub returns-in-Some : goal.returns-in-Some
returns-in-Some c =
    let fits : FitsSigned w64 c.aligned-n.result = search rules in
    let of_estimate : FitsSigned w64 c.estimate2.result = search rules in
    let is = to_z-of_z w64 c.aligned-n.result fits ∙ c.aligned-n.ensures
    ∙ ap (Aligned c.args.spacing c.args.number) (to_z-of_z w64 c.estimate2.result of_estimate ∙ c.estimate2.ensures.estimate) in
    Double-is c.args.spacing c.args.limit c.args.fresh.now.at c.args.ring.now (to_z w64 (of_z w64 c.aligned-n.result)) _ c.in-Some.field-0 is
    (search rules) (search rules) (search rules) (sym c.held.ensures ∙ c.in-Some.is)

pub returns-in-None : goal.returns-in-None
returns-in-None c =
    let fits : FitsSigned w64 c.aligned-n.result = search rules in
    let of_estimate : FitsSigned w64 c.estimate2.result = search rules in
    let is = to_z-of_z w64 c.aligned-n.result fits ∙ c.aligned-n.ensures
    ∙ ap (Aligned c.args.spacing c.args.number) (to_z-of_z w64 c.estimate2.result of_estimate ∙ c.estimate2.ensures.estimate) in
    Stored-is c.args.spacing c.args.limit c.args.fresh.now.at c.args.ring.now (to_z w64 (of_z w64 c.aligned-n.result)) _ is
    (search rules) (search rules) (search rules) (sym c.held.ensures ∙ c.in-None.is)
