use Rattle.std.proofs.Common.{FitsSigned, w64, ap, sym, ◌∙◌, arith, rules}
use Rattle.std.proofs.lemmas.Int.{to_z-of_z}
use Rattle.resample.specs.Between.{sample_number}
use Rattle.resample.proofs.OwnNumbers.{IsBetween-own_number, sample_number-read, sample_number-some}
use Rattle.resample.proofs.between.own_sample.Goals as goal

pub returns-clause-number : goal.returns-clause-number
returns-clause-number c =
    let estimate2 = to_z-of_z w64 c.args.estimate2 c.ranges.estimate2 in
    let fits : FitsSigned w64 c.own_number.result = search rules in
    let number = to_z-of_z w64 c.own_number.result fits ∙ rw estimate2 at c.own_number.ensures.number in
    c.ok.ensures.value ∙ sample_number-read _ c.try_from.result c.try_from.ensures ∙ ap sample_number number

pub returns-clause-between : goal.returns-clause-between
returns-clause-between c = λ n is.
    let number = sample_number-some _ n (sym (returns-clause-number c) ∙ is) in
    rw (← number) (IsBetween-own_number c.args.spacing c.args.first c.args.estimate2 (omega arith))
