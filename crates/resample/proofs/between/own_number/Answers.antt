use Rattle.std.proofs.Common.{◌≡◌, w64, to_z, of_z, arith, rules}
use Rattle.resample.specs.Between.{own_number}
use Rattle.resample.proofs.OwnNumbers.{IsBetween-own_number}
use Rattle.resample.proofs.between.own_number.Goals as goal

pub returns-clause-between : goal.returns-clause-between
returns-clause-between c =
    let is : to_z w64 (of_z w64 c.div_euclid.result) ≡ own_number c.args.spacing c.args.first c.args.estimate2 = search rules in
    rw is (IsBetween-own_number c.args.spacing c.args.first c.args.estimate2 (omega arith))
