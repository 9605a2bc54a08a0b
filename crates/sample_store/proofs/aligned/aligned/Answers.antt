use Rattle.std.specs.Prelude.{pos, ◌*ℤ◌}
use Rattle.std.proofs.Common.{FitsSigned, w64, to_z, of_z, ◌∙◌, arith, rules}
use Rattle.std.proofs.lemmas.Int.{ints, to_z-of_z}
use Rattle.sample_store.proofs.Alone.{Aligned-read}
use Rattle.sample_store.proofs.aligned.aligned.Goals as goal

pub returns : goal.returns
returns c =
    let fits : FitsSigned w64 c.div_euclid.result = search rules in
    to_z-of_z w64 c.div_euclid.result fits
    ∙ Aligned-read c.args.spacing c.args.number c.args.estimate2 (to_z w64 (of_z w64 c.raised-over.result))
    (to_z w64 (of_z w64 (pos 2 *ℤ to_z w64 (of_z w64 c.from.result)))) c.div_euclid.result c.div_euclid.ensures (omega (arith, ints)) (omega (arith, ints))
