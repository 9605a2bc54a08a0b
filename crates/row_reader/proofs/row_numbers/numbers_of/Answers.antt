use Rattle.std.proofs.Common.{rules, ◌≡◌, ◌∙◌, Some, w64, FitsSigned}
use Rattle.std.specs.Prelude.{option_and_then}
use Rattle.std.proofs.lemmas.Int.{to_z-of_z}
use Rattle.csv.specs.Records.{field_at, fields_of}
use Rattle.row_reader.specs.Numbers.{number}
use Rattle.row_reader.proofs.RowNumberFacts.{numbers_more}
use Rattle.row_reader.proofs.row_numbers.numbers_of.Goals as goal

pub loop-place-preserved : goal.loop-place-preserved
loop-place-preserved g c =
    let fields = fields_of c.args.row.now in
    let here : option_and_then number (field_at fields c.loop-place.place) ≡ Some c.in_ok-number.field-0
    = rw (← c.get.ensures.value) (search rules) in
    let fits : FitsSigned w64 c.in_ok-number.field-0 = search rules in
    record {
      all = c.loop-place.invariant.all ∙ rw (c.push.ensures.items, to_z-of_z _ _ fits) (numbers_more fields _ _ _ here);
      count = search rules;
    }
