use Rattle.std.proofs.Common.{◌≡◌, ◌≤◌, ◌<◌, ◌∙◌, arith, decimal, length, length-append}
use Rattle.std.proofs.lemmas.Fmt.{length-decimal-le}
use Rattle.text_lines.proofs.text_line.TextLine.put_station.Goals as goal

pub returns-clause-few : goal.returns-clause-few
returns-clause-few c =
    let number : c.from.result ≡ c.args.station = c.from.ensures ∙ c.get.ensures.number in
    let small : c.from.result < 10 = omega arith in
    let digit : length (decimal c.from.result) ≤ 1 = length-decimal-le 1 c.from.result (omega arith) (omega arith) (omega arith) in
    rw c.put_field.ensures.number (omega (arith, digit, length-append (decimal c.from.result) c.args.self.now))
