use Rattle.std.proofs.Common.{◌≡◌, ◌*◌, ◌/◌, arith, ap, ◌∙◌}
use Rattle.c3794_frame.specs.Numbers.{number}
use Rattle.bit_sync.specs.Step.{some_bits}
use Rattle.bit_sync.proofs.receiver.next_bits.Goals as goal

pub returns-then-most-ge32-clause-number : goal.returns-then-most-ge32-clause-number
returns-then-most-ge32-clause-number c =
    let from : c.from.result ≡ c.args.at / 8 = c.from.ensures in
    let whole : 8 * c.from.result ≡ c.args.at = omega arith in
    c.four_bytes.ensures ∙ ap (λ at. number (some_bits c.args.bytes.now at 32)) whole
