use Rattle.std.proofs.Common.{◌*◌, ◌%◌, ◌^◌, bit_xor, arith, subst, sym}
use Rattle.message_check.specs.Check.{divisor}
use Rattle.message_check.specs.Polynomials.{IsRemainder}
use Rattle.message_check.proofs.Dividends.{IsRemainder-first_turn, IsRemainder-turn, IsRemainder-last_turn}
use Rattle.message_check.proofs.slow.after_byte.Goals as goal

pub loop-turn-init : goal.loop-turn-init
loop-turn-init c =
    let r = c.args.remainder in
    subst (λ b. IsRemainder 32 divisor (bit_xor r (c.args.byte * 2 ^ 24) * 2 ^ 0) (bit_xor r (b * 2 ^ 24 % 2 ^ 32)))
    (sym c.from.ensures) (IsRemainder-first_turn c.args.remainder c.args.byte (omega arith) (omega arith))

pub loop-turn-preserved : goal.loop-turn-preserved
loop-turn-preserved c =
    let next = c.times_x-remainder in
    IsRemainder-turn (bit_xor c.args.remainder (c.args.byte * 2 ^ 24)) c.loop-turn._turn c.loop-turn.remainder next.result c.loop-turn.invariant next.ensures

pub returns : goal.returns
returns c = IsRemainder-last_turn c.args.remainder c.args.byte c.loop-turn._turn c.loop-turn.remainder (omega arith) c.loop-turn.invariant
