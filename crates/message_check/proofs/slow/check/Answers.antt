use Rattle.std.proofs.Common.{take, get_or, arith, subst, sym}
use Rattle.std.proofs.lemmas.List.{take_more, take_all}
use Rattle.message_check.specs.Check.{divisor, ones, dividend}
use Rattle.message_check.specs.Polynomials.{IsRemainder}
use Rattle.message_check.proofs.Division.{IsRemainder-low}
use Rattle.message_check.proofs.Checks.{check_of-remainder}
use Rattle.message_check.proofs.Dividends.{IsRemainder-push, IsCheck-not}
use Rattle.message_check.proofs.slow.check.Goals as goal

pub loop-byte-init : goal.loop-byte-init
loop-byte-init c = IsRemainder-low 32 divisor ones (omega arith)

pub loop-byte-preserved : goal.loop-byte-preserved
loop-byte-preserved c =
    let bytes = c.args.bytes.now in
    let i = c.loop-byte.byte-index in
    let next = c.after_byte-remainder.result in
    subst (λ xs. IsRemainder 32 divisor (dividend xs) next) (sym (take_more bytes i 0 c.loop-byte-test.true))
    (IsRemainder-push (take i bytes) (get_or bytes i 0) c.loop-byte.remainder next (omega (arith, c.type_inv.bytes i)) c.loop-byte.invariant c.after_byte-remainder.ensures)

pub returns : goal.returns
returns c =
    let bytes = c.args.bytes.now in
    let r = c.loop-byte.remainder in
    let whole = take_all c.loop-byte.byte-index bytes c.loop-byte-test.false in
    let all : IsRemainder 32 divisor (dividend bytes) r = subst (λ xs. IsRemainder 32 divisor (dividend xs) r) whole c.loop-byte.invariant in
    record {
      remainder = IsCheck-not bytes r all;
      value = check_of-remainder bytes r (λ i. omega (arith, c.type_inv.bytes i)) all;
    }
