-- The word is added to the remainder, and the sum is taken times x^8 four times.
use Rattle.std.proofs.Common.{◌≡◌, ◌*◌, ◌^◌, length, bit_xor, arith, ◌∙◌, subst}
use Rattle.message_check.specs.Check.{divisor, polynomial}
use Rattle.message_check.specs.Polynomials.{IsRemainder}
use Rattle.message_check.proofs.Checks.{AreBytes-by_place}
use Rattle.message_check.proofs.Dividends.{IsRemainder-append}
use Rattle.message_check.proofs.Words.{IsRemainder-word, polynomial-word}
use Rattle.message_check.proofs.fast.after_word.Goals as goal

pub returns : goal.returns
returns c front before =
    let r = c.args.remainder in
    let word = c.args.word.now in
    let s = c.times_x_8.result in
    let bits : 32 ≡ 8 * length word = omega (arith, c.told-word) in
    let more = IsRemainder-word r c.from_be_bytes.result c.times_x_8-first.result c.times_x_8-second.result c.times_x_8-third.result s
    c.times_x_8-first.ensures c.times_x_8-second.ensures c.times_x_8-third.ensures c.times_x_8.ensures in
    IsRemainder-append front word r s (AreBytes-by_place word (λ i. omega (arith, c.fits-word i))) before
    (subst (λ k. IsRemainder 32 divisor (bit_xor (r * 2 ^ k) (polynomial word * 2 ^ 32)) s) bits
    (subst (λ n. IsRemainder 32 divisor (bit_xor (r * 2 ^ 32) (n * 2 ^ 32)) s) (c.from_be_bytes.ensures ∙ polynomial-word word c.told-word) more))
