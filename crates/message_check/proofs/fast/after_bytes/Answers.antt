-- Each byte is added to the highest eight bits of the remainder, and the sum is taken times x^8.
use Rattle.std.proofs.Common.{◌≡◌, ◌+◌, ◌*◌, ◌%◌, ◌^◌, ◌++◌, ◌∷◌, [], get_or, take, bit_xor, arith, refl, sym, ap, ◌∙◌, subst}
use Rattle.std.proofs.lemmas.List.{append-nil, append_assoc, take_more, take_all}
use Rattle.message_check.specs.Check.{divisor, dividend}
use Rattle.message_check.specs.Polynomials.{IsRemainder}
use Rattle.message_check.proofs.Dividends.{IsRemainder-last_turn, IsRemainder-push}
use Rattle.message_check.proofs.fast.after_bytes.Goals as goal

pub loop-byte-init : goal.loop-byte-init
loop-byte-init c front before = subst (λ xs. IsRemainder 32 divisor (dividend xs) c.args.remainder) (sym (append-nil front)) before

pub loop-byte-preserved : goal.loop-byte-preserved
loop-byte-preserved c front before =
    let bytes = c.args.bytes.now in
    let i = c.loop-byte.byte-index in
    let r = c.loop-byte.remainder in
    let b = get_or bytes i 0 in
    let next = c.times_x_8-remainder.result in
    let fits = (c.type_inv.bytes i).fits in
    let added : c.from.result * 2 ^ 24 % 2 ^ 32 ≡ b * 2 ^ 24 = omega (arith, c.from.ensures, fits) in
    let turned : IsRemainder 32 divisor (bit_xor (r * 2 ^ 8) (b * 2 ^ 32)) next = IsRemainder-last_turn r b 8 next refl
    (subst (λ n. IsRemainder 32 divisor (bit_xor r n * 2 ^ 8) next) added c.times_x_8-remainder.ensures) in
    let longer : (front ++ take i bytes) ++ (b ∷ []) ≡ front ++ take (i + 1) bytes =
    append_assoc front (take i bytes) (b ∷ []) ∙ ap (λ xs. front ++ xs) (sym (take_more bytes i 0 c.loop-byte-test.true)) in
    subst (λ xs. IsRemainder 32 divisor (dividend xs) next) longer
    (IsRemainder-push (front ++ take i bytes) b r next fits (c.loop-byte.invariant front before) turned)

pub returns : goal.returns
returns c front before =
    let whole = take_all c.loop-byte.byte-index c.args.bytes.now c.loop-byte-test.false in
    subst (λ xs. IsRemainder 32 divisor (dividend (front ++ xs)) c.loop-byte.remainder) whole (c.loop-byte.invariant front before)
