-- The words and the bytes after them are all bytes, and the end takes the complement back.
use Rattle.std.proofs.Common.{◌≡◌, ◌/◌, ◌++◌, [], length, arith, ap, ◌∙◌, subst}
use Rattle.std.specs.List.{concat}
use Rattle.std.specs.Simd.{first_chunks}
use Rattle.message_check.specs.Check.{divisor, ones, dividend}
use Rattle.message_check.specs.Polynomials.{IsRemainder}
use Rattle.message_check.proofs.Checks.{check_of-remainder}
use Rattle.message_check.proofs.Dividends.{IsCheck-not}
use Rattle.message_check.proofs.Division.{IsRemainder-low}
use Rattle.message_check.proofs.Words.{words-joined}
use Rattle.message_check.proofs.fast.check_fast.Goals as goal

pub returns : goal.returns
returns c =
    let bytes = c.args.bytes.now in
    let words = c.as_chunks.result.0.now in
    let rest = c.as_chunks.result.1.now in
    let count = length bytes / 4 in
    let r = c.after_bytes.result in
    let whole : concat words ++ rest ≡ bytes = ap (λ xs. concat xs ++ rest) c.as_chunks.ensures.front
    ∙ ap (λ xs. concat (first_chunks 4 count bytes) ++ xs) c.as_chunks.ensures.back ∙ words-joined 4 count bytes in
    let all : IsRemainder 32 divisor (dividend bytes) r = subst (λ xs. IsRemainder 32 divisor (dividend xs) r) whole
    (c.after_bytes.ensures (concat words) (c.after_words.ensures [] (IsRemainder-low 32 divisor ones (omega arith)))) in
    record {
      remainder = IsCheck-not bytes r all;
      value = check_of-remainder bytes r (λ i. omega (arith, c.type_inv.bytes i)) all;
    }
