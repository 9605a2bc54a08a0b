-- Four bytes as one word.
use Rattle.std.proofs.Common.{◌≡◌, ℕ, zero, suc, ◌+◌, ◌*◌, ◌^◌, List, [], ◌∷◌, ◌++◌, length, take, drop, bit_xor, w32, arith, sym, ap, ◌∙◌, subst}
use Rattle.std.specs.Int.{from_be_bytes}
use Rattle.std.specs.List.{concat}
use Rattle.std.specs.Simd.{first_chunks}
use Rattle.std.proofs.lemmas.List.{append_assoc, take-append-drop, drop-drop}
use Rattle.message_check.specs.Check.{divisor, polynomial}
use Rattle.message_check.specs.Polynomials.{IsRemainder}
use Rattle.message_check.proofs.Xor.{xor_shift}
use Rattle.message_check.proofs.Division.{IsRemainder-shift}

-- the words and the bytes that are left over are all bytes
pub words-joined : (n k : ℕ) (bytes : List ℕ) → concat (first_chunks n k bytes) ++ drop (k * n) bytes ≡ bytes
words-joined n zero bytes =
    let none : 0 * n ≡ 0 = omega arith in
    ap (λ j. drop j bytes) none
words-joined n (suc k) bytes =
    let front = take n bytes in
    let others = drop n bytes in
    let places : suc k * n ≡ n + k * n = omega arith in
    let left : drop (suc k * n) bytes ≡ drop (k * n) others = ap (λ j. drop j bytes) places ∙ sym (drop-drop (k * n) n bytes) in
    append_assoc front (concat (first_chunks n k others)) (drop (suc k * n) bytes)
    ∙ ap (λ rest. front ++ (concat (first_chunks n k others) ++ rest)) left
    ∙ ap (λ rest. front ++ rest) (words-joined n k others)
    ∙ take-append-drop n bytes

-- a word, its highest byte first, is the polynomial of its bytes
pub polynomial-word : (word : List ℕ) → length word ≡ 4 → from_be_bytes w32 word ≡ polynomial word
polynomial-word (a ∷ b ∷ c ∷ d ∷ []) four = omega arith
polynomial-word [] four = absurd (omega arith)
polynomial-word (a ∷ []) four = absurd (omega arith)
polynomial-word (a ∷ b ∷ []) four = absurd (omega arith)
polynomial-word (a ∷ b ∷ c ∷ []) four = absurd (omega arith)
polynomial-word (a ∷ b ∷ c ∷ d ∷ e ∷ more) four = absurd (omega arith)

-- a word added to a remainder, and x^8 four times
pub IsRemainder-word : (r word first second third s : ℕ) → IsRemainder 32 divisor (bit_xor r word * 2 ^ 8) first
    → IsRemainder 32 divisor (first * 2 ^ 8) second → IsRemainder 32 divisor (second * 2 ^ 8) third
    → IsRemainder 32 divisor (third * 2 ^ 8) s → IsRemainder 32 divisor (bit_xor (r * 2 ^ 32) (word * 2 ^ 32)) s
IsRemainder-word r word first second third s p q t u =
    let a = bit_xor r word in
    let two = IsRemainder-shift 32 divisor (a * 2 ^ 8) first 8 second p q in
    let three = IsRemainder-shift 32 divisor (a * 2 ^ 8 * 2 ^ 8) second 8 third two t in
    let four = IsRemainder-shift 32 divisor (a * 2 ^ 8 * 2 ^ 8 * 2 ^ 8) third 8 s three u in
    let powers : a * 2 ^ 8 * 2 ^ 8 * 2 ^ 8 * 2 ^ 8 ≡ a * 2 ^ 32 = omega arith in
    subst (λ x. IsRemainder 32 divisor x s) (powers ∙ sym (xor_shift r word 32)) four
