-- Which damage a check sees.
use Rattle.std.proofs.Common.{◌≡◌, ◌≢◌, ℕ, ◌*◌, ◌^◌, ◌<◌, ◌≤◌, List, ◌++◌, length, append_assoc, bit_xor, arith, sym, refl, ap, ◌∙◌, subst}
use Rattle.std.specs.Int.{bytes_high_first}
use Rattle.std.proofs.lemmas.List.{length-append}
use Rattle.std.proofs.lemmas.Nat.{xor_lt}
use Rattle.std.proofs.Math.Pow.{pow_mono}
use Rattle.message_check.specs.Check.{divisor, ones, polynomial, dividend, AreBytes, EndsInCheck, IsCheck}
use Rattle.message_check.specs.Polynomials.{IsMultiple}
use Rattle.message_check.proofs.Xor.{xor_swap, xor_same_left, xor_same_right, xor_shift, same_from_xor}
use Rattle.message_check.proofs.BytePolynomials.{polynomial-lt, polynomial-same, polynomial-append}
use Rattle.message_check.proofs.Checks.{IsCheck-lt}
use Rattle.message_check.proofs.Division.{IsMultiple-add}
use Rattle.message_check.proofs.Halving.{IsMultiple-small, IsMultiple-unshift}

-- how two messages differ: the same bytes in front
xor-front : (front xs ys : List ℕ) → AreBytes xs → AreBytes ys → length xs ≡ length ys
    → bit_xor (polynomial (front ++ xs)) (polynomial (front ++ ys)) ≡ bit_xor (polynomial xs) (polynomial ys)
xor-front front xs ys h k l =
    let f = polynomial front in
    ap (λ x. bit_xor x (polynomial (front ++ ys))) (polynomial-append front xs h ∙ ap (λ n. bit_xor (f * 2 ^ (8 * n)) (polynomial xs)) l)
    ∙ ap (bit_xor (bit_xor (f * 2 ^ (8 * length ys)) (polynomial xs))) (polynomial-append front ys k)
    ∙ xor_same_left (f * 2 ^ (8 * length ys)) (polynomial xs) (polynomial ys)

-- the same bytes at the back
xor-back : (xs ys back : List ℕ) → AreBytes back
    → bit_xor (polynomial (xs ++ back)) (polynomial (ys ++ back)) ≡ bit_xor (polynomial xs) (polynomial ys) * 2 ^ (8 * length back)
xor-back xs ys back h =
    let power = 2 ^ (8 * length back) in
    ap (λ x. bit_xor x (polynomial (ys ++ back))) (polynomial-append xs back h)
    ∙ ap (bit_xor (bit_xor (polynomial xs * power) (polynomial back))) (polynomial-append ys back h)
    ∙ xor_same_right (polynomial xs * power) (polynomial ys * power) (polynomial back)
    ∙ xor_shift (polynomial xs) (polynomial ys) (8 * length back)

-- and what is divided
xor-dividend : (xs ys : List ℕ) → length xs ≡ length ys → bit_xor (dividend xs) (dividend ys) ≡ bit_xor (polynomial xs) (polynomial ys) * 2 ^ 32
xor-dividend xs ys l =
    ap (λ n. bit_xor (bit_xor (polynomial xs * 2 ^ 32) (ones * 2 ^ (8 * n))) (dividend ys)) l
    ∙ xor_same_right (polynomial xs * 2 ^ 32) (polynomial ys * 2 ^ 32) (ones * 2 ^ (8 * length ys))
    ∙ xor_shift (polynomial xs) (polynomial ys) 32

-- messages of one length with one check differ by a multiple of the divisor
IsCheck-same : (xs ys : List ℕ) (check : ℕ) → length xs ≡ length ys → IsCheck xs check → IsCheck ys check
    → IsMultiple divisor (bit_xor (polynomial xs) (polynomial ys))
IsCheck-same xs ys check l p q = IsMultiple-unshift divisor (bit_xor (polynomial xs) (polynomial ys)) 32 refl
    (subst (IsMultiple divisor) (xor_same_right (dividend xs) (dividend ys) (bit_xor check ones) ∙ xor-dividend xs ys l)
    (IsMultiple-add divisor (bit_xor (dividend xs) (bit_xor check ones)) (bit_xor (dividend ys) (bit_xor check ones)) p.multiple q.multiple))

-- what two lists differ by that differ only within four consecutive bytes is no multiple, unless they are the same
no-damage : (front damaged sent back : List ℕ) → AreBytes damaged → AreBytes sent → AreBytes back → length damaged ≡ length sent → length sent ≤ 4
    → IsMultiple divisor (bit_xor (polynomial ((front ++ sent) ++ back)) (polynomial ((front ++ damaged) ++ back))) → damaged ≡ sent
no-damage front damaged sent back h k b l four p =
    let difference = bit_xor (polynomial sent) (polynomial damaged) in
    let multiple : IsMultiple divisor difference = IsMultiple-unshift divisor difference (8 * length back) refl (subst (IsMultiple divisor)
    (xor-back (front ++ sent) (front ++ damaged) back b ∙ ap (λ x. x * 2 ^ (8 * length back)) (xor-front front sent damaged k h (sym l)))
    p) in
    let width : 8 * length sent ≤ 32 = omega arith in
    let wide : 2 ^ (8 * length sent) ≤ 2 ^ 32 = pow_mono {i = 8 * length sent} {j = 32} width in
    let small : difference < 2 ^ 32 =
    let in_damaged = subst (λ n. polynomial damaged < 2 ^ (8 * n)) l (polynomial-lt damaged h) in
    xor_lt 32 (polynomial sent) (polynomial damaged) (omega (arith, polynomial-lt sent k)) (omega arith) in
    let none : difference ≡ 0 = IsMultiple-small 32 divisor difference (omega arith) (omega arith) small multiple in
    polynomial-same damaged sent h k l (sym (same_from_xor (polynomial sent) (polynomial damaged) none))

-- two lists of bytes of one length that differ, and only within four consecutive bytes, have different checks
pub damage-seen : (front damaged sent back : List ℕ) (check other : ℕ) → AreBytes damaged → AreBytes sent → AreBytes back
    → length damaged ≡ length sent → length sent ≤ 4 → damaged ≢ sent
    → IsCheck (front ++ (sent ++ back)) check → IsCheck (front ++ (damaged ++ back)) other → check ≢ other
damage-seen front damaged sent back check other h k b l four differ p q same =
    let lengths : length ((front ++ sent) ++ back) ≡ length ((front ++ damaged) ++ back) = omega (arith, length-append {A = ℕ}) in
    let from_sent : IsCheck ((front ++ sent) ++ back) check = subst (λ bytes. IsCheck bytes check) (sym (append_assoc front sent back)) p in
    let from_damaged : IsCheck ((front ++ damaged) ++ back) check = subst (λ bytes. IsCheck bytes check) (sym (append_assoc front damaged back))
    (subst (IsCheck (front ++ (damaged ++ back))) (sym same) q) in
    differ (no-damage front damaged sent back h k b l four (IsCheck-same ((front ++ sent) ++ back) ((front ++ damaged) ++ back) check lengths from_sent from_damaged))

-- four bytes are their number
four-bytes : (n : ℕ) → n < 2 ^ 32 → polynomial (bytes_high_first 4 n) ≡ n
four-bytes n h = omega arith

are-four : (n : ℕ) → AreBytes (bytes_high_first 4 n)
are-four n = (omega arith, (omega arith, (omega arith, (omega arith, tt))))

-- bytes that end in their check are a multiple, but for what their length makes of the start and the end
EndsInCheck-multiple : (bytes : List ℕ) → (h : EndsInCheck bytes)
    → IsMultiple divisor (bit_xor (polynomial bytes) (bit_xor (ones * 2 ^ (8 * length h.front)) ones))
EndsInCheck-multiple bytes h =
    let high = polynomial h.front * 2 ^ 32 in
    let start = ones * 2 ^ (8 * length h.front) in
    let parts : polynomial bytes ≡ bit_xor high h.check =
    ap polynomial h.is
    ∙ polynomial-append h.front (bytes_high_first 4 h.check) (are-four h.check)
    ∙ ap (bit_xor high) (four-bytes h.check (IsCheck-lt h.front h.check h.checked)) in
    subst (IsMultiple divisor)
    (xor_swap high start h.check ones ∙ ap (λ x. bit_xor x (bit_xor start ones)) (sym parts))
    h.checked.multiple

-- two such lists of one length that differ only within four consecutive bytes are the same
pub damage-of-checked : (front damaged sent back : List ℕ) → AreBytes damaged → AreBytes sent → AreBytes back → length damaged ≡ length sent → length sent ≤ 4
    → EndsInCheck (front ++ (sent ++ back)) → EndsInCheck (front ++ (damaged ++ back)) → damaged ≡ sent
damage-of-checked front damaged sent back h k b l four p q =
    let lengths : length p.front ≡ length q.front =
    omega (arith, length-append {A = ℕ}, ap length p.is, ap length q.is) in
    let xs = front ++ (sent ++ back) in
    let ys = front ++ (damaged ++ back) in
    let rest = λ (n : ℕ). bit_xor (ones * 2 ^ (8 * n)) ones in
    let from_damaged = subst (λ n. IsMultiple divisor (bit_xor (polynomial ys) (rest n))) (sym lengths) (EndsInCheck-multiple ys q) in
    let both : IsMultiple divisor (bit_xor (polynomial xs) (polynomial ys)) =
    subst (IsMultiple divisor) (xor_same_right (polynomial xs) (polynomial ys) (rest (length p.front)))
    (IsMultiple-add divisor _ _ (EndsInCheck-multiple xs p) from_damaged) in
    no-damage front damaged sent back h k b l four
    (subst (λ bytes. IsMultiple divisor (bit_xor (polynomial bytes) (polynomial ((front ++ damaged) ++ back)))) (sym (append_assoc front sent back))
    (subst (λ bytes. IsMultiple divisor (bit_xor (polynomial xs) (polynomial bytes))) (sym (append_assoc front damaged back)) both))
