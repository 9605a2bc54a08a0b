-- The words of a register.
use Rattle.std.proofs.Common.{◌≡◌, ℕ, ◌+◌, ◌-◌, ◌*◌, ◌/◌, ◌%◌, ◌^◌, ◌<◌, ◌≤◌, List, [], ◌++◌, length, drop, bit_or, arith, ap, lit<, sym, ◌∙◌}
use borrow.Rule.Slice.PartMut.{put_mid}
use Rattle.std.proofs.Math.Nat.{pow-le-pow_right}
use Rattle.std.proofs.lemmas.List.{append-nil, drop_at, take_at}
use Rattle.std.proofs.lemmas.Nat.{div-mul-add, mod-mul-add, or_shifted, pow-add, mod-pow-add, mod_below, pow_pos, shr_below, shr_split, shl_below, shl_whole}

-- a word with bits pushed in: what goes out, and what is left
pub word_pushed : (w word value count : ℕ) → count ≤ w → word < 2 ^ w → value < 2 ^ count
    → word * 2 ^ count + value ≡ word / 2 ^ (w - count) * 2 ^ w + bit_or (word * 2 ^ count % 2 ^ w) value
word_pushed w word value count few fits small =
    let place : ℕ = w - count in
    let p : ℕ = 2 ^ place in
    let q : ℕ = 2 ^ count in
    let a : ℕ = word / p in
    let b : ℕ = word % p in
    let whole : place + count ≡ w = omega arith in
    let product : 2 ^ w ≡ p * q = ap (λ k. 2 ^ k) (sym whole) ∙ pow-add 2 place count in
    let split : word ≡ a * p + b = sym (shr_split word place) in
    let shifted : word * q ≡ a * (p * q) + b * q = ap (λ x. x * q) split ∙ (omega arith) in
    let positive : 0 < p = pow_pos place in
    let below : b < p = mod_below word p positive in
    let low : b * q < p * q = rw pow-add at (shl_below b place count below) in
    let rest : word * q % 2 ^ w ≡ b * q = ap (λ m. word * q % m) product ∙ ap (λ x. x % (p * q)) shifted ∙ mod-mul-add a (p * q) (b * q) low in
    let joined : bit_or (word * q % 2 ^ w) value ≡ b * q + value = ap (λ x. bit_or x value) rest ∙ or_shifted b count value small in
    let high : a * 2 ^ w ≡ a * (p * q) = ap (λ m. a * m) product in
    omega (arith, shifted, joined, high)

-- what goes out has no more bits than came in
pub pushed_out : (w word count : ℕ) → count ≤ w → word < 2 ^ w → word / 2 ^ (w - count) < 2 ^ count
pushed_out w word count few fits = let whole : count + (w - count) ≡ w = omega arith in shr_below word count (w - count) (rw whole fits)

-- up to 32 bits are a word
pub fits_word : (count n : ℕ) → count ≤ 32 → n < 2 ^ count → n < 4294967296
fits_word count n few small = let more = pow-le-pow_right {n = 2} (lit< tt) {i = count} {j = 32} few in omega arith

-- three words with bits pushed in
pub all_pushed : (o m l n v c1 c2 m' l' p : ℕ) → m * n + c1 ≡ c2 * p + m' → l * n + v ≡ c1 * p + l'
    → (o * (p * p) + m * p + l) * n + v ≡ (o * n + c2) * (p * p) + (m' * p + l')
all_pushed o m l n v c1 c2 m' l' p middle newest = omega (arith, ap (λ x. x * p) middle)

-- a word of sixteen bits with bits pushed in
pub oldest_pushed : (o c count : ℕ) → o < 65536 → count ≤ 32 → c < 2 ^ count
    → bit_or (o * 2 ^ count % 18446744073709551616) c ≡ o * 2 ^ count + c
oldest_pushed o c count fits few small = ap (λ x. bit_or x c) (shl_whole o 16 count 64 fits (omega arith)) ∙ or_shifted o count c small

-- the register with bits pushed in, by its words
pub record IsPushed (self n v o m l c1 c2 m' l' : ℕ) : Type 0 where
  pub all : o * 2 ^ 256 + m * 2 ^ 128 + l ≡ self
  pub middle : m * n + c1 ≡ c2 * 2 ^ 128 + m'
  pub newest : l * n + v ≡ c1 * 2 ^ 128 + l'
  pub middle_fits : m' < 2 ^ 128
  pub newest_fits : l' < 2 ^ 128

-- its number
pushed_whole : (self n v o m l c1 c2 m' l' : ℕ) → IsPushed self n v o m l c1 c2 m' l'
    → self * n + v ≡ (o * n + c2) * 2 ^ 256 + (m' * 2 ^ 128 + l')
pushed_whole self n v o m l c1 c2 m' l' h = ap (λ x. x * n + v) (sym h.all) ∙ all_pushed o m l n v c1 c2 m' l' (2 ^ 128) h.middle h.newest

-- the newest words are below their power
pub newest_below : (m' l' : ℕ) → m' < 2 ^ 128 → l' < 2 ^ 128 → m' * 2 ^ 128 + l' < 2 ^ 256
newest_below m' l' middle newest = omega arith

-- what stands behind the newest 256 bits
pub pushed_oldest : (self n v o m l c1 c2 m' l' : ℕ) → IsPushed self n v o m l c1 c2 m' l' → (self * n + v) / 2 ^ 256 ≡ o * n + c2
pushed_oldest self n v o m l c1 c2 m' l' h =
    ap (λ x. x / 2 ^ 256) (pushed_whole self n v o m l c1 c2 m' l' h)
    ∙ div-mul-add (o * n + c2) (2 ^ 256) (m' * 2 ^ 128 + l') (newest_below m' l' h.middle_fits h.newest_fits)

-- the register
pub pushed_register : (self n v o m l c1 c2 m' l' : ℕ) → IsPushed self n v o m l c1 c2 m' l'
    → (o * n + c2) % 2 ^ 16 * 2 ^ 256 + m' * 2 ^ 128 + l' ≡ (self * n + v) % 2 ^ 272
pushed_register self n v o m l c1 c2 m' l' h =
    let whole : ℕ = self * n + v in
    let high : whole / 2 ^ 256 ≡ o * n + c2 = pushed_oldest self n v o m l c1 c2 m' l' h in
    let low : whole % 2 ^ 256 ≡ m' * 2 ^ 128 + l' =
    ap (λ x. x % 2 ^ 256) (pushed_whole self n v o m l c1 c2 m' l' h) ∙ mod-mul-add (o * n + c2) (2 ^ 256) (m' * 2 ^ 128 + l') (newest_below m' l' h.middle_fits h.newest_fits) in
    let parts : whole % 2 ^ 272 ≡ whole / 2 ^ 256 % 2 ^ 16 * 2 ^ 256 + whole % 2 ^ 256 = mod-pow-add whole 16 256 in
    let grouped : (o * n + c2) % 2 ^ 16 * 2 ^ 256 + m' * 2 ^ 128 + l' ≡ (o * n + c2) % 2 ^ 16 * 2 ^ 256 + (m' * 2 ^ 128 + l') = omega arith in
    grouped
    ∙ sym (parts ∙ ap (λ x. x % 2 ^ 16 * 2 ^ 256 + whole % 2 ^ 256) high ∙ ap (λ x. (o * n + c2) % 2 ^ 16 * 2 ^ 256 + x) low)

-- these words are so
pub pushed_by : (self n v o m l c1 c2 m' l' : ℕ) → o * 2 ^ 256 + m * 2 ^ 128 + l ≡ self → m * n + c1 ≡ c2 * 2 ^ 128 + m'
    → l * n + v ≡ c1 * 2 ^ 128 + l' → m' < 2 ^ 128 → l' < 2 ^ 128
    → IsPushed self n v o m l c1 c2 m' l'
pushed_by self n v o m l c1 c2 m' l' all middle newest middle_fits newest_fits = record { all = all; middle = middle; newest = newest; middle_fits = middle_fits; newest_fits = newest_fits }

-- two halves written into 32 bytes
pub halves : (xs ys zs high low : List ℕ) → length xs ≡ 16 → xs ≡ high → ys ≡ low → drop 16 zs ≡ []
    → put_mid 16 16 (xs ++ zs) ys ≡ high ++ low
halves xs ys zs high low long first second none =
    let front = take_at xs zs 16 long in
    let back : drop 16 (drop 16 (xs ++ zs)) ≡ [] = ap (drop 16) (drop_at xs zs 16 long) ∙ none in
    ap (λ t. t ++ (ys ++ drop 16 (drop 16 (xs ++ zs)))) (front ∙ first) ∙ ap (λ t. high ++ (ys ++ t)) back
    ∙ ap (λ t. high ++ t) (append-nil ys ∙ second)

-- the newest words are the rest by 2 ^ 256
pub newest_words : (o m l self : ℕ) → m * 2 ^ 128 + l < 2 ^ 256 → o * 2 ^ 256 + m * 2 ^ 128 + l ≡ self
    → m * 2 ^ 128 + l ≡ self % 2 ^ 256
newest_words o m l self small all =
    let grouped : o * 2 ^ 256 + m * 2 ^ 128 + l ≡ o * 2 ^ 256 + (m * 2 ^ 128 + l) = omega arith in
    sym (ap (λ x. x % 2 ^ 256) (sym all ∙ grouped) ∙ mod-mul-add o (2 ^ 256) (m * 2 ^ 128 + l) small)
