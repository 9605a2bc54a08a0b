-- The bits of a chunk, some at a time.
use Rattle.std.proofs.Common.{◌≡◌, ℕ, zero, suc, ◌+◌, ◌-◌, ◌*◌, ◌/◌, ◌%◌, ◌^◌, ◌<◌, ◌≤◌, true, List, [], ◌∷◌, ◌++◌, length, drop, map, get_or, Option, Some, None, refl, arith, ap, lit<, sym, subst, ◌∙◌, inl, inr, length-append}
use Rattle.std.specs.Int.{bit_at}
use Rattle.std.specs.List.{range_with_len}
use Rattle.std.specs.Option.{is_some, option_or}
use Rattle.std.proofs.lemmas.Bool.{cases_lt}
use Rattle.std.proofs.lemmas.List.{append-nil, append_assoc, drop_at, get_or_past}
use Rattle.std.proofs.lemmas.List.FromFn.{get_or-map-range_with_len, length-map-range_with_len}
use Rattle.std.proofs.lemmas.Nat.{field_of, mod_below, pow_pos, shl-shr, shr-shr}
use Rattle.std.proofs.lemmas.Nat.Bits.{bit_at-lt}
use Rattle.ld_base.specs.Bits.{byte_bit, line_bit, line_bits}
use Rattle.c3794_frame.specs.Numbers.{AreBits, bits_of, number}
use Rattle.c3794_frame.proofs.Lines.{number_of}
use Rattle.c3794_frame.proofs.Numbers.{number-append}
use Rattle.bit_sync.specs.Frames.{Rules, frames, listed, gots, position, steps, unread}
use Rattle.bit_sync.specs.StandsFor.{Kept, StandsFor}
use Rattle.bit_sync.specs.Step.{Fills, Takes, kept, some_bits}
use Rattle.bit_sync.specs.declared.told.Got.{Got}

-- before the first bits
pub fills_none : (new : Kept) (line : List ℕ) → StandsFor new line → Fills new line [] None
fills_none new line stands = record {
  stands = rw append-nil stands;
  told = rw append-nil (sym (append-nil _));
  past = λ e. absurd (cc);
}

-- the frames with some bits more: one ended at most
frames_more : (r : Rules) (line done group : List ℕ) (frame got : Option Got)
    → gots (frames r (line ++ done)).events ≡ gots (frames r line).events ++ listed frame
    → (is_some frame ≡ true → length line < position (frames r (line ++ done)).place)
    → gots (frames r (line ++ done ++ group)).events ≡ gots (frames r (line ++ done)).events ++ listed got
    → (is_some got ≡ true → position (frames r (line ++ done)).place + 256 ≤ length (line ++ done ++ group))
    → length done + length group ≤ 256
    → gots (frames r (line ++ done ++ group)).events ≡ gots (frames r line).events ++ listed (option_or got frame)
frames_more r line done group frame None told past more whole few = more ∙ append-nil _ ∙ told
frames_more r line done group None (Some g) told past more whole few = more ∙ ap (λ xs. xs ++ g ∷ []) (told ∙ append-nil _)
frames_more r line done group (Some f) (Some g) told past more whole few =
    let size : length (line ++ done ++ group) ≡ length line + length done + length group = length-append (line ++ done) group ∙ ap (λ n. n + length group) (length-append line done) in
    absurd (omega (arith, past refl, whole refl))

-- and where the reading stands
past_more : (r : Rules) (line done group : List ℕ) (frame got : Option Got)
    → (is_some frame ≡ true → length line < position (frames r (line ++ done)).place)
    → position (frames r (line ++ done)).place ≤ position (frames r (line ++ done ++ group)).place
    → (is_some got ≡ true → length (line ++ done) < position (frames r (line ++ done ++ group)).place)
    → is_some (option_or got frame) ≡ true → length line < position (frames r (line ++ done ++ group)).place
past_more r line done group frame None past later more e = omega (arith, past e)
past_more r line done group frame (Some g) past later more e = omega (arith, more refl, length-append line done)

-- some bits more
pub fills_more : (old new : Kept) (line done group : List ℕ) (frame got : Option Got) → Fills old line done frame
    → Takes new (line ++ done) group got → new.rules ≡ old.rules → length done + length group ≤ 256
    → Fills new line (done ++ group) (option_or got frame)
fills_more old new line done group frame got fills takes same few =
    let Told : Rules → Type 0 = λ r. gots (frames r (line ++ done)).events ≡ gots (frames r line).events ++ listed frame in
    let Past : Rules → Type 0 = λ r. is_some frame ≡ true → length line < position (frames r (line ++ done)).place in
    let told : Told new.rules = subst Told (sym same) fills.told in
    let past : Past new.rules = subst Past (sym same) fills.past in
    let e : line ++ done ++ group ≡ line ++ (done ++ group) = append_assoc line done group in
    let Stands : List ℕ → Type 0 = λ xs. StandsFor new xs in
    let Frames : List ℕ → Type 0 = λ xs. gots (frames new.rules xs).events ≡ gots (frames new.rules line).events ++ listed (option_or got frame) in
    let Passed : List ℕ → Type 0 = λ xs. is_some (option_or got frame) ≡ true → length line < position (frames new.rules xs).place in
    record {
      stands = subst Stands e takes.stands;
      told = subst Frames e (frames_more new.rules line done group frame got told past takes.told takes.whole few);
      past = subst Passed e (past_more new.rules line done group frame got past takes.later takes.past);
    }

-- all bits of a step at once
pub fills_all : (new : Kept) (line group : List ℕ) (got : Option Got) → Takes new line group got → Fills new line group got
fills_all new line group got takes = record { stands = takes.stands; told = takes.told; past = takes.past }

-- the bits of 32 bytes
pub whole_bits : (bytes : List ℕ) → length bytes ≡ 32 → bits_of bytes ≡ line_bits 256 bytes
unfolding bits_of
whole_bits bytes long = ap (λ n. line_bits (8 * n) bytes) long

-- the bits behind a line
pub behind_line : (line bits : List ℕ) (held : ℕ) → held ≡ 0 → drop (length line - held) (line ++ bits) ≡ bits
behind_line line bits held none =
    let e : length line - held ≡ length line = omega arith in
    ap (λ n. drop n (line ++ bits)) e ∙ drop_at line bits (length line) refl

-- numbers from a place on in two parts
range_parts : (f : ℕ → ℕ) (a n m : ℕ)
    → map f (range_with_len a (n + m)) ≡ map f (range_with_len a n) ++ map f (range_with_len (a + n) m)
range_parts f a zero m = let e : 0 + m ≡ m = omega arith in let e' : a + 0 ≡ a = omega arith in rw (e, e') refl
range_parts f a (suc n) m =
    let e : suc n + m ≡ suc (n + m) = omega arith in
    let e' : a + suc n ≡ (a + 1) + n = omega arith in
    rw (e, e') (ap (λ xs. f a ∷ xs) (range_parts f (a + 1) n m))

-- more of the bits of a chunk
pub more_bits : (bytes : List ℕ) (done some : ℕ)
    → line_bits (done + some) bytes ≡ line_bits done bytes ++ some_bits bytes done some
unfolding some_bits
more_bits bytes done some = let e : 0 + done ≡ done = omega arith in range_parts (line_bit bytes) 0 done some ∙ ap (λ a. line_bits done bytes ++ map (line_bit bytes) (range_with_len a some)) e

-- there are so many
pub length-some_bits : (bytes : List ℕ) (at count : ℕ) → length (some_bits bytes at count) ≡ count
unfolding some_bits
length-some_bits bytes at count = length-map-range_with_len (line_bit bytes) at count

-- each of them
some_bits_at : (bytes : List ℕ) (at count i : ℕ) → i < count → get_or (some_bits bytes at count) i 0 ≡ line_bit bytes (at + i)
unfolding some_bits
some_bits_at bytes at count i within = get_or-map-range_with_len (line_bit bytes) at count i (at + i) 0 within refl

-- some bits of bytes are bits
pub are_some_bits : (bytes : List ℕ) (at count : ℕ) → AreBits (some_bits bytes at count)
are_some_bits bytes at count = record {
  each = λ i. elim (cases_lt i count) [
    | inl within ↦ rw (some_bits_at bytes at count i within) (bit_at-lt _ _)
    | inr past ↦
        let none : get_or (some_bits bytes at count) i 0 ≡ 0 = get_or_past (some_bits bytes at count) i 0 (rw (length-some_bits bytes at count) past) in
        omega arith
  ];
}

-- a byte shifted to its first bits and then to their number
shifted_byte : (b s n : ℕ) → s + n ≤ 8 → b * 2 ^ s % 256 / 2 ^ (8 - n) ≡ b / 2 ^ (8 - s - n) % 2 ^ n
shifted_byte b s n few =
    let e : n + (8 - n) ≡ 8 = omega arith in
    let e' : s + (8 - s - n) ≡ 8 - n = omega arith in
    ap (λ k. b * 2 ^ s % 2 ^ k / 2 ^ (8 - n)) (sym e) ∙ field_of (b * 2 ^ s) n (8 - n)
    ∙ ap (λ k. b * 2 ^ s / 2 ^ k % 2 ^ n) (sym e')
    ∙ ap (λ x. x % 2 ^ n) (sym (shr-shr (b * 2 ^ s) s (8 - s - n)) ∙ ap (λ x. x / 2 ^ (8 - s - n)) (shl-shr b s))

-- the number of some bits of one byte
pub bits_number : (bytes : List ℕ) (at count from : ℕ) → at % 8 + count ≤ 8 → from ≡ at / 8
    → get_or bytes from 0 * 2 ^ (at % 8) % 256 / 2 ^ (8 - count) ≡ number (some_bits bytes at count)
bits_number bytes at count from few is =
    let s : ℕ = at % 8 in
    let b : ℕ = get_or bytes (at / 8) 0 in
    let rest : ℕ = 8 - s - count in
    let same : (i : ℕ) → i < count → get_or (some_bits bytes at count) i 0 ≡ bit_at (b / 2 ^ rest) (count - 1 - i) =
    λ i below.
    let quotient : (at + i) / 8 ≡ at / 8 = omega arith in
    let place : (at + i) % 8 ≡ s + i = omega arith in
    let bit : 7 - (s + i) ≡ rest + (count - 1 - i) = omega arith in
    some_bits_at bytes at count i below
    ∙ ap (λ q. byte_bit (get_or bytes q 0) ((at + i) % 8)) quotient ∙ ap (byte_bit b) place ∙ ap (bit_at b) bit ∙ ap (λ x. x % 2) (sym (shr-shr b rest (count - 1 - i))) in
    ap (λ q. get_or bytes q 0 * 2 ^ s % 256 / 2 ^ (8 - count)) is ∙ shifted_byte b s count few
    ∙ sym (number_of (some_bits bytes at count) count (b / 2 ^ rest) (length-some_bits bytes at count) same)

-- it is below the power of their count
pub bits_small : (bytes : List ℕ) (at count from : ℕ) → at % 8 + count ≤ 8 → from ≡ at / 8
    → get_or bytes from 0 * 2 ^ (at % 8) % 256 / 2 ^ (8 - count) < 2 ^ count
bits_small bytes at count from few is =
    ap_lt (shifted_byte (get_or bytes from 0) (at % 8) count few) (mod_below _ (2 ^ count) (pow_pos count))
  where
    ap_lt : {x y z : ℕ} → x ≡ y → y < z → x < z
    ap_lt e h = omega arith

-- a whole byte by its bits
byte_number : (bytes : List ℕ) (k : ℕ) → get_or bytes k 0 < 256 → number (some_bits bytes (8 * k) 8) ≡ get_or bytes k 0
byte_number bytes k fits =
    let whole : 8 * k % 8 ≡ 0 = omega arith in
    let quotient : k ≡ 8 * k / 8 = omega arith in
    sym (bits_number bytes (8 * k) 8 k (omega arith) quotient) ∙ ap (λ s. get_or bytes k 0 * 2 ^ s % 256 / 2 ^ 0) whole
    ∙ (omega arith)

-- the number of some bits in two parts
number_parts : (bytes : List ℕ) (at n m : ℕ)
    → number (some_bits bytes at (n + m)) ≡ number (some_bits bytes at n) * 2 ^ m + number (some_bits bytes (at + n) m)
unfolding some_bits
number_parts bytes at n m =
    ap number (range_parts (line_bit bytes) at n m)
    ∙ number-append (map (line_bit bytes) (range_with_len at n)) (map (line_bit bytes) (range_with_len (at + n) m))
    ∙ ap (λ l. number (map (line_bit bytes) (range_with_len at n)) * 2 ^ l + number (map (line_bit bytes) (range_with_len (at + n) m))) (length-map-range_with_len (line_bit bytes) (at + n) m)

-- a byte before other bits
byte_before : (bytes : List ℕ) (k m : ℕ) → get_or bytes k 0 < 256
    → number (some_bits bytes (8 * k) (8 + m)) ≡ get_or bytes k 0 * 2 ^ m + number (some_bits bytes (8 * (k + 1)) m)
byte_before bytes k m fits =
    let e : 8 * k + 8 ≡ 8 * (k + 1) = omega arith in
    number_parts bytes (8 * k) 8 m ∙ ap (λ n. n * 2 ^ m + number (some_bits bytes (8 * k + 8) m)) (byte_number bytes k fits)
    ∙ ap (λ at. get_or bytes k 0 * 2 ^ m + number (some_bits bytes at m)) e

-- four bytes by their bits
pub word_number : (bytes : List ℕ) (k n : ℕ) → ((i : ℕ) → get_or bytes i 0 < 256)
    → n ≡ get_or bytes k 0 * 16777216 + get_or bytes (k + 1) 0 * 65536 + get_or bytes (k + 2) 0 * 256 + get_or bytes (k + 3) 0
    → n ≡ number (some_bits bytes (8 * k) 32)
word_number bytes k n fits is =
    let first = byte_before bytes k 24 (fits k) in
    let second = byte_before bytes (k + 1) 16 (fits (k + 1)) in
    let third = byte_before bytes (k + 1 + 1) 8 (fits (k + 1 + 1)) in
    let fourth = byte_number bytes (k + 1 + 1 + 1) (fits (k + 1 + 1 + 1)) in
    let two : get_or bytes (k + 1 + 1) 0 ≡ get_or bytes (k + 2) 0 = ap (λ i. get_or bytes i 0) (omega arith) in
    let three : get_or bytes (k + 1 + 1 + 1) 0 ≡ get_or bytes (k + 3) 0 = ap (λ i. get_or bytes i 0) (omega arith) in
    omega (arith, first, second, third, fourth, two, three)

-- nothing was read of a line without bits
pub nothing_read : (r : Rules) → frames r [] ≡ unread
unfolding frames steps
nothing_read r = refl

-- and what hunts with an empty register stands for it
pub nothing_fed : (r : Rules) (register : ℕ) → register ≡ 0 → StandsFor (kept r None register) []
nothing_fed r register empty = record {
  bits = record { each = λ i. lit< tt };
  keeps = rw (nothing_read r, empty) (omega arith, refl);
}
