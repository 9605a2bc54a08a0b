-- What the code makes of 32 bytes is what is read from their bits.
use Rattle.std.proofs.Common.{◌≡◌, ◌≢◌, ℕ, zero, suc, ◌+◌, ◌-◌, ◌*◌, ◌%◌, ◌<◌, ◌≤◌, Bool, not, eqb, List, length, Option, None, Some, Result, Ok, Err, IfOk, get_or, take, bit_and, bit_or, refl, arith, ap, sym, ◌∙◌, lit<}
use Rattle.std.specs.Int.{bit_at}
use Rattle.std.proofs.lemmas.List.{ext_get_or, get_or-take, length-take-le}
use Rattle.std.proofs.lemmas.Nat.Bits.{and_pow, bit_at-lt}
use Rattle.ld_base.specs.Words.{HeaderWords}
use Rattle.c3794_frame.specs.Frame.{filled}
use Rattle.c3794_frame.specs.FrameOf.{FrameOf, Layout, count_of, data_bit}
use Rattle.c3794_frame.specs.Nibble.{ArePayload, HasPairs, IsLineByte}
use Rattle.c3794_frame.specs.Numbers.{bits_of}
use Rattle.c3794_frame.specs.Reading.{broken_pair, data_byte, fault_behind, layout_of, payload_of, read_behind, read_frame, unless_fault, word_of}
use Rattle.c3794_frame.specs.declared.decoding.FrameFault.{FrameFault}
use Rattle.c3794_frame.specs.declared.decoding.FrameFault.TheVariants.{Pair, Count}
use Rattle.c3794_frame.proofs.Lines.{bit_in, count_is, data_bit_of, data_byte_is, header_is}
use Rattle.c3794_frame.proofs.Numbers.{are_bits_of, length-bits_of}
use Rattle.c3794_frame.proofs.Pairs.{all_pairs, unlike}
use Rattle.c3794_frame.proofs.Steps.{byte_of}
use Rattle.c3794_frame.proofs.Readings.{bytes_of, bytes_of_at, length-bytes_of, payload_by, read_is_frame, right_count, same_layout}

-- a bit by the test of eight times it
bit_by_test : (b : ℕ) → b < 2 → not (eqb (b * 8) 0) ≡ eqb b 1
bit_by_test zero below = refl
bit_by_test (suc zero) below = refl
bit_by_test (suc (suc b)) below = absurd (omega arith)

-- the highest bit of a nibble by the code's test
yellow_of : (n : ℕ) → not (eqb (bit_and n 8) 0) ≡ eqb (bit_at n 3) 1
yellow_of n = rw (and_pow n 3) (bit_by_test (bit_at n 3) (bit_at-lt n 3))

-- where no pair is broken each byte behind the header has its complements
pub pairs_in : (bytes : List ℕ) (a : ℕ) → length bytes ≡ 32 → broken_pair (bits_of bytes) ≡ None → 2 ≤ a → a < 32 → HasPairs (get_or bytes a 0)
pairs_in bytes a long none from within = record {
  each = λ j below.
      let k : ℕ = 4 * (a - 2) + j in
      let pair = all_pairs (bits_of bytes) (are_bits_of bytes) none k (omega arith) in
      let first = bit_in bytes (16 + 2 * k) a (2 * j) long (omega (arith, from)) (omega arith) within in
      let second = bit_in bytes (17 + 2 * k) a (2 * j + 1) long (omega (arith, from)) (omega arith) within in
      omega (arith, pair, first, second);
}

-- a byte of payload by the nibbles that the code looks up
pub payload_byte : (bytes : List ℕ) (k high low : ℕ) → length bytes ≡ 32 → k < 12 → (HasPairs (get_or bytes (8 + 2 * k) 0) → IsLineByte (get_or bytes (8 + 2 * k) 0) high)
    → (HasPairs (get_or bytes (9 + 2 * k) 0) → IsLineByte (get_or bytes (9 + 2 * k) 0) low) → broken_pair (bits_of bytes) ≡ None
    → bit_or (high * 16 % 256) low ≡ data_byte (bits_of bytes) (24 + 8 * k)
payload_byte bytes k high low long within first second none =
    let line = first (pairs_in bytes (8 + 2 * k) long none (omega arith) (omega arith)) in
    let line' = second (pairs_in bytes (9 + 2 * k) long none (omega arith) (omega arith)) in
    byte_of high low line.small line'.small ∙ sym (data_byte_is bytes k high low long within line line')

-- the payload that the code takes is the one that is read
payload_read : (bits payload : List ℕ) (channels : ℕ) → ArePayload channels bits payload → channels ≤ 12
    → filled (take channels payload) ≡ payload_of channels bits
payload_read bits payload channels made few =
    let twelve : length payload ≡ 12 = made.long in
    let size = length-take-le channels payload (omega arith) in
    let same = ext_get_or 0 (take channels payload) (bytes_of channels bits) (size ∙ sym (length-bytes_of channels bits)) (λ k below.
    let used : k < channels = omega arith in
    get_or-take channels payload k 0 used ∙ made.each k used ∙ sym (bytes_of_at channels bits k used)) in
    ap filled same ∙ sym (payload_by channels bits)

-- a broken pair is the fault behind a header word
pub read_pair : (odd : Bool) (channels at : ℕ) (bits : List ℕ) → Some at ≡ broken_pair bits → read_behind (Some odd) channels bits ≡ Err (Pair at)
read_pair odd channels at bits e = rw (← e) refl

-- a wrong count is the fault where no pair is broken
pub read_count : (odd : Bool) (channels count : ℕ) (bytes : List ℕ) → length bytes ≡ 32 → broken_pair (bits_of bytes) ≡ None
    → IsLineByte (get_or bytes 2 0) count → count ≢ channels → read_behind (Some odd) channels (bits_of bytes) ≡ Err (Count count)
read_count odd channels count bytes long none line ne = rw (none, count_is bytes count long line, unlike count channels ne)

-- what the code makes is what is read
pub read_made : (odd : Bool) (channels count second : ℕ) (bytes payload : List ℕ) (f : Layout) → length bytes ≡ 32
    → broken_pair (bits_of bytes) ≡ None → IsLineByte (get_or bytes 2 0) count → IsLineByte (get_or bytes 3 0) second
    → ArePayload channels (bits_of bytes) payload → count ≡ channels → channels ≤ 12
    → f ≡ record { odd = odd; channels = length (take channels payload); yellow = not (eqb (bit_and second 8) 0); payload = filled (take channels payload) }
    → read_behind (Some odd) channels (bits_of bytes) ≡ Ok f
read_made odd channels count second bytes payload f long whole line line' made same few is =
    let counted = count_is bytes count long line ∙ same in
    let none : fault_behind channels (bits_of bytes) ≡ None = rw whole (right_count channels (count_of (bits_of bytes)) counted) in
    let twelve : length payload ≡ 12 = made.long in
    let size = length-take-le channels payload (omega arith) in
    let yellow = yellow_of second ∙ ap (λ b. eqb b 1) (sym (data_bit_of bytes 4 3 0 second long refl (lit< tt) (lit< tt) line')) in
    let equal = same_layout odd (length (take channels payload)) _ _ _ _ yellow (payload_read (bits_of bytes) payload channels made few) in
    let with_channels : ℕ → Layout = λ n. record { odd = odd; channels = n; yellow = eqb (data_bit (bits_of bytes) 4) 1; payload = payload_of channels (bits_of bytes) } in
    ap (λ fault. unless_fault fault (layout_of odd channels (bits_of bytes))) none
    ∙ ap Ok (sym (is ∙ equal ∙ ap with_channels size))

-- the reading by the number that the first two bytes make
pub read_by : (words : HeaderWords) (channels : ℕ) (bytes : List ℕ) (n : ℕ) (known : Option Bool) → length bytes ≡ 32
    → ((k : ℕ) → get_or bytes k 0 < 256) → n ≡ get_or bytes 0 0 * 256 + get_or bytes 1 0
    → known ≡ word_of words n → read_behind known channels (bits_of bytes) ≡ read_frame words channels (bits_of bytes)
unfolding read_frame
read_by words channels bytes n known long fits is e = ap (λ o. read_behind o channels (bits_of bytes)) (e ∙ ap (word_of words) (is ∙ sym (header_is bytes long (fits 0) (fits 1))))

-- what was read is a frame of the bits
pub framed : (words : HeaderWords) (channels : ℕ) (bytes : List ℕ) (result : Result Layout FrameFault) → 1 ≤ channels
    → channels ≤ 12 → length bytes ≡ 32
    → result ≡ read_frame words channels (bits_of bytes)
    → IfOk result (λ f. FrameOf words (bits_of bytes) f × (f.channels ≡ channels))
framed words channels bytes (Ok f) some few long e =
    let whole = read_is_frame words channels (bits_of bytes) f some few (length-bits_of bytes ∙ ap (λ n. 8 * n) long) (are_bits_of bytes) (sym e) in
    (whole.1, whole.2)
framed words channels bytes (Err fault) some few long e = tt
