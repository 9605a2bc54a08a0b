-- The reading of 256 bits gives a frame of them, and each frame of them is read.
use Rattle.std.proofs.Common.{◌≡◌, ◌≢◌, ℕ, zero, suc, ◌+◌, ◌-◌, ◌*◌, ◌/◌, ◌%◌, ◌^◌, ◌<◌, ◌≤◌, ◌⊎◌, Bool, true, false, eqb, List, length, map, replicate, Option, None, Some, Ok, get_or, refl, arith, ap, sym, ◌∙◌, inl, inr, length-append, lit<, subst}
use Rattle.std.specs.Prelude.{if◌then◌else◌, option_map}
use Rattle.std.specs.List.{range_with_len}
use Rattle.std.specs.Option.{option_or}
use Rattle.std.specs.Int.{bit_at}
use Rattle.std.proofs.lemmas.Bool.{eq-eqb, eqb-true, cases_eq, cases_lt}
use Rattle.std.proofs.lemmas.List.{ext_get_or, get_or_append_left, get_or-append_right, get_or-replicate, get_or_past, length-replicate}
use Rattle.std.proofs.lemmas.List.FromFn.{length-map-range_with_len, get_or-map-range_with_len}
use Rattle.ld_base.specs.Bits.{bit_of, byte_bit, line_bit}
use Rattle.ld_base.specs.Words.{AreWords, HeaderWords}
use Rattle.c3794_frame.specs.Frame.{IsFrame, filled}
use Rattle.c3794_frame.specs.FrameOf.{FrameOf, Layout, count_of, data_bit, header_of, word}
use Rattle.c3794_frame.specs.Numbers.{AreBits, number, number_bits}
use Rattle.c3794_frame.specs.Reading.{broken_pair, data_byte, fault_behind, layout_of, payload_of, read_behind, read_frame, unless_fault, word_of, wrong_count}
use Rattle.c3794_frame.specs.declared.decoding.FrameFault.{FrameFault}
use Rattle.c3794_frame.specs.declared.decoding.FrameFault.TheVariants.{Pair, Count}
use Rattle.c3794_frame.proofs.Lines.{number_of}
use Rattle.c3794_frame.proofs.Numbers.{get_or-number_bits, number-lt, number_bits-number}
use Rattle.c3794_frame.proofs.Pairs.{all_pairs, no_broken_pair, unlike}

-- a header word is known by its number
pub word_of-word : (words : HeaderWords) (odd : Bool) → AreWords words → word_of words (word words odd) ≡ Some odd
word_of-word words true are = rw (eq-eqb (word words true) (word words true) refl)
word_of-word words false are =
    let ne : word words false ≢ word words true = λ e. are.differ (omega arith) in
    rw (unlike _ _ ne, eq-eqb (word words false) (word words false) refl)

-- which way a test went
chosen : (t a b : Bool) (rest : Option Bool) → (if t then Some a else rest) ≡ Some b
    → ((t ≡ true) × (a ≡ b)) ⊎ ((t ≡ false) × (rest ≡ Some b))
chosen true a b rest e = inl (refl, cc)
chosen false a b rest e = inr (refl, e)

-- what is known as a header word has its number
pub word-word_of : (words : HeaderWords) (n : ℕ) (odd : Bool) → word_of words n ≡ Some odd → n ≡ word words odd
word-word_of words n odd e =
    elim (chosen (eqb n (word words true)) true odd _ e) [
      | inl h ↦ eqb-true n (word words true) h.0 ∙ ap (λ o. word words o) h.1
      | inr h ↦ elim (chosen (eqb n (word words false)) false odd None h.1) [
        | inl h' ↦ eqb-true n (word words false) h'.0 ∙ ap (λ o. word words o) h'.1
        | inr h' ↦ absurd (cc (h'.1))
      ]
    ]

-- a byte of the front, filled up
pub filled_at : (bytes : List ℕ) (n k : ℕ) → length bytes ≡ n → k < n → get_or (filled bytes) k 0 ≡ get_or bytes k 0
filled_at bytes n k long below = get_or_append_left bytes (replicate (12 - length bytes) 255) 0 k (omega arith)

-- a byte behind it
pub filled_behind : (bytes : List ℕ) (n k : ℕ) → length bytes ≡ n → n ≤ k → k < 12 → get_or (filled bytes) k 0 ≡ 255
filled_behind bytes n k long from below =
    get_or-append_right bytes (replicate (12 - length bytes) 255) n k 0 long from
    ∙ get_or-replicate (12 - length bytes) (k - n) 255 0 (omega arith)

-- it has twelve bytes
pub length-filled : (bytes : List ℕ) → length bytes ≤ 12 → length (filled bytes) ≡ 12
length-filled bytes few = length-append bytes (replicate (12 - length bytes) 255) ∙ ap (λ n. length bytes + n) (length-replicate (12 - length bytes) 255) ∙ (omega arith)

-- the eight data bits of a byte
eight : List ℕ → ℕ → List ℕ
eight bits k = map (data_bit bits) (range_with_len k 8)

-- the byte of its data bits
data_byte_by : (bits : List ℕ) (k : ℕ) → data_byte bits k ≡ number (eight bits k)
unfolding eight
data_byte_by bits k = refl

-- there are eight
length-eight : (bits : List ℕ) (k : ℕ) → length (eight bits k) ≡ 8
unfolding eight
length-eight bits k = length-map-range_with_len (data_bit bits) k 8

-- each of them
eight_at : (bits : List ℕ) (k i : ℕ) → i < 8 → get_or (eight bits k) i 0 ≡ data_bit bits (k + i)
unfolding eight
eight_at bits k i below = get_or-map-range_with_len (data_bit bits) k 8 i (k + i) 0 below refl

-- they are bits
eight_are : (bits : List ℕ) (k : ℕ) → AreBits bits → AreBits (eight bits k)
eight_are bits k are = record {
  each = λ i. elim (cases_lt i 8) [
    | inl within ↦ rw (eight_at bits k i within) (are.each (16 + 2 * (k + i)))
    | inr past ↦ let none : get_or (eight bits k) i 0 ≡ 0 = get_or_past (eight bits k) i 0 (rw (length-eight bits k) past) in omega arith
  ];
}

-- a byte of payload is below 256
data_byte-lt : (bits : List ℕ) (k : ℕ) → AreBits bits → data_byte bits k < 256
data_byte-lt bits k are = let below = number-lt (eight bits k) (eight_are bits k are) in rw (data_byte_by bits k) (rw (length-eight bits k) at below)

-- a bit of a byte of payload is its data bit
bit_of_byte : (bits : List ℕ) (k i : ℕ) → AreBits bits → i < 8 → byte_bit (data_byte bits k) i ≡ data_bit bits (k + i)
bit_of_byte bits k i are below =
    let e : 8 - 1 - i ≡ 7 - i = omega arith in
    let all = number_bits-number (eight bits k) (eight_are bits k are) in
    let all' : number_bits 8 (number (eight bits k)) ≡ eight bits k = rw (length-eight bits k) at all in
    ap (bit_at (data_byte bits k)) (sym e) ∙ ap (λ n. bit_at n (8 - 1 - i)) (data_byte_by bits k)
    ∙ sym (get_or-number_bits 8 (number (eight bits k)) i below)
    ∙ ap (λ xs. get_or xs i 0) all' ∙ eight_at bits k i below

-- a byte whose bits are these data bits
byte_is : (bits : List ℕ) (k n : ℕ) → n < 256 → ((i : ℕ) → i < 8 → data_bit bits (k + i) ≡ byte_bit n i) → data_byte bits k ≡ n
byte_is bits k n small same =
    let within : n % 2 ^ 8 ≡ n = omega arith in
    data_byte_by bits k
    ∙ number_of (eight bits k) 8 n (length-eight bits k) (λ i below. eight_at bits k i below ∙ same i below ∙ ap (bit_at n) (omega arith))
    ∙ within

-- the bytes of payload, one for each channel
pub bytes_of : ℕ → List ℕ → List ℕ
bytes_of channels bits = map (λ k. data_byte bits (24 + 8 * k)) (range_with_len 0 channels)

-- the payload is these bytes, filled up
pub payload_by : (channels : ℕ) (bits : List ℕ) → payload_of channels bits ≡ filled (bytes_of channels bits)
unfolding bytes_of
payload_by channels bits = refl

-- there is one for each channel
pub length-bytes_of : (channels : ℕ) (bits : List ℕ) → length (bytes_of channels bits) ≡ channels
unfolding bytes_of
length-bytes_of channels bits = length-map-range_with_len (λ k. data_byte bits (24 + 8 * k)) 0 channels

-- each of them
pub bytes_of_at : (channels : ℕ) (bits : List ℕ) (k : ℕ) → k < channels
    → get_or (bytes_of channels bits) k 0 ≡ data_byte bits (24 + 8 * k)
unfolding bytes_of
bytes_of_at channels bits k below = get_or-map-range_with_len (λ k. data_byte bits (24 + 8 * k)) 0 channels k k 0 below (omega arith)

-- a used byte of payload
pub payload_at : (channels : ℕ) (bits : List ℕ) (k : ℕ) → k < channels
    → get_or (payload_of channels bits) k 0 ≡ data_byte bits (24 + 8 * k)
payload_at channels bits k below =
    ap (λ xs. get_or xs k 0) (payload_by channels bits)
    ∙ filled_at (bytes_of channels bits) channels k (length-bytes_of channels bits) below ∙ bytes_of_at channels bits k below

-- an unused one
pub payload_past : (channels : ℕ) (bits : List ℕ) (k : ℕ) → channels ≤ k → k < 12 → get_or (payload_of channels bits) k 0 ≡ 255
payload_past channels bits k from below = ap (λ xs. get_or xs k 0) (payload_by channels bits) ∙ filled_behind (bytes_of channels bits) channels k (length-bytes_of channels bits) from below

-- there are twelve bytes
pub length-payload_of : (channels : ℕ) (bits : List ℕ) → channels ≤ 12 → length (payload_of channels bits) ≡ 12
length-payload_of channels bits few = ap length (payload_by channels bits) ∙ length-filled (bytes_of channels bits) (rw (length-bytes_of channels bits) few)

-- the payload of a frame is the one that is read
payload_is : (words : HeaderWords) (bits : List ℕ) (f : Layout) → IsFrame f → FrameOf words bits f
    → payload_of f.channels bits ≡ f.payload
payload_is words bits f frame of =
    let twelve : length f.payload ≡ 12 = frame.twelve in
    let few : f.channels ≤ 12 = frame.few in
    let long = length-payload_of f.channels bits few in
    let bit = λ (k i : ℕ) (used : k < f.channels) (below : i < 8).
    let at = of.payload (8 * k + i) (omega arith) in
    let e : 24 + (8 * k + i) ≡ 24 + 8 * k + i = omega arith in
    let quotient : (8 * k + i) / 8 ≡ k = omega arith in
    let rest : (8 * k + i) % 8 ≡ i = omega arith in
    ap (data_bit bits) (sym e) ∙ at ∙ ap (λ q. byte_bit (get_or f.payload q 0) ((8 * k + i) % 8)) quotient ∙ ap (byte_bit (get_or f.payload k 0)) rest in
    ext_get_or 0 (payload_of f.channels bits) f.payload (long ∙ sym twelve) (λ k below. elim (cases_lt k f.channels) [
      | inl used ↦ payload_at f.channels bits k used ∙ byte_is bits (24 + 8 * k) (get_or f.payload k 0) (frame.bytes k) (λ i h. bit k i used h)
      | inr unused ↦ payload_past f.channels bits k unused (omega arith) ∙ sym (frame.unused k unused (omega arith))
    ])

-- a truth value by its bit
bit_test : (b : Bool) (n : ℕ) → n ≡ bit_of b → eqb n 1 ≡ b
bit_test true n e = rw e refl
bit_test false n e = rw e refl

-- a bit is that of its test
bit_by_test : (n : ℕ) → n < 2 → n ≡ bit_of (eqb n 1)
bit_by_test zero small = refl
bit_by_test (suc zero) small = refl
bit_by_test (suc (suc n)) small = absurd (omega arith)

-- equal parts make equal layouts
pub same_layout : (odd : Bool) (channels : ℕ) (x y : Bool) (xs ys : List ℕ) → x ≡ y → xs ≡ ys
    → ◌≡◌ {A = Layout} (record { odd = odd; channels = channels; yellow = x; payload = xs }) (record { odd = odd; channels = channels; yellow = y; payload = ys })
same_layout odd channels x y xs ys yellow payload = rw (yellow, payload)

-- a right count is no fault
pub right_count : (channels count : ℕ) → count ≡ channels → wrong_count channels count ≡ None
right_count channels count e = rw (eq-eqb _ _ e)

-- a frame has no fault
no_fault : (words : HeaderWords) (bits : List ℕ) (f : Layout) → FrameOf words bits f → fault_behind f.channels bits ≡ None
no_fault words bits f of = rw (no_broken_pair bits of.complements) (right_count f.channels (count_of bits) of.count)

-- a frame is read from its bits
pub frame_read : (words : HeaderWords) (f : Layout) (bits : List ℕ) → AreWords words → IsFrame f → FrameOf words bits f
    → read_frame words f.channels bits ≡ Ok f
unfolding read_frame
frame_read words f bits are frame of =
    let known : word_of words (header_of bits) ≡ Some f.odd = ap (word_of words) of.header ∙ word_of-word words f.odd are in
    let yellow = bit_test f.yellow (data_bit bits 4) of.yellow in
    ap (λ o. read_behind o f.channels bits) known
    ∙ ap (λ fault. unless_fault fault (layout_of f.odd f.channels bits)) (no_fault words bits f of)
    ∙ ap Ok (same_layout f.odd f.channels _ _ _ _ yellow (payload_is words bits f frame of))

-- what is read behind a header word
behind : (known : Option Bool) (channels : ℕ) (bits : List ℕ) (f : Layout) → read_behind known channels bits ≡ Ok f
    → (odd : Bool) × (known ≡ Some odd) × (fault_behind channels bits ≡ None) × (layout_of odd channels bits ≡ f)
behind None channels bits f e = absurd (cc)
behind (Some odd) channels bits f e = let parts = unless (fault_behind channels bits) (layout_of odd channels bits) f e in (odd, refl, parts.0, parts.1)
  where
    unless : (fault : Option FrameFault) (g f : Layout) → unless_fault fault g ≡ Ok f → (fault ≡ None) × (g ≡ f)
    unless None g f e = (refl, cc)
    unless (Some fault) g f e = absurd (cc)

-- a count that isn't wrong is right
counted : (channels count : ℕ) → wrong_count channels count ≡ None → count ≡ channels
counted channels count e =
    elim (cases_eq count channels) [
      | inl same ↦ same
      | inr ne ↦
          let wrong : wrong_count channels count ≡ Some (Count count) = rw (unlike count channels ne) in
          absurd (cc)
    ]

-- no fault behind the header word: no broken pair, and the right count
faultless : (pair : Option ℕ) (channels count : ℕ) → option_or (option_map (λ i. Pair i) pair) (wrong_count channels count) ≡ None
    → (pair ≡ None) × (count ≡ channels)
faultless None channels count e = (refl, counted channels count e)
faultless (Some i) channels count e = absurd (cc)

-- the layout that is read is a frame
read_fits : (odd : Bool) (channels : ℕ) (bits : List ℕ) → 1 ≤ channels → channels ≤ 12 → AreBits bits
    → IsFrame (layout_of odd channels bits)
read_fits odd channels bits some few are =
    let twelve = length-payload_of channels bits few in
    record {
      some = some;
      few = few;
      twelve = twelve;
      bytes = λ k. elim (cases_lt k channels) [
        | inl used ↦ rw (payload_at channels bits k used) (data_byte-lt bits (24 + 8 * k) are)
        | inr unused ↦ elim (cases_lt k 12) [
          | inl below ↦ rw (payload_past channels bits k unused below) (lit< tt)
          | inr past ↦ let none : get_or (payload_of channels bits) k 0 ≡ 0 = get_or_past (payload_of channels bits) k 0 (rw twelve past) in omega arith
        ]
      ];
      unused = λ k from below. payload_past channels bits k from below;
    }

-- a bit of the payload that is read is its data bit
read_bit : (channels : ℕ) (bits : List ℕ) (m : ℕ) → AreBits bits → m < 8 * channels
    → data_bit bits (24 + m) ≡ line_bit (payload_of channels bits) m
read_bit channels bits m are below =
    let place : 24 + 8 * (m / 8) + m % 8 ≡ 24 + m = omega arith in
    let at = bit_of_byte bits (24 + 8 * (m / 8)) (m % 8) are (omega arith) in
    sym (ap (λ n. byte_bit n (m % 8)) (payload_at channels bits (m / 8) (omega arith)) ∙ at ∙ ap (data_bit bits) place)

-- it is one of these bits
read_of : (words : HeaderWords) (odd : Bool) (channels : ℕ) (bits : List ℕ) → length bits ≡ 256 → AreBits bits
    → header_of bits ≡ word words odd → broken_pair bits ≡ None → count_of bits ≡ channels
    → FrameOf words bits (layout_of odd channels bits)
read_of words odd channels bits long are header whole count = record {
  long = long;
  are_bits = are;
  header = header;
  complements = all_pairs bits are whole;
  count = count;
  yellow = bit_by_test (data_bit bits 4) (are.each 24);
  payload = λ m below. read_bit channels bits m are below;
}

-- what is read is a frame of the bits
pub read_is_frame : (words : HeaderWords) (channels : ℕ) (bits : List ℕ) (f : Layout) → 1 ≤ channels → channels ≤ 12
    → length bits ≡ 256 → AreBits bits → read_frame words channels bits ≡ Ok f
    → IsFrame f × FrameOf words bits f × (f.channels ≡ channels)
unfolding read_frame
read_is_frame words channels bits f some few long are e =
    let parts = behind (word_of words (header_of bits)) channels bits f e in
    let whole = faultless (broken_pair bits) channels (count_of bits) parts.2 in
    let header = word-word_of words (header_of bits) parts.0 parts.1 in
    let P : Layout → Type 0 = λ g. IsFrame g × FrameOf words bits g × (g.channels ≡ channels) in
    subst P parts.3 (read_fits parts.0 channels bits some few are, read_of words parts.0 channels bits long are header whole.0 whole.1, refl)
