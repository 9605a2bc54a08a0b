-- The bits that are sent for a frame.
use Rattle.std.proofs.Common.{◌≡◌, ℕ, zero, suc, ◌+◌, ◌-◌, ◌*◌, ◌/◌, ◌%◌, ◌^◌, ◌<◌, ◌≤◌, Bool, true, false, List, [], ◌∷◌, ◌++◌, length, replicate, get_or, refl, arith, ap, sym, ◌∙◌, inl, inr, length-append, lit<}
use Rattle.std.specs.Int.{bit_at}
use Rattle.std.specs.List.{flat_map}
use Rattle.std.proofs.lemmas.Bool.{cases_lt, cases_eq}
use Rattle.std.proofs.lemmas.List.{get_or_append_left, get_or-append_right, get_or-replicate, get_or_past, length-replicate, take_at}
use Rattle.std.proofs.lemmas.Nat.Bits.{bit_at-lt}
use Rattle.ld_base.specs.Bits.{bit_of, line_bit}
use Rattle.ld_base.specs.Words.{AreWords, HeaderWords}
use Rattle.c3794_frame.specs.Frame.{IsFrame}
use Rattle.c3794_frame.specs.FrameOf.{FrameOf, Layout, count_of, data_bit, data_bits, frame_bits, header_of, with_complement, word}
use Rattle.c3794_frame.specs.Numbers.{AreBits, bits_of, number, number_bits}
use Rattle.c3794_frame.proofs.Numbers.{bits_of_at, get_or-number_bits, length-bits_of, length-number_bits, number-number_bits}

-- the pairs of some data bits
pairs_of : List ℕ → List ℕ
pairs_of xs = flat_map with_complement xs

-- there are two bits for each
length-pairs : (xs : List ℕ) → length (pairs_of xs) ≡ 2 * length xs
unfolding pairs_of
length-pairs [] = refl
length-pairs (x ∷ xs) = let rest = length-pairs xs in omega (arith, length-append (with_complement x) (flat_map with_complement xs))

-- the first bit of a pair
pair_first : (xs : List ℕ) (k : ℕ) → k < length xs → get_or (pairs_of xs) (2 * k) 0 ≡ get_or xs k 0
unfolding pairs_of
pair_first [] k below = absurd (omega arith)
pair_first (x ∷ xs) zero below = refl
pair_first (x ∷ xs) (suc k) below = let e : 2 * suc k ≡ suc (suc (2 * k)) = omega arith in rw e (pair_first xs k (omega arith))

-- the second
pair_second : (xs : List ℕ) (k : ℕ) → k < length xs → get_or (pairs_of xs) (2 * k + 1) 0 ≡ 1 - get_or xs k 0
unfolding pairs_of
pair_second [] k below = absurd (omega arith)
pair_second (x ∷ xs) zero below = refl
pair_second (x ∷ xs) (suc k) below = let e : 2 * suc k + 1 ≡ suc (suc (2 * k + 1)) = omega arith in rw e (pair_second xs k (omega arith))

-- the bits of a frame: header and pairs
frame_bits_by : (words : HeaderWords) (f : Layout)
    → frame_bits words f ≡ number_bits 16 (word words f.odd) ++ pairs_of (data_bits f)
unfolding frame_bits pairs_of
frame_bits_by words f = refl

-- behind the count: the yellow bit, the spare bits and the payload
behind_count : Layout → List ℕ
behind_count f = bit_of f.yellow ∷ (replicate 19 0 ++ bits_of f.payload)

-- the data bits in two parts
data_bits_by : (f : Layout) → data_bits f ≡ number_bits 4 f.channels ++ behind_count f
unfolding behind_count
data_bits_by f = refl

-- there are 120 data bits
length-data_bits : (f : Layout) → length f.payload ≡ 12 → length (data_bits f) ≡ 120
length-data_bits f twelve =
    let payload : length (bits_of f.payload) ≡ 96 = length-bits_of f.payload ∙ ap (λ n. 8 * n) twelve in
    let spare = length-append (replicate 19 0) (bits_of f.payload) in
    omega (arith, payload, spare)

-- a bit of the count
pub count_bit : (f : Layout) (k : ℕ) → k < 4 → get_or (data_bits f) k 0 ≡ bit_at f.channels (3 - k)
count_bit f k below =
    let long = length-number_bits 4 f.channels in
    ap (λ xs. get_or xs k 0) (data_bits_by f) ∙ get_or_append_left (number_bits 4 f.channels) (behind_count f) 0 k (rw long below)
    ∙ get_or-number_bits 4 f.channels k below

-- a bit behind the count
bit_behind : (f : Layout) (k : ℕ) → get_or (data_bits f) (4 + k) 0 ≡ get_or (behind_count f) k 0
bit_behind f k =
    let e : 4 + k - 4 ≡ k = omega arith in
    ap (λ xs. get_or xs (4 + k) 0) (data_bits_by f)
    ∙ get_or-append_right (number_bits 4 f.channels) (behind_count f) 4 (4 + k) 0 (length-number_bits 4 f.channels) (omega arith)
    ∙ ap (λ i. get_or (behind_count f) i 0) e

-- the yellow bit
pub yellow_bit : (f : Layout) → get_or (data_bits f) 4 0 ≡ bit_of f.yellow
unfolding behind_count
yellow_bit f = bit_behind f 0

-- a bit behind the yellow one
bit_past : (f : Layout) (k : ℕ) → get_or (data_bits f) (5 + k) 0 ≡ get_or (replicate 19 0 ++ bits_of f.payload) k 0
unfolding behind_count
bit_past f k =
    let e : 4 + suc k ≡ 5 + k = omega arith in
    ap (λ i. get_or (data_bits f) i 0) (sym e) ∙ bit_behind f (suc k)

-- a spare bit
pub spare_bit : (f : Layout) (k : ℕ) → k < 19 → get_or (data_bits f) (5 + k) 0 ≡ 0
spare_bit f k below = bit_past f k ∙ get_or_append_left (replicate 19 0) (bits_of f.payload) 0 k below ∙ get_or-replicate 19 k 0 0 below

-- a bit of the payload
pub payload_bit : (f : Layout) (m : ℕ) → m < 8 * length f.payload → get_or (data_bits f) (24 + m) 0 ≡ line_bit f.payload m
payload_bit f m below =
    let e : 5 + (19 + m) ≡ 24 + m = omega arith in
    let e' : 19 + m - 19 ≡ m = omega arith in
    ap (λ i. get_or (data_bits f) i 0) (sym e) ∙ bit_past f (19 + m)
    ∙ get_or-append_right (replicate 19 0) (bits_of f.payload) 19 (19 + m) 0 (length-replicate {A = ℕ} 19 0) (omega arith)
    ∙ ap (λ i. get_or (bits_of f.payload) i 0) e' ∙ bits_of_at f.payload m below

-- a bit of a truth value is a bit
bit_of-lt : (b : Bool) → bit_of b < 2
bit_of-lt true = lit< tt
bit_of-lt false = lit< tt

-- the data bits are bits
data_bit-lt : (f : Layout) → length f.payload ≡ 12 → (k : ℕ) → get_or (data_bits f) k 0 < 2
data_bit-lt f twelve k =
    elim (cases_lt k 4) [
      | inl count ↦ rw (count_bit f k count) (bit_at-lt f.channels (3 - k))
      | inr behind ↦ elim (cases_eq k 4) [
        | inl yellow ↦ rw (yellow, yellow_bit f) (bit_of-lt f.yellow)
        | inr past ↦ elim (cases_lt k 24) [
          | inl spare ↦
              let e : 5 + (k - 5) ≡ k = omega arith in
              let zero : get_or (data_bits f) k 0 ≡ 0 = rw e at (spare_bit f (k - 5) (omega arith)) in
              omega arith
          | inr far ↦ elim (cases_lt k 120) [
            | inl inside ↦
                let e : 24 + (k - 24) ≡ k = omega arith in
                let at : get_or (data_bits f) k 0 ≡ line_bit f.payload (k - 24) = rw e at (payload_bit f (k - 24) (omega arith)) in
                rw at (bit_at-lt _ _)
            | inr outside ↦ let none : get_or (data_bits f) k 0 ≡ 0 = get_or_past (data_bits f) k 0 (rw (length-data_bits f twelve) outside) in omega arith
          ]
        ]
      ]
    ]

-- there are 256 bits
pub length-frame_bits : (words : HeaderWords) (f : Layout) → length f.payload ≡ 12 → length (frame_bits words f) ≡ 256
length-frame_bits words f twelve =
    let header = length-number_bits 16 (word words f.odd) in
    let pairs : length (pairs_of (data_bits f)) ≡ 240 = length-pairs (data_bits f) ∙ ap (λ n. 2 * n) (length-data_bits f twelve) in
    ap length (frame_bits_by words f) ∙ length-append (number_bits 16 (word words f.odd)) (pairs_of (data_bits f)) ∙ (omega arith)

-- a bit of the header
pub header_bit : (words : HeaderWords) (f : Layout) (i : ℕ) → i < 16
    → get_or (frame_bits words f) i 0 ≡ bit_at (word words f.odd) (16 - 1 - i)
header_bit words f i below =
    let long = length-number_bits 16 (word words f.odd) in
    ap (λ xs. get_or xs i 0) (frame_bits_by words f)
    ∙ get_or_append_left (number_bits 16 (word words f.odd)) (pairs_of (data_bits f)) 0 i (rw long below)
    ∙ get_or-number_bits 16 (word words f.odd) i below

-- a bit behind it
bit_of_pairs : (words : HeaderWords) (f : Layout) (i : ℕ)
    → get_or (frame_bits words f) (16 + i) 0 ≡ get_or (pairs_of (data_bits f)) i 0
bit_of_pairs words f i =
    let e : 16 + i - 16 ≡ i = omega arith in
    ap (λ xs. get_or xs (16 + i) 0) (frame_bits_by words f)
    ∙ get_or-append_right (number_bits 16 (word words f.odd)) (pairs_of (data_bits f)) 16 (16 + i) 0 (length-number_bits 16 (word words f.odd)) (omega arith)
    ∙ ap (λ k. get_or (pairs_of (data_bits f)) k 0) e

-- a data bit
pub sent_data : (words : HeaderWords) (f : Layout) (k : ℕ) → length f.payload ≡ 12 → k < 120
    → data_bit (frame_bits words f) k ≡ get_or (data_bits f) k 0
sent_data words f k twelve below = bit_of_pairs words f (2 * k) ∙ pair_first (data_bits f) k (rw (length-data_bits f twelve) below)

-- its complement
pub sent_complement : (words : HeaderWords) (f : Layout) (k : ℕ) → length f.payload ≡ 12 → k < 120
    → get_or (frame_bits words f) (17 + 2 * k) 0 ≡ 1 - get_or (data_bits f) k 0
sent_complement words f k twelve below =
    let e : 16 + (2 * k + 1) ≡ 17 + 2 * k = omega arith in
    ap (λ i. get_or (frame_bits words f) i 0) (sym e) ∙ bit_of_pairs words f (2 * k + 1)
    ∙ pair_second (data_bits f) k (rw (length-data_bits f twelve) below)

-- both make a pair
sent_pair : (words : HeaderWords) (f : Layout) (k : ℕ) → length f.payload ≡ 12 → k < 120
    → data_bit (frame_bits words f) k + get_or (frame_bits words f) (17 + 2 * k) 0 ≡ 1
sent_pair words f k twelve below =
    let first = sent_data words f k twelve below in
    let second = sent_complement words f k twelve below in
    let small = data_bit-lt f twelve k in
    omega arith

-- each bit is one
sent_bits : (words : HeaderWords) (f : Layout) → length f.payload ≡ 12 → AreBits (frame_bits words f)
sent_bits words f twelve = record {
  each = λ i. elim (cases_lt i 16) [
    | inl header ↦ rw (header_bit words f i header) (bit_at-lt _ _)
    | inr behind ↦ elim (cases_lt i 256) [
      | inl inside ↦ elim (cases_eq (i % 2) 0) [
        | inl even ↦
            let e : 16 + 2 * ((i - 16) / 2) ≡ i = omega arith in
            let pair = sent_pair words f ((i - 16) / 2) twelve (omega arith) in
            let first : get_or (frame_bits words f) (16 + 2 * ((i - 16) / 2)) 0 < 2 = omega arith in
            rw e at first
        | inr odd ↦
            let e : 17 + 2 * ((i - 16) / 2) ≡ i = omega arith in
            let pair = sent_pair words f ((i - 16) / 2) twelve (omega arith) in
            let second : get_or (frame_bits words f) (17 + 2 * ((i - 16) / 2)) 0 < 2 = omega arith in
            rw e at second
      ]
      | inr past ↦ let none : get_or (frame_bits words f) i 0 ≡ 0 = get_or_past (frame_bits words f) i 0 (rw (length-frame_bits words f twelve) past) in omega arith
    ]
  ];
}

-- the header
sent_header : (words : HeaderWords) (f : Layout) → word words f.odd < 65536 → header_of (frame_bits words f) ≡ word words f.odd
sent_header words f small =
    let front = take_at (number_bits 16 (word words f.odd)) (pairs_of (data_bits f)) 16 (length-number_bits 16 (word words f.odd)) in
    let whole : word words f.odd % 2 ^ 16 ≡ word words f.odd = omega arith in
    ap header_of (frame_bits_by words f) ∙ ap number front ∙ number-number_bits 16 (word words f.odd) ∙ whole

-- equal bits make equal numbers
same_four : (a b c d a' b' c' d' : ℕ) → a ≡ a' → b ≡ b' → c ≡ c' → d ≡ d'
    → number (a ∷ b ∷ c ∷ d ∷ []) ≡ number (a' ∷ b' ∷ c' ∷ d' ∷ [])
same_four a b c d a' b' c' d' ea eb ec ed = rw (ea, eb, ec, ed)

-- the count
sent_count : (words : HeaderWords) (f : Layout) → length f.payload ≡ 12 → f.channels ≤ 12
    → count_of (frame_bits words f) ≡ f.channels
sent_count words f twelve few =
    let bit = λ (k : ℕ) (below : k < 4). sent_data words f k twelve (omega arith) ∙ count_bit f k below in
    let small : f.channels % 2 ^ 4 ≡ f.channels = omega arith in
    same_four _ _ _ _ _ _ _ _ (bit 0 (lit< tt)) (bit 1 (lit< tt)) (bit 2 (lit< tt)) (bit 3 (lit< tt))
    ∙ number-number_bits 4 f.channels ∙ small

-- both header words have sixteen bits
pub word-lt : (words : HeaderWords) (odd : Bool) → AreWords words → word words odd < 65536
word-lt words true are = let b = are.b in omega arith
word-lt words false are = let a = are.a in omega arith

-- what is sent for a frame is that frame
pub sent_frame : (words : HeaderWords) (f : Layout) → word words f.odd < 65536 → IsFrame f → FrameOf words (frame_bits words f) f
sent_frame words f small frame =
    let twelve : length f.payload ≡ 12 = frame.twelve in
    let few : f.channels ≤ 12 = frame.few in
    record {
      long = length-frame_bits words f twelve;
      are_bits = sent_bits words f twelve;
      header = sent_header words f small;
      complements = λ k below. sent_pair words f k twelve below;
      count = sent_count words f twelve few;
      yellow = sent_data words f 4 twelve (lit< tt) ∙ yellow_bit f;
      payload = λ m below. sent_data words f (24 + m) twelve (omega arith) ∙ payload_bit f m (omega arith);
    }
