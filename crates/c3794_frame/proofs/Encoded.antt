-- The bytes that are made for a frame have the bits that are sent for it.
use Rattle.std.proofs.Common.{◌≡◌, ◌≢◌, ℕ, ◌+◌, ◌-◌, ◌*◌, ◌/◌, ◌%◌, ◌<◌, ◌≤◌, Bool, true, false, List, ◌∷◌, [], ◌++◌, length, get_or, set, replicate, bit_and, refl, arith, ap, sym, ◌∙◌, inl, inr, lit<, below_more, get_or-set_same, get_or-set_other, length-set}
use Rattle.std.specs.Prelude.{if◌then◌else◌}
use Rattle.std.specs.Int.{bit_at, to_be_bytes, w16}
use Rattle.std.proofs.lemmas.Bool.{cases_lt, cases_eq}
use Rattle.std.proofs.lemmas.List.{ext_get_or, get_or-append_right, get_or-replicate, get_or_append_left}
use Rattle.std.proofs.lemmas.Nat.{and_mask}
use Rattle.std.proofs.lemmas.Nat.Bits.{bit_at-zero, bit_at-pow_other}
use Rattle.ld_base.specs.Bits.{bit_of, byte_bit, line_bit}
use Rattle.ld_base.specs.Words.{HeaderWords}
use Rattle.c3794_frame.specs.FrameOf.{Layout, data_bit, data_bits, frame_bits, word}
use Rattle.c3794_frame.specs.Nibble.{IsLineByte}
use Rattle.c3794_frame.specs.Numbers.{bits_of}
use Rattle.c3794_frame.proofs.Lines.{bit_in, complement_of, data_bit_of, first_bit, high_bit, low_bit, second_bit}
use Rattle.c3794_frame.proofs.Numbers.{length-bits_of}
use Rattle.c3794_frame.proofs.Sent.{count_bit, header_bit, length-frame_bits, payload_bit, sent_complement, sent_data, spare_bit, yellow_bit}
use Rattle.c3794_frame.proofs.Tables.{line_byte_at}

-- the bytes of an encoded frame, its payload as far as n bytes
pub record IsEncodedTo (n : ℕ) (words : HeaderWords) (f : Layout) (payload bytes : List ℕ) : Type 0 where
  pub long : length bytes ≡ 32
  pub first : get_or bytes 0 0 ≡ word words f.odd / 256
  pub second : get_or bytes 1 0 ≡ word words f.odd % 256
  pub count : IsLineByte (get_or bytes 2 0) f.channels
  pub yellow : IsLineByte (get_or bytes 3 0) (8 * bit_of f.yellow)
  pub spare : (a : ℕ) → 4 ≤ a → a < 8 → IsLineByte (get_or bytes a 0) 0
  pub high : (k : ℕ) → k < n → IsLineByte (get_or bytes (8 + 2 * k) 0) (get_or payload k 0 / 16)
  pub low : (k : ℕ) → k < n → IsLineByte (get_or bytes (9 + 2 * k) 0) (get_or payload k 0 % 16)
  pub unused : (a : ℕ) → 8 + 2 * f.channels ≤ a → a < 32 → get_or bytes a 0 ≡ 170

-- the two bytes of the header
pub header_bytes : (bytes : List ℕ) (n w : ℕ) → bytes ≡ to_be_bytes w16 n → n < 65536 → n ≡ w
    → (get_or bytes 0 0 ≡ w / 256) × (get_or bytes 1 0 ≡ w % 256)
header_bytes bytes n w made small e = rw (made, ← e) (omega arith, omega arith)

-- line bytes before the payload, of which four have been made
abbrev start : ℕ → ℕ → ℕ → ℕ → List ℕ
start w m c y = w ∷ m ∷ c ∷ y ∷ replicate 4 85

-- a byte behind the first four
spare_at : (w m c y a : ℕ) → 4 ≤ a → a < 8 → get_or (start w m c y ++ replicate 24 170) a 0 ≡ 85
spare_at w m c y a h below =
    get_or_append_left (start w m c y) (replicate 24 170) 0 a below
    ∙ get_or-append_right (w ∷ m ∷ c ∷ y ∷ []) (replicate 4 85) 4 a 0 refl h
    ∙ get_or-replicate 4 (a - 4) 85 0 (omega arith)

-- a byte of idle payload
idle_at : (w m c y a : ℕ) → 8 ≤ a → a < 32 → get_or (start w m c y ++ replicate 24 170) a 0 ≡ 170
idle_at w m c y a h below = get_or-append_right (start w m c y) (replicate 24 170) 8 a 0 refl h ∙ get_or-replicate 24 (a - 8) 170 0 (omega arith)

-- the line byte of the yellow bit
yellow_byte : (yellow : Bool) (byte : ℕ) → byte ≡ (if yellow then 149 else 85) → IsLineByte byte (8 * bit_of yellow)
yellow_byte true byte e = rw e (line_byte_at 8 (lit< tt))
yellow_byte false byte e = rw e (line_byte_at 0 (lit< tt))

-- before the payload
pub encoded_start : (words : HeaderWords) (f : Layout) (payload bytes : List ℕ) (w m c y : ℕ)
    → bytes ≡ start w m c y ++ replicate 24 170
    → w ≡ word words f.odd / 256 → m ≡ word words f.odd % 256 → IsLineByte c f.channels → y ≡ (if f.yellow then 149 else 85)
    → IsEncodedTo 0 words f payload bytes
encoded_start words f payload bytes w m c y e first second count yellow =
    rw e (record {
      long = refl;
      first = first;
      second = second;
      count = count;
      yellow = yellow_byte f.yellow y yellow;
      spare = λ a h below. rw (spare_at w m c y a h below) (line_byte_at 0 (lit< tt));
      high = λ k below. absurd (omega arith);
      low = λ k below. absurd (omega arith);
      unused = λ a from below. idle_at w m c y a (omega arith) below;
    })

-- what the two bytes of one more byte of payload keep
kept : (bytes : List ℕ) (n x y a : ℕ) → a < 8 + 2 * n
    → get_or (set (set bytes (8 + 2 * n) x) (9 + 2 * n) y) a 0 ≡ get_or bytes a 0
kept bytes n x y a below =
    let ne : a ≢ 9 + 2 * n = omega arith in
    let ne' : a ≢ 8 + 2 * n = omega arith in
    rw (get_or-set_other, get_or-set_other)

-- and behind them
kept_behind : (bytes : List ℕ) (n x y a : ℕ) → 10 + 2 * n ≤ a
    → get_or (set (set bytes (8 + 2 * n) x) (9 + 2 * n) y) a 0 ≡ get_or bytes a 0
kept_behind bytes n x y a behind =
    let ne : a ≢ 9 + 2 * n = omega arith in
    let ne' : a ≢ 8 + 2 * n = omega arith in
    rw (get_or-set_other, get_or-set_other)

-- the first of the two
first_set : (bytes : List ℕ) (n x y : ℕ) → 8 + 2 * n < length bytes
    → get_or (set (set bytes (8 + 2 * n) x) (9 + 2 * n) y) (8 + 2 * n) 0 ≡ x
first_set bytes n x y within =
    let ne : 8 + 2 * n ≢ 9 + 2 * n = omega arith in
    rw (get_or-set_other, get_or-set_same)

-- the second of the two
second_set : (bytes : List ℕ) (n x y : ℕ) → 9 + 2 * n < length bytes
    → get_or (set (set bytes (8 + 2 * n) x) (9 + 2 * n) y) (9 + 2 * n) 0 ≡ y
second_set bytes n x y within =
    let within' : 9 + 2 * n < length (set bytes (8 + 2 * n) x) = rw length-set within in
    rw get_or-set_same

-- one byte of payload more
pub encoded_more : (n : ℕ) (words : HeaderWords) (f : Layout) (payload bytes : List ℕ) (x y : ℕ) → n < f.channels → f.channels ≤ 12
    → IsEncodedTo n words f payload bytes → IsLineByte x (get_or payload n 0 / 16)
    → IsLineByte y (bit_and (get_or payload n 0) 15)
    → IsEncodedTo (n + 1) words f payload (set (set bytes (8 + 2 * n) x) (9 + 2 * n) y)
encoded_more n words f payload bytes x y within few h high low =
    let long : length bytes ≡ 32 = h.long in
    let remainder : bit_and (get_or payload n 0) 15 ≡ get_or payload n 0 % 16 = and_mask (get_or payload n 0) 4 in
    record {
      long = length-set _ _ _ ∙ length-set _ _ _ ∙ long;
      first = kept bytes n x y 0 (omega arith) ∙ h.first;
      second = kept bytes n x y 1 (omega arith) ∙ h.second;
      count = rw (kept bytes n x y 2 (omega arith)) h.count;
      yellow = rw (kept bytes n x y 3 (omega arith)) h.yellow;
      spare = λ a from below. rw (kept bytes n x y a (omega arith)) (h.spare a from below);
      high = below_more _ _
          (λ k below. rw (kept bytes n x y (8 + 2 * k) (omega arith)) (h.high k below))
          (rw (first_set bytes n x y (omega arith)) high);
      low = below_more _ _
          (λ k below. rw (kept bytes n x y (9 + 2 * k) (omega arith)) (h.low k below))
          (rw (second_set bytes n x y (omega arith)) (rw remainder at low));
      unused = λ a from below. rw (kept_behind bytes n x y a (omega arith)) (h.unused a from below);
    }

-- where the payload is idle behind the channels, the rest of it stands there
pub encoded_rest : (words : HeaderWords) (f : Layout) (payload bytes : List ℕ)
    → ((k : ℕ) → f.channels ≤ k → k < 12 → get_or payload k 0 ≡ 255)
    → IsEncodedTo f.channels words f payload bytes → IsEncodedTo 12 words f payload bytes
encoded_rest words f payload bytes idle h = record {
  long = h.long;
  first = h.first;
  second = h.second;
  count = h.count;
  yellow = h.yellow;
  spare = h.spare;
  high = λ k below. elim (cases_lt k f.channels) [
    | inl within ↦ h.high k within
    | inr past ↦ rw (idle k past below, h.unused (8 + 2 * k) (omega arith) (omega arith)) (line_byte_at 15 (lit< tt))
  ];
  low = λ k below. elim (cases_lt k f.channels) [
    | inl within ↦ h.low k within
    | inr past ↦ rw (idle k past below, h.unused (9 + 2 * k) (omega arith) (omega arith)) (line_byte_at 15 (lit< tt))
  ];
  unused = h.unused;
}

-- each byte behind the header is a line byte
encoded_line : (words : HeaderWords) (f : Layout) (payload bytes : List ℕ) → IsEncodedTo 12 words f payload bytes → (a : ℕ)
    → 2 ≤ a → a < 32 → (nibble : ℕ) × IsLineByte (get_or bytes a 0) nibble
encoded_line words f payload bytes h a from below =
    elim (cases_eq a 2) [
      | inl e ↦ rw e (f.channels, h.count)
      | inr ne2 ↦ elim (cases_eq a 3) [
        | inl e ↦ rw e (8 * bit_of f.yellow, h.yellow)
        | inr ne3 ↦ elim (cases_lt a 8) [
          | inl near ↦ (0, h.spare a (omega arith) near)
          | inr far ↦ elim (cases_eq (a % 2) 0) [
            | inl even ↦ let e : a ≡ 8 + 2 * ((a - 8) / 2) = omega arith in rw e (get_or payload ((a - 8) / 2) 0 / 16, h.high ((a - 8) / 2) (omega arith))
            | inr odd ↦ let e : a ≡ 9 + 2 * ((a - 8) / 2) = omega arith in rw e (get_or payload ((a - 8) / 2) 0 % 16, h.low ((a - 8) / 2) (omega arith))
          ]
        ]
      ]
    ]

-- the highest bit of the yellow bit's nibble
yellow_high : (yellow : Bool) → bit_at (8 * bit_of yellow) 3 ≡ bit_of yellow
yellow_high true = refl
yellow_high false = refl

-- its other bits
yellow_low : (yellow : Bool) (i : ℕ) → i < 3 → bit_at (8 * bit_of yellow) i ≡ 0
yellow_low true i below = let ne : i ≢ 3 = omega arith in bit_at-pow_other 3 i ne
yellow_low false i below = bit_at-zero i

-- a data bit of the payload
encoded_payload : (words : HeaderWords) (f : Layout) (bytes : List ℕ) (m : ℕ) → IsEncodedTo 12 words f f.payload bytes → m < 96
    → data_bit (bits_of bytes) (24 + m) ≡ line_bit f.payload m
encoded_payload words f bytes m h below =
    let p : ℕ = get_or f.payload (m / 8) 0 in
    let e : p / 16 * 16 + p % 16 ≡ p = omega arith in
    let place : 8 - 1 - m % 8 ≡ 7 - m % 8 = omega arith in
    let low : p % 16 < 16 = omega arith in
    let same : bit_at (p / 16 * 16 + p % 16) (8 - 1 - m % 8) ≡ byte_bit p (m % 8) = ap (λ n. bit_at n (8 - 1 - m % 8)) e ∙ ap (bit_at p) place in
    elim (cases_lt (m % 8) 4) [
      | inl near ↦
          data_bit_of bytes (24 + m) (8 + 2 * (m / 8)) (m % 8) _ h.long (omega arith) near (omega arith) (h.high (m / 8) (omega arith))
          ∙ first_bit (p / 16) (p % 16) (m % 8) low near ∙ same
      | inr far ↦
          data_bit_of bytes (24 + m) (9 + 2 * (m / 8)) (m % 8 - 4) _ h.long (omega arith) (omega arith) (omega arith) (h.low (m / 8) (omega arith))
          ∙ second_bit (p / 16) (p % 16) (m % 8) far (omega arith) ∙ same
    ]

-- a data bit
encoded_data : (words : HeaderWords) (f : Layout) (bytes : List ℕ) (k : ℕ) → length f.payload ≡ 12
    → IsEncodedTo 12 words f f.payload bytes → k < 120 → data_bit (bits_of bytes) k ≡ get_or (data_bits f) k 0
encoded_data words f bytes k twelve h below =
    elim (cases_lt k 4) [
      | inl count ↦ data_bit_of bytes k 2 k f.channels h.long (omega arith) count below h.count ∙ sym (count_bit f k count)
      | inr behind ↦ elim (cases_eq k 4) [
        | inl e ↦ rw e (data_bit_of bytes 4 3 0 _ h.long refl (lit< tt) (lit< tt) h.yellow ∙ yellow_high f.yellow ∙ sym (yellow_bit f))
        | inr past ↦ elim (cases_lt k 24) [
          | inl spare ↦
              let e : 5 + (k - 5) ≡ k = omega arith in
              let none : get_or (data_bits f) k 0 ≡ 0 = rw e at (spare_bit f (k - 5) (omega arith)) in
              elim (cases_lt k 8) [
                | inl near ↦ data_bit_of bytes k 3 (k - 4) _ h.long (omega arith) (omega arith) below h.yellow ∙ yellow_low f.yellow (3 - (k - 4)) (omega arith) ∙ sym none
                | inr far ↦
                    data_bit_of bytes k (2 + k / 4) (k % 4) 0 h.long (omega arith) (omega arith) below (h.spare (2 + k / 4) (omega arith) (omega arith))
                    ∙ bit_at-zero (3 - k % 4) ∙ sym none
              ]
          | inr far ↦
              let e : 24 + (k - 24) ≡ k = omega arith in
              let all = encoded_payload words f bytes (k - 24) h (omega arith) ∙ sym (payload_bit f (k - 24) (omega arith)) in
              rw e at all
        ]
      ]
    ]

-- a bit of the header
encoded_header : (words : HeaderWords) (f : Layout) (bytes : List ℕ) (i : ℕ) → IsEncodedTo 12 words f f.payload bytes → i < 16
    → get_or (bits_of bytes) i 0 ≡ bit_at (word words f.odd) (16 - 1 - i)
encoded_header words f bytes i h below =
    let w : ℕ = word words f.odd in
    let e : w / 256 * 256 + w % 256 ≡ w = omega arith in
    let small : w % 256 < 256 = omega arith in
    elim (cases_lt i 8) [
      | inl near ↦ bit_in bytes i 0 i h.long (omega arith) near (lit< tt) ∙ ap (λ n. byte_bit n i) h.first ∙ high_bit (w / 256) (w % 256) i small near ∙ ap (λ n. bit_at n (16 - 1 - i)) e
      | inr far ↦
          bit_in bytes i 1 (i - 8) h.long (omega arith) (omega arith) (lit< tt) ∙ ap (λ n. byte_bit n (i - 8)) h.second
          ∙ low_bit (w / 256) (w % 256) i far below
          ∙ ap (λ n. bit_at n (16 - 1 - i)) e
    ]

-- a bit behind it
encoded_behind : (words : HeaderWords) (f : Layout) (bytes : List ℕ) (i : ℕ) → length f.payload ≡ 12
    → IsEncodedTo 12 words f f.payload bytes → 16 ≤ i → i < 256
    → get_or (bits_of bytes) i 0 ≡ get_or (frame_bits words f) i 0
encoded_behind words f bytes i twelve h from below =
    let k : ℕ = (i - 16) / 2 in
    let few : k < 120 = omega arith in
    let same = encoded_data words f bytes k twelve h few in
    elim (cases_eq (i % 2) 0) [
      | inl even ↦
          let e : 16 + 2 * k ≡ i = omega arith in
          let all = same ∙ sym (sent_data words f k twelve few) in
          rw e at all
      | inr odd ↦
          let e : 17 + 2 * k ≡ i = omega arith in
          let line = encoded_line words f f.payload bytes h (2 + k / 4) (omega arith) (omega arith) in
          let pair = complement_of bytes k (2 + k / 4) (k % 4) line.0 h.long (omega arith) (omega arith) few line.1 in
          let second = sent_complement words f k twelve few in
          let all : get_or (bits_of bytes) (17 + 2 * k) 0 ≡ get_or (frame_bits words f) (17 + 2 * k) 0 = omega arith in
          rw e at all
    ]

-- what is encoded has the bits that are sent
pub encoded_bits : (words : HeaderWords) (f : Layout) (payload bytes : List ℕ) → payload ≡ f.payload → length f.payload ≡ 12
    → IsEncodedTo 12 words f payload bytes → bits_of bytes ≡ frame_bits words f
encoded_bits words f payload bytes e twelve encoded =
    let h : IsEncodedTo 12 words f f.payload bytes = rw e at encoded in
    let long : length bytes ≡ 32 = h.long in
    let size : length (bits_of bytes) ≡ 256 = length-bits_of bytes ∙ ap (λ n. 8 * n) long in
    ext_get_or 0 (bits_of bytes) (frame_bits words f) (size ∙ sym (length-frame_bits words f twelve)) (λ i below. elim (cases_lt i 16) [
      | inl header ↦ encoded_header words f bytes i h header ∙ sym (header_bit words f i header)
      | inr behind ↦ encoded_behind words f bytes i twelve h behind (omega arith)
    ])
