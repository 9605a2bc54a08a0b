-- Where 00001111 stands in a stream of frames: only at bits 8 to 15 of one.
use Rattle.std.proofs.Common.{◌≡◌, ℕ, suc, zero, ◌+◌, ◌-◌, ◌*◌, ◌/◌, ◌%◌, ◌<◌, ◌≤◌, Bool, true, false, List, ◌++◌, length, get_or, take, drop, refl, ap, sym, ◌∙◌, inl, inr, arith, length-append, lit<}
use Rattle.std.specs.Int.{bit_at}
use Rattle.std.proofs.lemmas.Bool.{cases_lt}
use Rattle.std.proofs.lemmas.List.{get_or-append_right, get_or-drop, get_or-take, get_or_append_left, length-drop, length-take-le}
use Rattle.std.proofs.lemmas.Nat.Bits.{bit_at_cat_low, bit_at_cat_high, bit_at_ones, bit_at_ones_above}
use Rattle.ld_base.specs.Words.{AreWords, HeaderWords}
use Rattle.c3794_frame.specs.FrameOf.{FrameOf, Layout, header_of, word}
use Rattle.c3794_frame.specs.Numbers.{AreBits, number_bits}
use Rattle.c3794_frame.specs.Stream.{IsStream, WordStands}
use Rattle.c3794_frame.specs.Stream.IsStream.{ends, goes_on}
use Rattle.c3794_frame.proofs.Numbers.{are_append, are_drop, are_take, get_or-number_bits, number_bits-number}

-- each of the first sixteen bits is that of their number
header_at : (bits : List ℕ) (i : ℕ) → AreBits bits → 16 ≤ length bits → i < 16
    → get_or bits i 0 ≡ bit_at (header_of bits) (16 - 1 - i)
header_at bits i are long below =
    let all = number_bits-number (take 16 bits) (are_take 16 bits are) in
    let all' : number_bits 16 (header_of bits) ≡ take 16 bits = rw (length-take-le 16 bits long) at all in
    sym (get_or-take 16 bits i 0 below) ∙ ap (λ xs. get_or xs i 0) (sym all') ∙ get_or-number_bits 16 (header_of bits) i below

-- the bits of a number that begins with a 1 and ends in 00001111
record HeaderBits (w : ℕ) : Type 0 where
  first : bit_at w 15 ≡ 1
  zeros : (j : ℕ) → 4 ≤ j → j < 8 → bit_at w j ≡ 0
  ones : (j : ℕ) → j < 4 → bit_at w j ≡ 1

-- a byte from 128 on makes such a number
header_bits : (x : ℕ) → 128 ≤ x → x < 256 → HeaderBits (x * 256 + 15)
header_bits x low high = record {
  first = bit_at_cat_high x 8 15 15 (omega arith) (omega arith) ∙ (omega arith);
  zeros = λ j l h. bit_at_cat_low x 8 15 j h ∙ bit_at_ones_above 4 j l;
  ones = λ j h. bit_at_cat_low x 8 15 j (omega arith) ∙ bit_at_ones 4 j h;
}

-- both header words are such numbers
word_bits : (words : HeaderWords) (odd : Bool) → AreWords words → HeaderBits (word words odd)
word_bits words true are = header_bits words.b are.b.0 are.b.1
word_bits words false are = header_bits words.a are.a.0 are.a.1

-- the bits of one frame, from its first on, as far as the place of a header needs them
record FrameFacts (b : ℕ → ℕ) : Type 0 where
  first : b 0 ≡ 1
  zeros : (r : ℕ) → 8 ≤ r → r < 12 → b r ≡ 0
  ones : (r : ℕ) → 12 ≤ r → r < 16 → b r ≡ 1
  pairs : (k : ℕ) → k < 120 → b (16 + 2 * k) + b (17 + 2 * k) ≡ 1

-- they hold in each frame
frame_facts : (words : HeaderWords) (bits : List ℕ) (f : Layout) → AreWords words → FrameOf words bits f
    → FrameFacts (λ r. get_or bits r 0)
frame_facts words bits f are frame =
    let w : HeaderBits (word words f.odd) = word_bits words f.odd are in
    let long : length bits ≡ 256 = frame.long in
    let at : (r j : ℕ) → r < 16 → j ≡ 15 - r → get_or bits r 0 ≡ bit_at (word words f.odd) j =
    λ r j h e. header_at bits r frame.are_bits (omega arith) h ∙ ap (λ n. bit_at n (16 - 1 - r)) frame.header ∙ ap (bit_at (word words f.odd)) (omega arith) in
    record {
      first = at 0 15 (omega arith) refl ∙ w.first;
      zeros = λ r l h. at r (15 - r) (omega arith) refl ∙ w.zeros (15 - r) (omega arith) (omega arith);
      ones = λ r l h. at r (15 - r) (omega arith) refl ∙ w.ones (15 - r) (omega arith);
      pairs = λ k h. frame.complements k h;
    }

-- the same 256 bits have the same facts
carry : (b c : ℕ → ℕ) → ((r : ℕ) → r < 256 → c r ≡ b r) → FrameFacts b → FrameFacts c
carry b c same facts = record {
  first = same 0 (omega arith) ∙ facts.first;
  zeros = λ r l h. same r (omega arith) ∙ facts.zeros r l h;
  ones = λ r l h. same r (omega arith) ∙ facts.ones r l h;
  pairs = λ k h.
      let e : c (16 + 2 * k) ≡ b (16 + 2 * k) = same (16 + 2 * k) (omega arith) in
      let g : c (17 + 2 * k) ≡ b (17 + 2 * k) = same (17 + 2 * k) (omega arith) in
      let s : b (16 + 2 * k) + b (17 + 2 * k) ≡ 1 = facts.pairs k h in
      omega arith;
}

-- eight bits 00001111 in a frame, or from its last bit on, stand at its bits 8 to 15
window : (b : ℕ → ℕ) (t : ℕ) → FrameFacts b → t < 256 → (t ≡ 255 → b 256 ≡ 1)
    → ((r : ℕ) → t ≤ r → r < t + 4 → b r ≡ 0) → ((r : ℕ) → t + 4 ≤ r → r < t + 8 → b r ≡ 1) → t ≡ 8
window b t facts within next low high =
    elim (cases_lt t 1) [
      | inl h ↦ absurd (omega (arith, low 0 (omega arith) (omega arith), facts.first))
      | inr h1 ↦ elim (cases_lt t 5) [
        | inl h ↦ absurd (omega (arith, high 8 (omega arith) (omega arith), facts.zeros 8 (omega arith) (omega arith)))
        | inr h5 ↦ elim (cases_lt t 8) [
          | inl h ↦ absurd (omega (arith, high (t + 4) (omega arith) (omega arith), facts.zeros (t + 4) (omega arith) (omega arith)))
          | inr h8 ↦ elim (cases_lt t 9) [
            | inl h ↦ omega arith
            | inr h9 ↦ elim (cases_lt t 13) [
              | inl h ↦ absurd (omega (arith, low 12 (omega arith) (omega arith), facts.ones 12 (omega arith) (omega arith)))
              | inr h13 ↦ elim (cases_lt t 16) [
                | inl h ↦ absurd (omega (arith, low t (omega arith) (omega arith), facts.ones t (omega arith) (omega arith)))
                | inr h16 ↦ elim (cases_lt t 255) [
                  | inl h ↦ absurd (omega (
                    arith,
                    low (16 + 2 * ((t - 15) / 2)) (omega arith) (omega arith),
                    low (17 + 2 * ((t - 15) / 2)) (omega arith) (omega arith),
                    facts.pairs ((t - 15) / 2) (omega arith),
                  ))
                  | inr h255 ↦ absurd (omega (arith, low 256 (omega arith) (omega arith), next (omega arith)))
                ]
              ]
            ]
          ]
        ]
      ]
    ]

-- the first 256 bits of joined bits are those of the first
line_front : (bits rest : List ℕ) (i j : ℕ) → length bits ≡ 256 → i < 256 → j ≡ i → get_or (bits ++ rest) j 0 ≡ get_or bits i 0
line_front bits rest i j size below same = ap (λ (x : ℕ). get_or (bits ++ rest) x 0) same ∙ get_or_append_left bits rest 0 i (omega arith)

-- the bits from 256 on are those of the rest
line_back : (bits rest : List ℕ) (i j : ℕ) → length bits ≡ 256 → j ≡ 256 + i → get_or (bits ++ rest) j 0 ≡ get_or rest i 0
line_back bits rest i j size same =
    let at : j - 256 ≡ i = omega arith in
    get_or-append_right bits rest 256 j 0 size (omega arith) ∙ ap (λ (x : ℕ). get_or rest x 0) at

-- these bits are a count of frames
record InFrames (bits : List ℕ) : Type 0 where
  count : ℕ
  size : length bits ≡ 256 * count
  are_bits : AreBits bits
  frames : (q : ℕ) → q < count → FrameFacts (λ r. get_or bits (q * 256 + r) 0)

-- a frame before frames
joined_frames : (bits rest : List ℕ) (n : ℕ) → length bits ≡ 256 → FrameFacts (λ r. get_or bits r 0)
    → ((q : ℕ) → q < n → FrameFacts (λ r. get_or rest (q * 256 + r) 0))
    → (q : ℕ) → q < suc n → FrameFacts (λ r. get_or (bits ++ rest) (q * 256 + r) 0)
joined_frames bits rest n size first more zero h =
    carry (λ r. get_or bits r 0) (λ r. get_or (bits ++ rest) (0 * 256 + r) 0) (λ r l. line_front bits rest r (0 * 256 + r) size l (omega arith)) first
joined_frames bits rest n size first more (suc q) h =
    carry (λ r. get_or rest (q * 256 + r) 0) (λ r. get_or (bits ++ rest) (suc q * 256 + r) 0)
    (λ r l. line_back bits rest (q * 256 + r) (suc q * 256 + r) size (omega arith)) (more q (omega arith))

-- a stream is a count of frames
stream_frames : {words : HeaderWords} {odd : Bool} {bits : List ℕ} → AreWords words → IsStream words odd bits → InFrames bits
stream_frames are (ends odd) = record { count = 0; size = refl; are_bits = record { each = λ i. lit< tt }; frames = λ q h. absurd (omega arith) }
stream_frames are (goes_on odd bits rest f same frame more) =
    let r : InFrames rest = stream_frames are more in
    let size : length bits ≡ 256 = frame.long in
    record {
      count = suc r.count;
      size = omega (arith, length-append bits rest, r.size);
      are_bits = are_append bits rest frame.are_bits r.are_bits;
      frames = λ q h. joined_frames bits rest r.count size (frame_facts _ bits f are frame) (λ k l. r.frames k l) q h;
    }

-- in a stream a header word of bytes from 128 on stands only where a frame begins
pub word_at_frame : (words : HeaderWords) (odd which : Bool) (bits : List ℕ) (p : ℕ) → AreWords words
    → IsStream words odd bits → WordStands words bits p which → p % 256 ≡ 0
word_at_frame words odd which bits p are stream stands =
    let r : InFrames bits = stream_frames are stream in
    let w : HeaderBits (word words which) = word_bits words which are in
    let n : ℕ = r.count in
    let long : p + 16 ≤ length bits = stands.within in
    let sized : length bits ≡ 256 * n = r.size in
    let behind : 16 ≤ length (drop p bits) = omega (arith, length-drop p bits) in
    let q : ℕ = (p + 8) / 256 in
    let t : ℕ = (p + 8) % 256 in
    let at : (k i : ℕ) → k ≡ p + i → i < 16 → get_or bits k 0 ≡ bit_at (word words which) (15 - i) =
    λ k i e h. ap (λ (x : ℕ). get_or bits x 0) e ∙ sym (get_or-drop p bits i 0)
    ∙ header_at (drop p bits) i (are_drop p bits r.are_bits) behind h
    ∙ ap (λ (x : ℕ). bit_at x (16 - 1 - i)) stands.there ∙ ap (bit_at (word words which)) (omega arith) in
    let low = λ (k : ℕ) (l : t ≤ k) (h : k < t + 4).
    at (q * 256 + k) (q * 256 + k - p) (omega arith) (omega arith) ∙ w.zeros (15 - (q * 256 + k - p)) (omega arith) (omega arith) in
    let high = λ (k : ℕ) (l : t + 4 ≤ k) (h : k < t + 8).
    at (q * 256 + k) (q * 256 + k - p) (omega arith) (omega arith) ∙ w.ones (15 - (q * 256 + k - p)) (omega arith) in
    let eight : t ≡ 8 = window (λ r. get_or bits (q * 256 + r) 0) t (r.frames q (omega arith)) (omega arith)
    (λ e. ap (λ (x : ℕ). get_or bits x 0) (omega arith) ∙ (r.frames (q + 1) (omega arith)).first) low high in
    omega arith
