-- Slots, one more at the end of them, and what they leave.
use Rattle.std.specs.Prelude.{min}
use Rattle.std.proofs.Common.{◌≡◌, ℕ, zero, suc, ◌+◌, ◌-◌, ◌%◌, ◌≤◌, Bool, true, false, not, eqb, List, [], ◌∷◌, ◌++◌, length, take, drop, map, fold, replicate, Option, Some, None, IsSome, unwrap_or, refl, arith, sym, ap, ◌∙◌, append_assoc, length-append}
use Rattle.std.proofs.Math.Seq.{take-append-add}
use Rattle.std.proofs.lemmas.List.{drop-append-le, drop-drop, drop_min, length-drop, length-replicate, length-take, length-take-le, map-append, nil_from_length, replicate-append-replicate, take-append-drop, take-replicate}
use Rattle.std.proofs.lemmas.Bool.Decides.{nat_tests}
use Rattle.std.proofs.lemmas.List.Sums.{fold-append}
use Rattle.ld_base.specs.Words.{HeaderWords}
use Rattle.c3794_frame.specs.Frame.{filled}
use Rattle.c3794_frame.specs.FrameOf.{Layout, frame_bits}
use Rattle.payload_map.specs.Outlet.{Sender, StandsFor}
use Rattle.payload_map.specs.Sent.{AreInTurn, Slot, left_after, unsent, frame_at, frames_from, frames, sent}

-- how much is left of a message of 36 bytes, which stands in front of others
pub length-left : (before : ℕ) (message : List ℕ) → 36 ≤ length message → length (drop before (take 36 message)) ≡ 36 - before
length-left before message long = length-drop before (take 36 message) ∙ ap (λ k. k - before) (length-take-le 36 message long)

-- some bytes later it is what lies behind those
pub left-later : (before n : ℕ) (message : List ℕ) → 36 ≤ length message
    → drop (min (before + n) 36) (take 36 message) ≡ drop n (drop before (take 36 message))
left-later before n message long =
    let size : 36 ≡ length (take 36 message) = sym (length-take-le 36 message long) in
    ap (λ k. drop (min (before + n) k) (take 36 message)) size ∙ drop_min (before + n) (take 36 message) ∙ sym (drop-drop n before (take 36 message))

-- a header word after so many slots
turned : Bool → ℕ → Bool
turned odd zero = odd
turned odd (suc n) = turned (not odd) n

-- it is word B after an odd count, where word A came first
turned-first : (n : ℕ) → (turned false n ≡ eqb (n % 2) 1) × (turned true n ≡ eqb (n % 2) 0)
unfolding turned
turned-first zero = (refl, refl)
turned-first (suc n) =
    let rest = turned-first n in
    let odd : eqb (n % 2) 0 ≡ eqb (suc n % 2) 1 = grind (arith, nat_tests) in
    let even : eqb (n % 2) 1 ≡ eqb (suc n % 2) 0 = grind (arith, nat_tests) in
    (rest.1 ∙ odd, rest.0 ∙ even)

-- one slot more
frames_from-more : (n : ℕ) (odd : Bool) (left : List ℕ) (slots : List (Slot (List ℕ))) (slot : Slot (List ℕ))
    → frames_from n odd left (slots ++ slot ∷ []) ≡ frames_from n odd left slots ++ frame_at n (turned odd (length slots)) (fold (left_after n) left slots) slot ∷ []
unfolding frames_from turned
frames_from-more n odd left [] slot = refl
frames_from-more n odd left (first ∷ slots) slot = ap (λ fs. frame_at n odd left first ∷ fs) (frames_from-more n (not odd) (left_after n left first) slots slot)

-- from the start on
pub frames-more : (n : ℕ) (slots : List (Slot (List ℕ))) (slot : Slot (List ℕ))
    → frames n (slots ++ slot ∷ []) ≡ frames n slots ++ frame_at n (eqb (length slots % 2) 1) (unsent n slots) slot ∷ []
frames-more n slots slot =
    frames_from-more n false [] slots slot ∙ ap (λ odd. frames n slots ++ frame_at n odd (unsent n slots) slot ∷ []) ((turned-first (length slots)).0)

-- the first bytes of some that were filled up
pub take-filled : (n : ℕ) (bytes : List ℕ) → length bytes ≤ n → n ≤ 12 → take n (filled bytes) ≡ bytes ++ replicate (n - length bytes) 255
take-filled n bytes few most =
    let at : n ≡ length bytes + (n - length bytes) = omega arith in
    ap (λ k. take k (filled bytes)) at
    ∙ take-append-add bytes (replicate (12 - length bytes) 255) (n - length bytes)
    ∙ ap (λ xs. bytes ++ xs) (take-replicate (n - length bytes) (12 - length bytes) 255 (omega arith))

-- the first of joined lists
take-joined : (n : ℕ) (xs ys : List ℕ) → take n (xs ++ ys) ≡ take n xs ++ take (n - length xs) ys
take-joined zero xs ys = let none : 0 - length xs ≡ 0 = omega arith in sym (ap (λ k. take k ys) none)
take-joined (suc n) [] ys = let all : suc n - 0 ≡ suc n = omega arith in sym (ap (λ k. take k ys) all)
take-joined (suc n) (x ∷ xs) ys =
    let rest : n - length xs ≡ suc n - suc (length xs) = omega arith in
    ap (λ zs. x ∷ zs) (take-joined n xs ys) ∙ ap (λ k. x ∷ take n xs ++ take k ys) rest

-- the first of some bytes and of idle ones behind them
take-idle : (idle n : ℕ) (left : List ℕ) → n ≤ idle → n ≤ 12 → take n (left ++ replicate idle 255) ≡ take n (filled (take n left))
take-idle idle n left within most =
    let few : length (take n left) ≤ n = omega (arith, length-take n left) in
    let rest : n - length left ≡ n - length (take n left) = omega (arith, length-take n left) in
    take-joined n left (replicate idle 255)
    ∙ ap (λ xs. take n left ++ xs) (take-replicate (n - length left) idle 255 (omega arith) ∙ ap (λ k. replicate k 255) rest)
    ∙ sym (take-filled n (take n left) few most)

-- are filled up to the same
filled-take : (n : ℕ) (bytes : List ℕ) → length bytes ≤ n → n ≤ 12 → (length (take n (filled bytes)) ≡ n) × (filled (take n (filled bytes)) ≡ filled bytes)
filled-take n bytes few most =
    let idle : List ℕ = replicate (n - length bytes) 255 in
    let front = take-filled n bytes few most in
    let size : length (bytes ++ idle) ≡ n = omega (arith, length-append bytes idle, length-replicate {A = ℕ} (n - length bytes) 255) in
    let all : n - length bytes + (12 - n) ≡ 12 - length bytes = omega arith in
    let same : filled (take n (filled bytes)) ≡ filled (bytes ++ idle) = ap filled front in
    let back : idle ++ replicate (12 - n) 255 ≡ replicate (12 - length bytes) 255 =
    replicate-append-replicate (n - length bytes) (12 - n) 255 ∙ ap (λ k. replicate k 255) all in (
      ap length front ∙ size,
      same
          ∙ ap (λ k. (bytes ++ idle) ++ replicate (12 - k) 255) size
          ∙ append_assoc bytes idle (replicate (12 - n) 255)
          ∙ ap (λ xs. bytes ++ xs) back,
    )

-- a frame of these parts
abbrev pub frame_with : Bool → Bool → ℕ → List ℕ → Layout
frame_with odd yellow channels payload = record { odd = odd; channels = channels; yellow = yellow; payload = payload }

-- the frame that is made of the next bytes
pub frame-made : (n : ℕ) (left bytes : List ℕ) (odd yellow : Bool) → n ≤ 12 → bytes ≡ take n (filled (take n left))
    → frame_with odd yellow (length bytes) (filled bytes) ≡ frame_with odd yellow n (filled (take n left))
frame-made n left bytes odd yellow most made =
    let few : length (take n left) ≤ n = omega (arith, length-take n left) in
    let same = filled-take n (take n left) few most in
    ap (λ xs. frame_with odd yellow (length xs) (filled xs)) made
    ∙ ap (λ k. frame_with odd yellow k (filled (take n (filled (take n left))))) same.0
    ∙ ap (frame_with odd yellow n) same.1

-- the next bytes are those of what is left, and idle ones behind them
pub next-bytes : (n before : ℕ) (message : List ℕ) → n ≤ 12 → before ≤ 36 → length message ≡ 48 → drop 36 message ≡ replicate 12 255
    → take n (drop before message) ≡ take n (filled (take n (drop before (take 36 message))))
next-bytes n before message most within size idle =
    let left : List ℕ = drop before (take 36 message) in
    let whole : length (take 36 message) ≡ 36 = length-take-le 36 message (omega arith) in
    let parts : drop before message ≡ left ++ replicate 12 255 =
    ap (drop before) (sym (take-append-drop 36 message)) ∙ drop-append-le before (take 36 message) (drop 36 message) (omega arith) ∙ ap (λ xs. left ++ xs) idle in
    ap (take n) parts ∙ take-idle 12 n left most most

-- one slot more adds its frame
pub sent-more : (n : ℕ) (words : HeaderWords) (slots : List (Slot (List ℕ))) (loaded : Option (List ℕ)) (sender : Sender) (yellow : Bool)
    → StandsFor sender n words slots loaded
    → sent words n (slots ++ record { loaded = loaded; yellow = yellow } ∷ [])
    ≡ sent words n slots ++ frame_bits sender.words (frame_with sender.odd yellow sender.channels (filled (take sender.channels sender.left))) ∷ []
sent-more n words slots loaded sender yellow h =
    let slot : Slot (List ℕ) = record { loaded = loaded; yellow = yellow } in
    let odd : Bool = eqb (length slots % 2) 1 in
    let made : HeaderWords → ℕ → Bool → List ℕ → List ℕ = λ w k o left. frame_bits w (frame_with o yellow k (filled (take k left))) in
    let same : made sender.words sender.channels sender.odd sender.left ≡ made words n odd (unwrap_or loaded (unsent n slots)) =
    ap (λ w. made w sender.channels sender.odd sender.left) h.words
    ∙ ap (λ k. made words k sender.odd sender.left) h.channels
    ∙ ap (λ o. made words n o sender.left) h.odd
    ∙ ap (made words n odd) h.left in
    ap (map (frame_bits words)) (frames-more n slots slot)
    ∙ map-append (frame_bits words) (frames n slots) (frame_at n odd (unsent n slots) slot ∷ [])
    ∙ ap (λ bits. sent words n slots ++ bits ∷ []) (sym same)

-- one slot more is in turn, where nothing is left before its message
pub in_turn-more : (n : ℕ) (left : List ℕ) (slots : List (Slot (List ℕ))) (slot : Slot (List ℕ)) → AreInTurn n left slots
    → (IsSome slot.loaded → fold (left_after n) left slots ≡ []) → AreInTurn n left (slots ++ slot ∷ [])
in_turn-more n left [] slot turn free = (free, tt)
in_turn-more n left (first ∷ slots) slot turn free = (turn.0, in_turn-more n (left_after n left first) slots slot turn.1 free)

-- nothing is in flight where a message is loaded
free-loaded : (n : ℕ) (slots : List (Slot (List ℕ))) (loaded : Option (List ℕ)) → (IsSome loaded → unsent n slots ≡ [])
    → unwrap_or loaded (unsent n slots) ≡ [] → unsent n slots ≡ []
free-loaded n slots None free none = none
free-loaded n slots (Some bytes) free none = free refl

-- a sender that had nothing left, after a load
pub stands-loaded : (n : ℕ) (words : HeaderWords) (slots : List (Slot (List ℕ))) (loaded : Option (List ℕ)) (sender : Sender) (bytes left : List ℕ)
    → StandsFor sender n words slots loaded → length sender.left ≤ 0 → left ≡ bytes
    → StandsFor (record { channels = sender.channels; words = sender.words; odd = sender.odd; left = left }) n words slots (Some bytes)
stands-loaded n words slots loaded sender bytes left h none e = record {
  channels = h.channels;
  words = h.words;
  odd = h.odd;
  left = e;
  in_turn = h.in_turn;
  free = λ some. free-loaded n slots loaded h.free (sym h.left ∙ nil_from_length sender.left (omega (arith, none)));
}

-- a sender after one slot more
pub stands-more : (n : ℕ) (words : HeaderWords) (slots : List (Slot (List ℕ))) (loaded : Option (List ℕ)) (sender : Sender) (yellow : Bool) (left : List ℕ)
    → StandsFor sender n words slots loaded → left ≡ drop sender.channels sender.left
    → StandsFor (record { channels = sender.channels; words = sender.words; odd = not sender.odd; left = left }) n words (slots ++ record { loaded = loaded; yellow = yellow } ∷ []) None
stands-more n words slots loaded sender yellow left h e =
    let slot : Slot (List ℕ) = record { loaded = loaded; yellow = yellow } in
    let size : length (slots ++ slot ∷ []) ≡ length slots + 1 = length-append slots (slot ∷ []) in
    let turn : not (eqb (length slots % 2) 1) ≡ eqb ((length slots + 1) % 2) 1 = grind (arith, nat_tests) in
    record {
      channels = h.channels;
      words = h.words;
      odd = ap not h.odd ∙ turn ∙ ap (λ k. eqb (k % 2) 1) (sym size);
      left = e ∙ ap (λ k. drop k sender.left) h.channels ∙ ap (drop n) h.left ∙ sym (fold-append (left_after n) [] slots (slot ∷ []));
      in_turn = in_turn-more n [] slots slot h.in_turn h.free;
      free = λ some. absurd (cc);
    }
