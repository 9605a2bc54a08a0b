-- Acts in turn, and the chunks that they leave of a frame.
use Rattle.std.proofs.Common.{◌≡◌, ◌≢◌, ℕ, ◌+◌, ◌-◌, ◌<◌, ◌≤◌, min, false, List, [], ◌∷◌, ◌++◌, length, map, fold, take, drop, get_or, slice_index, slice_set, Option, Some, None, unwrap_or, SomeIff, arith, sym, ap, ◌∙◌, refl, append_assoc, length-drop}
use Rattle.std.specs.List.{list_any}
use Rattle.std.specs.Option.{UnwrapsOrElse}
use Rattle.std.proofs.lemmas.Bool.Decides.{nat_tests}
use Rattle.std.proofs.lemmas.List.{map-append, take_more, take_all, drop_min, drop-drop}
use Rattle.std.proofs.lemmas.List.Sums.{fold_more}
use Rattle.ld_base.specs.Bits.{line_bits}
use Rattle.ld_base.specs.Packing.{length-line_bits}
use Rattle.ld_base.specs.Script.{Due, chunks_of, cut_at, cut_of, damaged, flipped, is_loss, repeats, slip_of}
use Rattle.ld_base.specs.declared.rule.Act.{Act}
use Rattle.ld_base.specs.declared.rule.Act.TheVariants as act
use Rattle.script_wire.specs.Wires.{due_of}

-- an option that is there gives its value
pub unwrapped : {P : Type 0} (Q : List ℕ → Type 0) (o : Option (List ℕ)) (bits result : List ℕ) → P → SomeIff o P bits → UnwrapsOrElse o Q result → result ≡ bits
unwrapped Q None bits result holds iff is = absurd (iff holds)
unwrapped Q (Some x) bits result holds iff is = is ∙ iff.1

-- bits after one flip more
pub flip_more : (acts : List Act) (i bit : ℕ) (start now new : List ℕ) → i < length acts → get_or acts i (act.Delay 0) ≡ act.Flip bit
    → now ≡ fold flipped start (take i acts) → new ≡ slice_set now bit (1 - slice_index now bit) → new ≡ fold flipped start (take (i + 1) acts)
flip_more acts i bit start now new h is so_far one =
    one ∙ ap (λ (x : Act). flipped now x) (sym is) ∙ ap (λ (bits : List ℕ). flipped bits (get_or acts i (act.Delay 0))) so_far
    ∙ sym (fold_more flipped start acts i (act.Delay 0) h)

-- an act that is no flip leaves the bits
no_flip : (x : Act) (bits : List ℕ) → ((bit : ℕ) → x ≡ act.Flip bit → ⊥) → flipped bits x ≡ bits
no_flip (act.Delay n) bits other = refl
no_flip act.Lose bits other = refl
no_flip (act.Flip n) bits other = absurd (other n refl)
no_flip (act.Repeat n) bits other = refl
no_flip (act.Cut n) bits other = refl
no_flip (act.Slip n) bits other = refl
no_flip act.FailSend bits other = refl
no_flip act.FailTake bits other = refl

-- bits after one other act
pub no_flip_more : (acts : List Act) (i : ℕ) (start now : List ℕ) → i < length acts → ((bit : ℕ) → get_or acts i (act.Delay 0) ≡ act.Flip bit → ⊥)
    → now ≡ fold flipped start (take i acts) → now ≡ fold flipped start (take (i + 1) acts)
no_flip_more acts i start now h other so_far =
    sym (no_flip (get_or acts i (act.Delay 0)) now other) ∙ ap (λ (bits : List ℕ). flipped bits (get_or acts i (act.Delay 0))) so_far
    ∙ sym (fold_more flipped start acts i (act.Delay 0) h)

-- repeats of acts that are joined are joined
repeats-append : (xs ys : List Act) (due : ℕ) (bits : List ℕ) → repeats (xs ++ ys) due bits ≡ repeats xs due bits ++ repeats ys due bits
repeats-append [] ys due bits = refl
repeats-append (act.Delay n ∷ xs) ys due bits = repeats-append xs ys due bits
repeats-append (act.Lose ∷ xs) ys due bits = repeats-append xs ys due bits
repeats-append (act.Flip n ∷ xs) ys due bits = repeats-append xs ys due bits
repeats-append (act.Repeat n ∷ xs) ys due bits = ap (λ (rest : List Due). record { due = due + n; bits = bits } ∷ rest) (repeats-append xs ys due bits)
repeats-append (act.Cut n ∷ xs) ys due bits = repeats-append xs ys due bits
repeats-append (act.Slip n ∷ xs) ys due bits = repeats-append xs ys due bits
repeats-append (act.FailSend ∷ xs) ys due bits = repeats-append xs ys due bits
repeats-append (act.FailTake ∷ xs) ys due bits = repeats-append xs ys due bits

-- an act that is no repeat adds none
no_repeat : (x : Act) (due : ℕ) (bits : List ℕ) → ((n : ℕ) → x ≡ act.Repeat n → ⊥) → repeats (x ∷ []) due bits ≡ []
no_repeat (act.Delay n) due bits other = refl
no_repeat act.Lose due bits other = refl
no_repeat (act.Flip n) due bits other = refl
no_repeat (act.Repeat n) due bits other = absurd (other n refl)
no_repeat (act.Cut n) due bits other = refl
no_repeat (act.Slip n) due bits other = refl
no_repeat act.FailSend due bits other = refl
no_repeat act.FailTake due bits other = refl

-- the repeats of one act more
pub repeats_more : (acts : List Act) (i due : ℕ) (bits : List ℕ) → i < length acts
    → repeats (take (i + 1) acts) due bits ≡ repeats (take i acts) due bits ++ repeats (get_or acts i (act.Delay 0) ∷ []) due bits
repeats_more acts i due bits h =
    ap (λ (xs : List Act). repeats xs due bits) (take_more acts i (act.Delay 0) h) ∙ repeats-append (take i acts) (get_or acts i (act.Delay 0) ∷ []) due bits

-- where it is a repeat
pub repeat_more : (acts : List Act) (i extra due : ℕ) (bits : List ℕ) → i < length acts → get_or acts i (act.Delay 0) ≡ act.Repeat extra
    → repeats (take (i + 1) acts) due bits ≡ repeats (take i acts) due bits ++ record { due = due + extra; bits = bits } ∷ []
repeat_more acts i extra due bits h is =
    repeats_more acts i due bits h ∙ ap (λ (x : Act). repeats (take i acts) due bits ++ repeats (x ∷ []) due bits) is

-- and where it isn't
pub no_repeat_more : (acts : List Act) (i due : ℕ) (bits : List ℕ) → i < length acts → ((n : ℕ) → get_or acts i (act.Delay 0) ≡ act.Repeat n → ⊥)
    → repeats (take (i + 1) acts) due bits ≡ repeats (take i acts) due bits ++ []
no_repeat_more acts i due bits h other =
    repeats_more acts i due bits h ∙ ap (λ (rest : List Due). repeats (take i acts) due bits ++ rest) (no_repeat (get_or acts i (act.Delay 0)) due bits other)

-- a chunk is added at the end
pub added : (chunks new : List (ℕ × List ℕ)) (due : ℕ) (bits : List ℕ) → new ≡ chunks ++ (due, bits) ∷ []
    → map due_of new ≡ map due_of chunks ++ record { due = due; bits = bits } ∷ []
added chunks new due bits e = ap (λ (all : List (ℕ × List ℕ)). map due_of all) e ∙ map-append due_of chunks ((due, bits) ∷ [])

-- the rest of a line from a place on
pub rest_of : (frame : List ℕ) (from count : ℕ) → from + count ≡ 256 → take count (drop from (line_bits 256 frame)) ≡ drop from (line_bits 256 frame)
rest_of frame from count h =
    take_all count (drop from (line_bits 256 frame)) (omega (arith, length-drop from (line_bits 256 frame), length-line_bits 256 frame))

-- the first chunk, and the second one
module _ (due left count : ℕ) (bits : List ℕ) (long : length bits ≡ left) where
  pub cut_not : (cut : Option ℕ) → count ≡ min (unwrap_or cut left) left → count ≡ left
      → cut_at cut due bits ≡ record { due = due; bits = take count bits } ∷ []
  cut_not None is all = ap (λ (b : List ℕ). record { due = due; bits = b } ∷ []) (sym (take_all count bits (omega arith)))
  cut_not (Some n) is all =
      let far : length bits ≤ n = omega arith in
      let whole = take_all count bits (omega arith) in
      grind (arith, nat_tests, far, whole)

  pub cut_short : (cut : Option ℕ) → count ≡ min (unwrap_or cut left) left → count ≢ left
      → cut_at cut due bits ≡ record { due = due; bits = take count bits } ∷ record { due = due + 1; bits = drop count bits } ∷ []
  cut_short None is apart = absurd (omega arith)
  cut_short (Some n) is apart =
      let near : n < length bits = omega arith in
      let same : count ≡ n = omega arith in
      grind (arith, nat_tests, near, same)

-- the chunks that are added first
module _ (frame : List ℕ) (due slip count : ℕ) (cut : Option ℕ) (chunks one : List (ℕ × List ℕ)) (front : List ℕ)
    (few : slip ≤ 256) (is : count ≡ min (unwrap_or cut (256 - slip)) (256 - slip))
    (in_front : front ≡ take count (drop slip (line_bits 256 frame))) (first : one ≡ chunks ++ (due, front) ∷ []) where
  abbrev bits : List ℕ
  bits = drop slip (line_bits 256 frame)

  long : length bits ≡ 256 - slip
  long = omega (arith, length-drop slip (line_bits 256 frame), length-line_bits 256 frame)

  pub one_added : count ≡ 256 - slip → map due_of one ≡ map due_of chunks ++ cut_at cut due bits
  one_added all =
      added chunks one due front first
      ∙ ap (λ (b : List ℕ). map due_of chunks ++ record { due = due; bits = b } ∷ []) in_front
      ∙ ap (λ (rest : List Due). map due_of chunks ++ rest) (sym (cut_not due (256 - slip) count bits long cut is all))

  pub two_added : (two : List (ℕ × List ℕ)) (back : List ℕ) → count ≢ 256 - slip → back ≡ take (256 - slip - count) (drop (slip + count) (line_bits 256 frame))
      → two ≡ one ++ (due + 1, back) ∷ [] → map due_of two ≡ map due_of chunks ++ cut_at cut due bits
  two_added two back apart behind second =
      let rest : back ≡ drop count bits =
      behind ∙ rest_of frame (slip + count) (256 - slip - count) (omega arith) ∙ sym (drop-drop count slip (line_bits 256 frame)) in
      added one two (due + 1) back second
      ∙ ap (λ (all : List Due). all ++ record { due = due + 1; bits = back } ∷ []) (added chunks one due front first)
      ∙ append_assoc (map due_of chunks) (record { due = due; bits = front } ∷ []) (record { due = due + 1; bits = back } ∷ [])
      ∙ ap (λ (b : List ℕ). map due_of chunks ++ record { due = due; bits = b } ∷ record { due = due + 1; bits = back } ∷ []) in_front
      ∙ ap (λ (b : List ℕ). map due_of chunks ++ record { due = due; bits = take count bits } ∷ record { due = due + 1; bits = b } ∷ []) rest
      ∙ ap (λ (all : List Due). map due_of chunks ++ all) (sym (cut_short due (256 - slip) count bits long cut is apart))

-- all chunks of a frame that isn't lost
pub all_chunks : (acts : List Act) (due slip : ℕ) (bits : List ℕ) (frame repeated : List ℕ) (first all : List Due)
    → list_any is_loss acts ≡ false → line_bits 256 frame ≡ fold flipped bits acts → slip ≡ min (slip_of acts) 256
    → repeated ≡ take (256 - slip) (drop slip (line_bits 256 frame)) → first ≡ [] ++ cut_at (cut_of acts) due (drop slip (line_bits 256 frame))
    → all ≡ first ++ repeats acts due repeated → all ≡ chunks_of acts due bits
all_chunks acts due slip bits frame repeated first all kept flips is_slip is_repeated is_first is_all =
    let long : length (line_bits 256 frame) ≡ 256 = length-line_bits 256 frame in
    let whole : repeated ≡ drop slip (line_bits 256 frame) = is_repeated ∙ rest_of frame slip (256 - slip) (omega arith) in
    let slipped : drop slip (line_bits 256 frame) ≡ damaged acts bits =
    ap (λ (n : ℕ). drop n (line_bits 256 frame)) (is_slip ∙ ap (λ (n : ℕ). min (slip_of acts) n) (sym long))
    ∙ drop_min (slip_of acts) (line_bits 256 frame) ∙ ap (λ (b : List ℕ). drop (slip_of acts) b) flips in
    is_all ∙ ap (λ (b : List ℕ). first ++ repeats acts due b) (whole ∙ slipped)
    ∙ ap (λ (f : List Due). f ++ repeats acts due (damaged acts bits)) (is_first ∙ ap (λ (b : List ℕ). cut_at (cut_of acts) due b) slipped)
    ∙ (rw kept refl)
