-- Over an undamaged line all frames but the first are read.
use Rattle.std.proofs.Common.{◌≡◌, ℕ, zero, suc, ◌+◌, ◌-◌, ◌*◌, ◌/◌, ◌<◌, ◌≤◌, Bool, true, false, not, eqb, List, [], ◌∷◌, ◌++◌, length, take, drop, map, get_or, None, Some, Ok, refl, arith, ap, lit≤, sym, ◌∙◌, inl, inr, length-append}
use Rattle.std.proofs.lemmas.Bool.{cases_lt, eq-eqb}
use Rattle.std.proofs.lemmas.List.{append-nil, drop-drop, drop-take, drop_at, get_or-drop, length-drop, length-take-le, map-append, take-append-drop, take-append-le, take-take, take_all, take_more}
use Rattle.ld_base.specs.Words.{AreWords, HeaderWords}
use Rattle.c3794_frame.specs.Frame.{IsFrame}
use Rattle.c3794_frame.specs.FrameOf.{Layout, frame_bits, header_of, word}
use Rattle.c3794_frame.specs.Numbers.{number}
use Rattle.c3794_frame.specs.Reading.{read_frame}
use Rattle.c3794_frame.proofs.Pairs.{unlike}
use Rattle.c3794_frame.proofs.Readings.{frame_read}
use Rattle.c3794_frame.proofs.Sent.{length-frame_bits, sent_frame, word-lt}
use Rattle.bit_sync.specs.Frames.{Reading, Rules, are_both, as_got, frame_judged, frames, got, got_if, gots, missed_after, onward}
use Rattle.bit_sync.specs.Frames.Event.{locks, ends}
use Rattle.bit_sync.specs.Frames.Place.{hunts, locked}
use Rattle.bit_sync.specs.Undamaged.{AreSent, sent_bits}
use Rattle.bit_sync.specs.declared.told.Got.{Got}
use Rattle.bit_sync.specs.declared.told.Got.TheVariants.{Good}
use Rattle.bit_sync.proofs.Fills.{nothing_read}
use Rattle.bit_sync.proofs.Gains.{unmissed}
use Rattle.bit_sync.proofs.Hunts.{gots-append}
use Rattle.bit_sync.proofs.Locks.{lock_is, no_lock}
use Rattle.bit_sync.proofs.Walks.{frames_stay, frames_step, hunts_on, step_frame, step_locks}

-- the header word after so many frames
flips : ℕ → Bool → Bool
flips zero odd = odd
flips (suc i) odd = flips i (not odd)

-- one frame more
flips_more : (i : ℕ) (odd : Bool) → flips (suc i) odd ≡ not (flips i odd)
unfolding flips
flips_more zero odd = refl
flips_more (suc i) odd = flips_more i (not odd)

-- what is known of each frame
record IsSent (channels : ℕ) (odd : Bool) (f : Layout) : Type 0 where
  frame : IsFrame f
  count : f.channels ≡ channels
  word : f.odd ≡ odd

-- each of the frames
sent_at : (channels : ℕ) (odd : Bool) (sent : List Layout) (d : Layout) (i : ℕ) → AreSent channels odd sent → i < length sent
    → IsSent channels (flips i odd) (get_or sent i d)
unfolding flips
sent_at channels odd [] d i are within = absurd (omega arith)
sent_at channels odd (f ∷ sent) d zero are within = record { frame = are.0; count = are.1; word = are.2 }
sent_at channels odd (f ∷ sent) d (suc i) are within = sent_at channels (not odd) sent d i are.3 (omega arith)

-- the bits from a frame on
from_frame : (words : HeaderWords) (channels : ℕ) (odd : Bool) (sent : List Layout) (d : Layout) (i : ℕ)
    → AreSent channels odd sent → i < length sent
    → (rest : List ℕ) × (drop (256 * i) (sent_bits words sent) ≡ frame_bits words (get_or sent i d) ++ rest)
from_frame words channels odd [] d i are within = absurd (omega arith)
from_frame words channels odd (f ∷ sent) d zero are within = (sent_bits words sent, refl)
from_frame words channels odd (f ∷ sent) d (suc i) are within =
    let rest = from_frame words channels (not odd) sent d i are.3 (omega arith) in
    let e : 256 * suc i ≡ 256 + 256 * i = omega arith in
    let long = length-frame_bits words f are.0.twelve in
    let front = drop_at (frame_bits words f) (sent_bits words sent) 256 long in
    (rest.0, ap (λ n. drop n (sent_bits words (f ∷ sent))) e ∙ sym (drop-drop (256 * i) 256 (sent_bits words (f ∷ sent))) ∙ ap (drop (256 * i)) front ∙ rest.1)

-- all bits
length-sent_bits : (words : HeaderWords) (channels : ℕ) (odd : Bool) (sent : List Layout) → AreSent channels odd sent
    → length (sent_bits words sent) ≡ 256 * length sent
length-sent_bits words channels odd [] are = refl
length-sent_bits words channels odd (f ∷ sent) are =
    let rest = length-sent_bits words channels (not odd) sent are.3 in
    let long = length-frame_bits words f are.0.twelve in
    omega (arith, length-append (frame_bits words f) (sent_bits words sent))

-- the first bits of a frame on a line that has them
on_line : (words : HeaderWords) (channels : ℕ) (odd : Bool) (sent : List Layout) (d : Layout) (i k n : ℕ)
    → AreSent channels odd sent → i < length sent → k ≤ 256 → 256 * i + k ≤ n
    → take k (drop (256 * i) (take n (sent_bits words sent))) ≡ take k (frame_bits words (get_or sent i d))
on_line words channels odd sent d i k n are within few there =
    let bits : List ℕ = sent_bits words sent in
    let m : ℕ = n - 256 * i in
    let whole : 256 * i + m ≡ n = omega arith in
    let from = from_frame words channels odd sent d i are within in
    let long = length-frame_bits words (get_or sent i d) (sent_at channels odd sent d i are within).frame.twelve in
    ap (λ j. take k (drop (256 * i) (take j bits))) (sym whole) ∙ ap (take k) (drop-take (256 * i) m bits)
    ∙ take-take k m (drop (256 * i) bits) (omega arith)
    ∙ ap (take k) from.1 ∙ take-append-le k (frame_bits words (get_or sent i d)) from.0 (omega arith)

-- the header of a frame on a line
header_on_line : (words : HeaderWords) (channels : ℕ) (odd : Bool) (sent : List Layout) (d : Layout) (i n : ℕ) → AreWords words
    → AreSent channels odd sent → i < length sent → 256 * i + 16 ≤ n
    → header_of (drop (256 * i) (take n (sent_bits words sent))) ≡ word words (flips i odd)
header_on_line words channels odd sent d i n are_words are within there =
    let f : Layout = get_or sent i d in
    let is = sent_at channels odd sent d i are within in
    let frame = sent_frame words f (word-lt words f.odd are_words) is.frame in
    ap number (on_line words channels odd sent d i 16 n are within (lit≤ tt) there) ∙ frame.header
    ∙ ap (λ o. word words o) is.word

-- the other word's number is another
word_test : (words : HeaderWords) (a : Bool) → AreWords words → eqb (word words a) (word words true) ≡ a
word_test words true are = eq-eqb (word words true) (word words true) refl
word_test words false are = unlike (word words false) (word words true) (λ e. are.differ (omega arith))

-- the same for word A
word_test_a : (words : HeaderWords) (a : Bool) → AreWords words → eqb (word words a) (word words false) ≡ not a
word_test_a words true are = unlike (word words true) (word words false) (λ e. are.differ (omega arith))
word_test_a words false are = eq-eqb (word words false) (word words false) refl

-- a word and the other are both
both_words : (words : HeaderWords) (odd : Bool) → AreWords words → are_both words (word words odd) (word words (not odd)) ≡ true
both_words words true are = rw (word_test words true are, word_test_a words false are) refl
both_words words false are = rw (word_test words false are, word_test_a words false are, word_test words true are) refl

-- the line: so many bits of the frames
line_of : HeaderWords → List Layout → ℕ → List ℕ
line_of words sent n = take n (sent_bits words sent)

-- a line of sent frames
record Sent (r : Rules) (odd : Bool) (sent : List Layout) (n : ℕ) : Type 0 where
  words : AreWords r.words
  misses : 1 ≤ r.misses
  are : AreSent r.channels odd sent
  within : n ≤ 256 * length sent

-- its length
length-line : (r : Rules) (odd : Bool) (sent : List Layout) (n : ℕ) → Sent r odd sent n → length (line_of r.words sent n) ≡ n
unfolding line_of
length-line r odd sent n line =
    let all = length-sent_bits r.words r.channels odd sent line.are in
    let within : n ≤ 256 * length sent = line.within in
    length-take-le n (sent_bits r.words sent) (omega arith)

-- what is read of it
record Read (r : Rules) (odd : Bool) (sent : List Layout) (n : ℕ) : Type 0 where
  events : gots (frames r (line_of r.words sent n)).events ≡ map (λ f. Good f) (take (n / 256 - 1) (drop 1 sent))
  place : (frames r (line_of r.words sent n)).place ≡ locked (256 * (n / 256)) (flips (n / 256) odd) 0

-- the header of a frame on it
header_at : (r : Rules) (odd : Bool) (sent : List Layout) (d : Layout) (i n : ℕ) → Sent r odd sent n → 256 * i + 16 ≤ n
    → header_of (drop (256 * i) (line_of r.words sent n)) ≡ word r.words (flips i odd)
unfolding line_of
header_at r odd sent d i n line there =
    let within : n ≤ 256 * length sent = line.within in
    header_on_line r.words r.channels odd sent d i n line.words line.are (omega arith) there

-- the lock is made with the first two frames
first_lock : (r : Rules) (odd : Bool) (sent : List Layout) (d : Layout) (n : ℕ) → Sent r odd sent n → 272 ≤ n → n < 512
    → Read r odd sent n
unfolding flips
first_lock r odd sent d n line some few =
    let bits : List ℕ = line_of r.words sent n in
    let long : length bits ≡ n = length-line r odd sent n line in
    let first : header_of bits ≡ word r.words odd = header_at r odd sent d 0 n line (omega arith) in
    let second : header_of (drop 256 bits) ≡ word r.words (not odd) = header_at r odd sent d 1 n line (omega arith) in
    let lock = lock_is r.words bits 0 0 (record {
      from = omega arith;
      whole = omega arith;
      there = rw (first, second) (both_words r.words odd line.words);
      before = λ q from below. absurd (omega arith);
    }) in
    let step : onward r bits (hunts 0) ≡ Some (record { events = locks 272 ∷ []; place = locked 256 (eqb (header_of (drop 256 bits)) (word r.words true)) 0 }) = step_locks r bits 0 0 lock in
    let step' : onward r bits (frames r []).place
    ≡ Some (record { events = locks 272 ∷ []; place = locked 256 (eqb (header_of (drop 256 bits)) (word r.words true)) 0 }) =
    rw (nothing_read r) step in
    let reading = frames_step r [] bits _ step' (omega arith) in
    let one : n / 256 ≡ 1 = omega arith in
    let which : eqb (header_of (drop 256 bits)) (word r.words true) ≡ not odd = ap (λ h. eqb h (word r.words true)) second ∙ word_test r.words (not odd) line.words in
    let before : gots (frames r []).events ≡ [] = ap (λ (s : Reading). gots s.events) (nothing_read r) in
    record {
      events = ap (λ (s : Reading). gots s.events) reading ∙ gots-append (frames r []).events (locks 272 ∷ []) ∙ append-nil _
          ∙ before ∙ sym (ap (λ q. map (λ f. Good f) (take (q - 1) (drop 1 sent))) one);
      place = ap (λ (s : Reading). s.place) reading ∙ ap (λ o. locked 256 o 0) which
          ∙ sym (ap (λ q. locked (256 * q) (flips q odd) 0) one);
    }

-- a frame as it is sent is read where its word is expected
good_frame : (r : Rules) (f : Layout) (expected : Bool) → AreWords r.words → IsSent r.channels expected f
    → got r expected (frame_bits r.words f) ≡ Good f
good_frame r f expected are is =
    let frame = sent_frame r.words f (word-lt r.words f.odd are) is.frame in
    let header : header_of (frame_bits r.words f) ≡ word r.words expected = frame.header ∙ ap (λ o. word r.words o) is.word in
    let passes : eqb (header_of (frame_bits r.words f)) (word r.words expected) ≡ true = eq-eqb _ _ header in
    let read : read_frame r.words r.channels (frame_bits r.words f) ≡ Ok f =
    ap (λ n. read_frame r.words n (frame_bits r.words f)) (sym is.count) ∙ frame_read r.words f (frame_bits r.words f) are is.frame frame in
    ap (λ t. got_if t r.words r.channels (frame_bits r.words f)) passes ∙ ap as_got read

-- and is no miss
no_miss : (r : Rules) (f : Layout) (expected : Bool) (missed : ℕ) → AreWords r.words → IsSent r.channels expected f
    → missed_after r expected (frame_bits r.words f) missed ≡ 0
no_miss r f expected missed are is =
    let frame = sent_frame r.words f (word-lt r.words f.odd are) is.frame in
    let header : header_of (frame_bits r.words f) ≡ word r.words expected = frame.header ∙ ap (λ o. word r.words o) is.word in
    rw (eq-eqb _ _ header)

-- what comes with a frame as it is sent
frame_comes : (r : Rules) (f : Layout) (at : ℕ) (expected : Bool) → AreWords r.words → 1 ≤ r.misses → IsSent r.channels expected f
    → frame_judged r at expected 0 (frame_bits r.words f) ≡ record { events = ends (at + 256) (Good f) ∷ []; place = locked (at + 256) (not expected) 0 }
frame_comes r f at expected are misses is =
    rw (good_frame r f expected are is, no_miss r f expected 0 are is, unmissed r.misses misses) refl

-- one frame more
more_frames : (r : Rules) (odd : Bool) (sent : List Layout) (d : Layout) (p n : ℕ) → Sent r odd sent n → n / 256 ≡ suc (suc p)
    → Read r odd sent (256 * suc p + 16) → Read r odd sent n
unfolding line_of
more_frames r odd sent d p n line count before =
    let at : ℕ = 256 * suc p in
    let bits : List ℕ = take n (sent_bits r.words sent) in
    let short : List ℕ = take (at + 16) (sent_bits r.words sent) in
    let rest : List ℕ = drop (at + 16) bits in
    let i : ℕ = suc p in
    let f : Layout = get_or sent i d in
    let within : n ≤ 256 * length sent = line.within in
    let enough : at + 256 ≤ n = omega arith in
    let less : n < at + 512 = omega arith in
    let many : i < length sent = omega arith in
    let long : length bits ≡ n = length-line r odd sent n line in
    let parts : short ++ rest ≡ bits = ap (λ xs. xs ++ rest) (sym (take-take (at + 16) n (sent_bits r.words sent) (omega arith))) ∙ take-append-drop (at + 16) bits in
    let is = sent_at r.channels odd sent d i line.are many in
    let one : (at + 16) / 256 ≡ i = omega arith in
    let place : (frames r short).place ≡ locked at (flips i odd) 0 = before.place ∙ ap (λ q. locked (256 * q) (flips q odd) 0) one in
    let frame : take 256 (drop at bits) ≡ frame_bits r.words f =
    on_line r.words r.channels odd sent d i 256 n line.are many (lit≤ tt) (omega arith)
    ∙ take_all 256 (frame_bits r.words f) (omega (arith, length-frame_bits r.words f is.frame.twelve)) in
    let step : Reading = record { events = ends (at + 256) (Good f) ∷ []; place = locked (at + 256) (not (flips i odd)) 0 } in
    let taken : onward r bits (locked at (flips i odd) 0) ≡ Some step =
    step_frame r bits at 0 (flips i odd) (omega arith) ∙ ap (λ xs. Some (frame_judged r at (flips i odd) 0 xs)) frame ∙ ap Some (frame_comes r f at (flips i odd) line.words line.misses is) in
    let taken' : onward r (short ++ rest) (frames r short).place ≡ Some step = ap (λ xs. onward r xs (frames r short).place) parts ∙ ap (onward r bits) place ∙ taken in
    let few : length (short ++ rest) < at + 256 + 256 = omega (arith, ap length parts) in
    let reading : frames r bits ≡ record { events = (frames r short).events ++ step.events; place = step.place } = ap (frames r) (sym parts) ∙ frames_step r short rest step taken' few in
    let tail : List Layout = drop 1 sent in
    let size : p < length tail = omega (arith, length-drop 1 sent) in
    let last : get_or tail p d ≡ f = get_or-drop 1 sent p d ∙ ap (λ k. get_or sent k d) (omega arith) in
    let taken_more : take (p + 1) tail ≡ take p tail ++ f ∷ [] = take_more tail p d size ∙ ap (λ g. take p tail ++ g ∷ []) last in
    let good : List Layout → List Got = map (λ g. Good g) in
    let told : gots (frames r short).events ≡ good (take p tail) = before.events ∙ ap (λ k. good (take k tail)) (omega arith) in
    let counted : n / 256 - 1 ≡ p + 1 = omega arith in
    record {
      events = ap (λ (s : Reading). gots s.events) reading ∙ gots-append (frames r short).events step.events
          ∙ ap (λ xs. xs ++ Good f ∷ []) told
          ∙ sym (ap (λ k. good (take k tail)) counted ∙ ap good taken_more ∙ map-append (λ g. Good g) (take p tail) (f ∷ []));
      place = ap (λ (s : Reading). s.place) reading ∙ ap (λ o. locked (at + 256) o 0) (sym (flips_more i odd))
          ∙ ap (λ m. locked m (flips (suc i) odd) 0) (omega arith)
          ∙ sym (ap (λ q. locked (256 * q) (flips q odd) 0) count);
    }

-- a shorter line of the same frames
shorter : (r : Rules) (odd : Bool) (sent : List Layout) (m n : ℕ) → m ≤ n → Sent r odd sent n → Sent r odd sent m
shorter r odd sent m n less line = let within : n ≤ 256 * length sent = line.within in record { words = line.words; misses = line.misses; are = line.are; within = omega arith }

-- from the lock on
all_frames : (q : ℕ) (r : Rules) (odd : Bool) (sent : List Layout) (d : Layout) (n : ℕ) → Sent r odd sent n → 272 ≤ n
    → n / 256 ≡ suc q → Read r odd sent n
all_frames zero r odd sent d n line some count = first_lock r odd sent d n line some (omega arith)
all_frames (suc p) r odd sent d n line some count =
    let m : ℕ = 256 * suc p + 16 in
    more_frames r odd sent d p n line count (all_frames p r odd sent d m (shorter r odd sent m n (omega arith) line) (omega arith) (omega arith))

-- before the lock
no_frames : (r : Rules) (odd : Bool) (sent : List Layout) (n : ℕ) → Sent r odd sent n → n < 272
    → gots (frames r (line_of r.words sent n)).events ≡ []
no_frames r odd sent n line few =
    let bits : List ℕ = line_of r.words sent n in
    let long : length bits ≡ n = length-line r odd sent n line in
    let none = hunts_on r bits 0 (no_lock r.words bits 0 (λ q from within. absurd (omega arith))) in
    let none' : onward r bits (frames r []).place ≡ None = rw (nothing_read r) none in
    ap (λ (s : Reading). gots s.events) (frames_stay r [] bits none' ∙ nothing_read r)

-- all frames but the first are read, each once its bits have come
pub undamaged : (r : Rules) (odd : Bool) (sent : List Layout) (n : ℕ) → AreWords r.words → 1 ≤ r.misses
    → AreSent r.channels odd sent → n ≤ 256 * length sent
    → gots (frames r (take n (sent_bits r.words sent))).events ≡ map (λ f. Good f) (take (n / 256 - 1) (drop 1 sent))
unfolding line_of
undamaged r odd sent n words misses are within =
    let line : Sent r odd sent n = record { words = words; misses = misses; are = are; within = within } in
    elim (cases_lt n 272) [
      | inl few ↦
          let none : n / 256 - 1 ≡ 0 = omega arith in
          no_frames r odd sent n line few ∙ sym (ap (λ k. map (λ f. Good f) (take k (drop 1 sent))) none)
      | inr some ↦
          let d : Layout = record { odd = false; channels = 0; yellow = false; payload = [] } in
          (all_frames (n / 256 - 1) r odd sent d n line some (omega arith)).events
    ]
