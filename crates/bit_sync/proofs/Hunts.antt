-- Some bits more while a receiver hunts.
use Rattle.std.proofs.Common.{◌≡◌, ◌≢◌, ℕ, ◌+◌, ◌-◌, ◌*◌, ◌/◌, ◌%◌, ◌^◌, ◌<◌, ◌≤◌, Bool, true, false, eqb, List, [], ◌∷◌, ◌++◌, length, drop, Some, None, refl, arith, ap, sym, ◌∙◌, inl, inr, lit<, lit≤, length-append}
use Rattle.std.proofs.lemmas.Bool.{cases_lt}
use Rattle.std.proofs.lemmas.List.{append-nil, drop-append-le, drop-drop, length-drop}
use Rattle.std.proofs.lemmas.Nat.{field_of, pow-add, shr-shr, shr_below, shr_split}
use Rattle.std.proofs.Math.Nat.{add-mul-mod_self_right, pow-le-pow_right}
use Rattle.ld_base.specs.Words.{AreWords, HeaderWords}
use Rattle.c3794_frame.specs.FrameOf.{header_of, word}
use Rattle.c3794_frame.specs.Numbers.{AreBits, number}
use Rattle.c3794_frame.proofs.Numbers.{are_append, are_drop, number-append, number-drop, number-lt, number-stretch}
use Rattle.c3794_frame.proofs.Pairs.{unlike}
use Rattle.bit_sync.specs.Frames.{Event, Place, Reading, Rules, are_both, frames, gots, lock_made, locks_at, onward, position}
use Rattle.bit_sync.specs.Frames.Event.{locks, ends, loses}
use Rattle.bit_sync.specs.Frames.Place.{hunts, locked}
use Rattle.bit_sync.specs.StandsFor.{Keeps, StandsFor}
use Rattle.bit_sync.specs.Step.{IsEarliest, Takes, kept, window}
use Rattle.bit_sync.proofs.Locks.{lock_is, locks_longer, no_lock, none_locks}
use Rattle.bit_sync.proofs.Walks.{frames_done, frames_stay, frames_step, hunts_on, no_step, step_locks}

-- a rest of a rest
pub mod-mod : (x m j : ℕ) → j ≤ m → x % 2 ^ m % 2 ^ j ≡ x % 2 ^ j
mod-mod x m j few =
    let q : ℕ = x / 2 ^ m in
    let r : ℕ = x % 2 ^ m in
    let whole : m - j + j ≡ m = omega arith in
    let product : 2 ^ m ≡ 2 ^ (m - j) * 2 ^ j = ap (λ k. 2 ^ k) (sym whole) ∙ pow-add 2 (m - j) j in
    let high : q * 2 ^ m ≡ q * 2 ^ (m - j) * 2 ^ j = ap (λ p. q * p) product ∙ (omega arith) in
    let split : x ≡ r + q * 2 ^ (m - j) * 2 ^ j = omega (arith, shr_split x m, high) in
    sym (ap (λ n. n % 2 ^ j) split ∙ add-mul-mod_self_right r (q * 2 ^ (m - j)) (2 ^ j))

-- numbers with one rest have the same bits below it
pub same_field : (x y m a b : ℕ) → x % 2 ^ m ≡ y % 2 ^ m → a + b ≤ m → x / 2 ^ a % 2 ^ b ≡ y / 2 ^ a % 2 ^ b
same_field x y m a b same few =
    let e : b + a ≤ m = omega arith in
    sym (field_of x b a)
    ∙ ap (λ n. n / 2 ^ a) (sym (mod-mod x m (b + a) e) ∙ ap (λ n. n % 2 ^ (b + a)) same ∙ mod-mod y m (b + a) e) ∙ field_of y b a

-- a rest with bits pushed in is that of the whole number with them
pub same_pushed : (x m n v : ℕ) → (x % 2 ^ m * 2 ^ n + v) % 2 ^ (m + n) ≡ (x * 2 ^ n + v) % 2 ^ (m + n)
same_pushed x m n v =
    let q : ℕ = x / 2 ^ m in
    let r : ℕ = x % 2 ^ m in
    let split : x ≡ q * 2 ^ m + r = sym (shr_split x m) in
    let product : 2 ^ (m + n) ≡ 2 ^ m * 2 ^ n = pow-add 2 m n in
    let high : q * 2 ^ (m + n) ≡ q * (2 ^ m * 2 ^ n) = ap (λ p. q * p) product in
    let shifted : x * 2 ^ n ≡ q * (2 ^ m * 2 ^ n) + r * 2 ^ n = ap (λ y. y * 2 ^ n) split ∙ (omega arith) in
    let whole : x * 2 ^ n + v ≡ r * 2 ^ n + v + q * 2 ^ (m + n) = omega (arith, shifted, high) in
    sym (ap (λ y. y % 2 ^ (m + n)) whole ∙ add-mul-mod_self_right (r * 2 ^ n + v) q (2 ^ (m + n)))

-- the number of a line with some bits more, from a place on
pub number_more : (line group : List ℕ) (h n v : ℕ) → h ≤ length line → length group ≡ n → number group ≡ v
    → number (drop h (line ++ group)) ≡ number (drop h line) * 2 ^ n + v
number_more line group h n v within long made =
    ap number (drop-append-le h line group within) ∙ number-append (drop h line) group
    ∙ ap (λ k. number (drop h line) * 2 ^ k + number group) long ∙ ap (λ x. number (drop h line) * 2 ^ n + x) made

-- what stands before a hunt takes some bits more: a line, where hunting began, and the register
pub record Hunting (r : Rules) (line group : List ℕ) (h n v register : ℕ) : Type 0 where
  pub line_bits : AreBits line
  pub group_bits : AreBits group
  pub long : length group ≡ n
  pub made : number group ≡ v
  pub few : n ≤ 32
  pub place : (frames r line).place ≡ hunts h
  pub within : h ≤ length line
  pub register_is : register ≡ number (drop h line) % 2 ^ 272

-- the register with the bits pushed in, beside the number of all bits since hunting began
pushed_number : (r : Rules) (line group : List ℕ) (h n v register : ℕ) → Hunting r line group h n v register
    → (register * 2 ^ n + v) % 2 ^ (272 + n) ≡ number (drop h (line ++ group)) % 2 ^ (272 + n)
pushed_number r line group h n v register hunt =
    ap (λ x. (x * 2 ^ n + v) % 2 ^ (272 + n)) hunt.register_is ∙ same_pushed (number (drop h line)) 272 n v
    ∙ ap (λ x. x % 2 ^ (272 + n)) (sym (number_more line group h n v hunt.within hunt.long hunt.made))

-- the oldest bits so many bits ago
first_window : (r : Rules) (line group : List ℕ) (h n v register k : ℕ) → Hunting r line group h n v register → k < n
    → window ((register * 2 ^ n + v) / 2 ^ 256) k ≡ number (drop h (line ++ group)) / 2 ^ (256 + k) % 2 ^ 16
first_window r line group h n v register k hunt below =
    ap (λ x. x % 2 ^ 16) (shr-shr (register * 2 ^ n + v) 256 k)
    ∙ same_field (register * 2 ^ n + v) (number (drop h (line ++ group))) (272 + n) (256 + k) 16 (pushed_number r line group h n v register hunt) (omega arith)

-- the newest bits so many bits ago
second_window : (r : Rules) (line group : List ℕ) (h n v register k : ℕ) → Hunting r line group h n v register → k < n
    → window ((register * 2 ^ n + v) % 2 ^ 272 % 2 ^ 64) k ≡ number (drop h (line ++ group)) / 2 ^ k % 2 ^ 16
second_window r line group h n v register k hunt below =
    let few : n ≤ 32 = hunt.few in
    let low : (register * 2 ^ n + v) % 2 ^ 272 % 2 ^ 64 % 2 ^ 64 ≡ (register * 2 ^ n + v) % 2 ^ 64 =
    mod-mod ((register * 2 ^ n + v) % 2 ^ 272) 64 64 (lit≤ tt) ∙ mod-mod (register * 2 ^ n + v) 272 64 (lit≤ tt) in
    same_field ((register * 2 ^ n + v) % 2 ^ 272 % 2 ^ 64) (register * 2 ^ n + v) 64 k 16 low (omega arith)
    ∙ same_field (register * 2 ^ n + v) (number (drop h (line ++ group))) (272 + n) k 16 (pushed_number r line group h n v register hunt) (omega arith)

-- all bits of a longer line
all_bits : (r : Rules) (line group : List ℕ) (h n v register : ℕ) → Hunting r line group h n v register → AreBits (line ++ group)
all_bits r line group h n v register hunt = are_append line group hunt.line_bits hunt.group_bits

-- the first word of a place is in the window
first_word : (r : Rules) (line group : List ℕ) (h n v register k p : ℕ) → Hunting r line group h n v register → k < n → h ≤ p
    → p + 272 + k ≡ length (line ++ group)
    → header_of (drop p (line ++ group)) ≡ window ((register * 2 ^ n + v) / 2 ^ 256) k
first_word r line group h n v register k p hunt below from end =
    let bits : List ℕ = drop h (line ++ group) in
    let behind : h + (p - h) ≡ p = omega arith in
    let size : length bits ≡ length (line ++ group) - h = length-drop h (line ++ group) in
    ap (λ q. header_of (drop q (line ++ group))) (sym behind) ∙ ap header_of (sym (drop-drop (p - h) h (line ++ group)))
    ∙ number-stretch bits (p - h) 16 (256 + k) (are_drop h (line ++ group) (all_bits r line group h n v register hunt)) (omega arith)
    ∙ sym (first_window r line group h n v register k hunt below)

-- and the second
second_word : (r : Rules) (line group : List ℕ) (h n v register k p : ℕ) → Hunting r line group h n v register → k < n → h ≤ p
    → p + 272 + k ≡ length (line ++ group)
    → header_of (drop (p + 256) (line ++ group)) ≡ window ((register * 2 ^ n + v) % 2 ^ 272 % 2 ^ 64) k
second_word r line group h n v register k p hunt below from end =
    let bits : List ℕ = drop h (line ++ group) in
    let behind : h + (p + 256 - h) ≡ p + 256 = omega arith in
    let size : length bits ≡ length (line ++ group) - h = length-drop h (line ++ group) in
    ap (λ q. header_of (drop q (line ++ group))) (sym behind) ∙ ap header_of (sym (drop-drop (p + 256 - h) h (line ++ group)))
    ∙ number-stretch bits (p + 256 - h) 16 k (are_drop h (line ++ group) (all_bits r line group h n v register hunt)) (omega arith)
    ∙ sym (second_window r line group h n v register k hunt below)

-- both words stand at a place where they stand in the windows
at_window : (r : Rules) (line group : List ℕ) (h n v register k p : ℕ) → Hunting r line group h n v register → k < n → h ≤ p
    → p + 272 + k ≡ length (line ++ group)
    → locks_at r.words (line ++ group) p ≡ are_both r.words (window ((register * 2 ^ n + v) / 2 ^ 256) k) (window ((register * 2 ^ n + v) % 2 ^ 272 % 2 ^ 64) k)
at_window r line group h n v register k p hunt below from end =
    rw (first_word r line group h n v register k p hunt below from end, second_word r line group h n v register k p hunt below from end)

-- no header word is below 2 ^ 15
no_word : (words : HeaderWords) (first second : ℕ) → AreWords words → first < 32768 → are_both words first second ≡ false
no_word words first second are small =
    let b : 128 ≤ words.b = are.b.0 in
    let a : 128 ≤ words.a = are.a.0 in
    let not_b : first ≢ word words true = λ e. absurd (omega arith) in
    let not_a : first ≢ word words false = λ e. absurd (omega arith) in
    rw (unlike first (word words true) not_b, unlike first (word words false) not_a) refl

-- before 272 bits have come since hunting began no words stand in a window
too_early : (r : Rules) (line group : List ℕ) (h n v register k : ℕ) → Hunting r line group h n v register → AreWords r.words
    → k < n → length (line ++ group) < h + 272 + k
    → are_both r.words (window ((register * 2 ^ n + v) / 2 ^ 256) k) (window ((register * 2 ^ n + v) % 2 ^ 272 % 2 ^ 64) k) ≡ false
too_early r line group h n v register k hunt are below early =
    let bits : List ℕ = drop h (line ++ group) in
    let size : length bits ≡ length (line ++ group) - h = length-drop h (line ++ group) in
    let small : number bits < 2 ^ length bits = number-lt bits (are_drop h (line ++ group) (all_bits r line group h n v register hunt)) in
    let more : 2 ^ length bits ≤ 2 ^ (15 + (256 + k)) = pow-le-pow_right {n = 2} (lit< tt) {i = length bits} {j = 15 + (256 + k)} (omega arith) in
    let low : number bits / 2 ^ (256 + k) < 2 ^ 15 = shr_below (number bits) 15 (256 + k) (omega arith) in
    let first : window ((register * 2 ^ n + v) / 2 ^ 256) k < 32768 = rw (first_window r line group h n v register k hunt below) (omega arith) in
    no_word r.words _ _ are first

-- the bits since hunting began, in the register
since : (r : Rules) (line group : List ℕ) (h n v register j : ℕ) → Hunting r line group h n v register → j ≤ 272
    → (register * 2 ^ n + v) % 2 ^ 272 % 2 ^ j ≡ number (drop h (line ++ group)) % 2 ^ j
since r line group h n v register j hunt few =
    let all : ℕ = register * 2 ^ n + v in
    let bits : ℕ = number (drop h (line ++ group)) in
    mod-mod all 272 j few ∙ sym (mod-mod all (272 + n) j (omega arith))
    ∙ ap (λ x. x % 2 ^ j) (pushed_number r line group h n v register hunt) ∙ mod-mod bits (272 + n) j (omega arith)

-- a rest of the whole register
whole_register : (r : Rules) (line group : List ℕ) (h n v register : ℕ) → Hunting r line group h n v register
    → (register * 2 ^ n + v) % 2 ^ 272 ≡ number (drop h (line ++ group)) % 2 ^ 272
whole_register r line group h n v register hunt = sym (mod-mod (register * 2 ^ n + v) 272 272 (lit≤ tt)) ∙ since r line group h n v register 272 hunt (lit≤ tt)

-- a place before the new bits doesn't lock
old_place : (r : Rules) (line group : List ℕ) (h n v register q : ℕ) → Hunting r line group h n v register → h ≤ q
    → q + 272 ≤ length line → locks_at r.words (line ++ group) q ≡ false
old_place r line group h n v register q hunt from within =
    let done : onward r line (hunts h) ≡ None = rw hunt.place at (frames_done r line) in
    locks_longer r.words line group q within ∙ none_locks r.words line h q (no_step r line h done) from within

-- a place among the new bits
new_place : (r : Rules) (line group : List ℕ) (h n v register q : ℕ) → Hunting r line group h n v register → h ≤ q
    → length line < q + 272 → q + 272 ≤ length (line ++ group)
    → (k : ℕ) × (k < n) × (q + 272 + k ≡ length (line ++ group))
new_place r line group h n v register q hunt from past within =
    let size : length (line ++ group) ≡ length line + n = length-append line group ∙ ap (λ m. length line + m) hunt.long in
    (length (line ++ group) - (q + 272), omega arith, omega arith)

-- the hunt goes on
pub hunt_on : (r : Rules) (line group : List ℕ) (h n v register : ℕ) → Hunting r line group h n v register
    → ((k : ℕ) → k < n → are_both r.words (window ((register * 2 ^ n + v) / 2 ^ 256) k) (window ((register * 2 ^ n + v) % 2 ^ 272 % 2 ^ 64) k) ≡ false)
    → frames r (line ++ group) ≡ frames r line
hunt_on r line group h n v register hunt none =
    let unlocked = no_lock r.words (line ++ group) h (λ q from within. elim (cases_lt (length line) (q + 272)) [
      | inl past ↦
          let at = new_place r line group h n v register q hunt from past within in
          at_window r line group h n v register at.0 q hunt at.1 from at.2 ∙ none at.0 at.1
      | inr old ↦ old_place r line group h n v register q hunt from old
    ]) in
    frames_stay r line group (rw hunt.place (hunts_on r (line ++ group) h unlocked))

-- a lock is made
pub hunt_ends : (r : Rules) (line group : List ℕ) (h n v register k : ℕ) → Hunting r line group h n v register → AreWords r.words
    → IsEarliest r.words ((register * 2 ^ n + v) / 2 ^ 256) ((register * 2 ^ n + v) % 2 ^ 272 % 2 ^ 64) n k
    → (p : ℕ) × (h ≤ p) × (p + 272 + k ≡ length (line ++ group))
    × (frames r (line ++ group) ≡ record { events = (frames r line).events ++ (lock_made r (line ++ group) p).events; place = (lock_made r (line ++ group) p).place })
hunt_ends r line group h n v register k hunt are found =
    let few : n ≤ 32 = hunt.few in
    let below : k < n = found.within in
    elim (cases_lt (length (line ++ group)) (h + 272 + k)) [
      | inl early ↦
          let no = too_early r line group h n v register k hunt are below early in
          let yes = found.there in
          absurd (cc)
      | inr late ↦
          let p : ℕ = length (line ++ group) - (272 + k) in
          let from : h ≤ p = omega arith in
          let end : p + 272 + k ≡ length (line ++ group) = omega arith in
          let lock = lock_is r.words (line ++ group) h p (record {
            from = from;
            whole = omega arith;
            there = at_window r line group h n v register k p hunt below from end ∙ found.there;
            before = λ q first before. elim (cases_lt (length line) (q + 272)) [
              | inl past ↦
                  let at = new_place r line group h n v register q hunt first past (omega arith) in
                  at_window r line group h n v register at.0 q hunt at.1 first at.2 ∙ found.before at.0 (omega (arith, at.2)) at.1
              | inr old ↦ old_place r line group h n v register q hunt first old
            ];
          }) in
          let step = step_locks r (line ++ group) h p lock in
          let step' : onward r (line ++ group) (frames r line).place ≡ Some (lock_made r (line ++ group) p) = rw hunt.place step in
          (p, from, end, frames_step r line group (lock_made r (line ++ group) p) step' (omega arith))
    ]

-- the frames of joined events
pub gots-append : (xs ys : List Event) → gots (xs ++ ys) ≡ gots xs ++ gots ys
gots-append [] ys = refl
gots-append (locks at ∷ xs) ys = gots-append xs ys
gots-append (ends at g ∷ xs) ys = ap (λ t. g ∷ t) (gots-append xs ys)
gots-append (loses at ∷ xs) ys = gots-append xs ys

-- what is kept while the hunt goes on
pub hunted_on : (r : Rules) (line group : List ℕ) (h n v register : ℕ) → Hunting r line group h n v register
    → ((k : ℕ) → k < n → are_both r.words (window ((register * 2 ^ n + v) / 2 ^ 256) k) (window ((register * 2 ^ n + v) % 2 ^ 272 % 2 ^ 64) k) ≡ false)
    → Takes (kept r None ((register * 2 ^ n + v) % 2 ^ 272)) line group None
hunted_on r line group h n v register hunt none =
    let same = hunt_on r line group h n v register hunt none in
    let place : (frames r (line ++ group)).place ≡ hunts h = ap (λ (s : Reading). s.place) same ∙ hunt.place in
    let within : h ≤ length (line ++ group) = omega (arith, hunt.within, length-append line group) in
    record {
      stands = record {
        bits = all_bits r line group h n v register hunt;
        keeps = rw place (within, whole_register r line group h n v register hunt);
      };
      told = ap (λ (s : Reading). gots s.events) same ∙ sym (append-nil (gots (frames r line).events));
      later = rw same (omega arith);
      whole = λ e. absurd (cc);
      past = λ e. absurd (cc);
    }

-- what is kept where a lock is made
pub hunted_lock : (r : Rules) (line group : List ℕ) (h n v register k : ℕ) (odd : Bool) → Hunting r line group h n v register
    → AreWords r.words
    → IsEarliest r.words ((register * 2 ^ n + v) / 2 ^ 256) ((register * 2 ^ n + v) % 2 ^ 272 % 2 ^ 64) n k
    → odd ≡ eqb (window ((register * 2 ^ n + v) % 2 ^ 272 % 2 ^ 64) k) (word r.words true)
    → Takes (kept r (Some (record { odd = odd; missed = 0; held = 16 + k })) ((register * 2 ^ n + v) % 2 ^ 272)) line group None
hunted_lock r line group h n v register k odd hunt are found is =
    let lock = hunt_ends r line group h n v register k hunt are found in
    let p : ℕ = lock.0 in
    let from : h ≤ p = lock.1 in
    let end : p + 272 + k ≡ length (line ++ group) = lock.2 in
    let same = lock.3 in
    let few : n ≤ 32 = hunt.few in
    let below : k < n = found.within in
    let place : (frames r (line ++ group)).place ≡ locked (p + 256) (eqb (header_of (drop (p + 256) (line ++ group))) (word r.words true)) 0 = ap (λ (s : Reading). s.place) same in
    let which : odd ≡ eqb (header_of (drop (p + 256) (line ++ group))) (word r.words true) =
    is ∙ ap (λ x. eqb x (word r.words true)) (sym (second_word r line group h n v register k p hunt below from end)) in
    let size : length (drop h (line ++ group)) ≡ length (line ++ group) - h = length-drop h (line ++ group) in
    let behind : h + (p + 256 - h) ≡ p + 256 = omega arith in
    let frame : number (drop (p + 256) (line ++ group)) ≡ number (drop h (line ++ group)) % 2 ^ (16 + k) =
    ap (λ q. number (drop q (line ++ group))) (sym behind) ∙ ap number (sym (drop-drop (p + 256 - h) h (line ++ group)))
    ∙ number-drop (drop h (line ++ group)) (p + 256 - h) (16 + k) (are_drop h (line ++ group) (all_bits r line group h n v register hunt)) (omega arith) in
    let held : (register * 2 ^ n + v) % 2 ^ 272 % 2 ^ (16 + k) ≡ number (drop (p + 256) (line ++ group)) % 2 ^ (16 + k) =
    since r line group h n v register (16 + k) hunt (omega arith)
    ∙ sym (ap (λ x. x % 2 ^ (16 + k)) frame ∙ mod-mod (number (drop h (line ++ group))) (16 + k) (16 + k) (omega arith)) in
    let told : gots (frames r (line ++ group)).events ≡ gots (frames r line).events ++ [] =
    ap (λ (s : Reading). gots s.events) same ∙ gots-append (frames r line).events (locks (p + 272) ∷ []) in
    let before : position (frames r line).place ≡ h = ap position hunt.place in
    let after : position (frames r (line ++ group)).place ≡ p + 256 = ap position place in
    record {
      stands = record {
        bits = all_bits r line group h n v register hunt;
        keeps = rw place (which, refl, omega arith, held);
      };
      told = told;
      later = omega arith;
      whole = λ e. absurd (cc);
      past = λ e. absurd (cc);
    }

-- where the reading hunts
hunt_place : (register : ℕ) (line : List ℕ) (place : Place) → Keeps None register line place
    → (h : ℕ) × (place ≡ hunts h) × (h ≤ length line) × (register ≡ number (drop h line) % 2 ^ 272)
hunt_place register line (hunts h) keeps = (h, refl, keeps.0, keeps.1)
hunt_place register line (locked at odd missed) keeps = absurd keeps

-- what stands for a line without a lock hunts
pub hunting_from : (r : Rules) (line group : List ℕ) (n v register : ℕ) → StandsFor (kept r None register) line → AreBits group
    → length group ≡ n → number group ≡ v → n ≤ 32
    → (h : ℕ) × Hunting r line group h n v register
hunting_from r line group n v register stands are long made few =
    let at = hunt_place register line (frames r line).place stands.keeps in (
      at.0,
      record {
        line_bits = stands.bits;
        group_bits = are;
        long = long;
        made = made;
        few = few;
        place = at.1;
        within = at.2;
        register_is = at.3;
      },
    )

-- the hunt of the code, by the numbers that it compares
pub code_on : (r : Rules) (line group : List ℕ) (n v register new oldest newest : ℕ) → StandsFor (kept r None register) line
    → AreBits group → length group ≡ n → number group ≡ v → n ≤ 32
    → new ≡ (register * 2 ^ n + v) % 2 ^ 272 → oldest ≡ (register * 2 ^ n + v) / 2 ^ 256 → newest ≡ new % 2 ^ 64
    → ((k : ℕ) → k < n → are_both r.words (window oldest k) (window newest k) ≡ false) → Takes (kept r None new) line group None
code_on r line group n v register new oldest newest stands are long made few pushed high low none =
    let from = hunting_from r line group n v register stands are long made few in
    let low' : newest ≡ (register * 2 ^ n + v) % 2 ^ 272 % 2 ^ 64 = low ∙ ap (λ x. x % 2 ^ 64) pushed in
    let none' = λ (k : ℕ) (below : k < n). rw (high, low') at (none k below) in
    rw pushed (hunted_on r line group from.0 n v register from.1 none')

-- and its lock
pub code_lock : (r : Rules) (line group : List ℕ) (n v register new oldest newest k held : ℕ) (odd : Bool)
    → StandsFor (kept r None register) line → AreBits group → length group ≡ n → number group ≡ v → n ≤ 32
    → new ≡ (register * 2 ^ n + v) % 2 ^ 272 → oldest ≡ (register * 2 ^ n + v) / 2 ^ 256 → newest ≡ new % 2 ^ 64
    → AreWords r.words → held ≡ 16 + k
    → IsEarliest r.words oldest newest n k → odd ≡ eqb (window newest k) (word r.words true)
    → Takes (kept r (Some (record { odd = odd; missed = 0; held = held })) new) line group None
code_lock r line group n v register new oldest newest k held odd stands are long made few pushed high low words count found is =
    let from = hunting_from r line group n v register stands are long made few in
    let low' : newest ≡ (register * 2 ^ n + v) % 2 ^ 272 % 2 ^ 64 = low ∙ ap (λ x. x % 2 ^ 64) pushed in
    rw (pushed, count) (hunted_lock r line group from.0 n v register k odd from.1 words (rw (high, low') at found) (rw low' at is))
