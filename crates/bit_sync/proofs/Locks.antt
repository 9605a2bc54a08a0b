-- Where a lock is found on a line.
use Rattle.std.proofs.Common.{◌≡◌, ℕ, zero, suc, ◌+◌, ◌-◌, ◌<◌, ◌≤◌, ◌⊎◌, Bool, true, false, cond, List, ◌++◌, length, drop, Option, Some, None, refl, arith, ap, ◌∙◌, inl, inr}
use Rattle.std.specs.List.{find, range_with_len}
use Rattle.std.proofs.lemmas.Bool.{cases_eq}
use Rattle.std.proofs.lemmas.List.{drop-append-le, length-drop, take-append-le}
use Rattle.ld_base.specs.Words.{HeaderWords}
use Rattle.c3794_frame.specs.FrameOf.{header_of}
use Rattle.c3794_frame.specs.Numbers.{number}
use Rattle.bit_sync.specs.Frames.{lock_from, locks_at}

-- which way one step of a search went
search_step : (b : Bool) (x k : ℕ) (rest : Option ℕ) → cond b (Some x) rest ≡ Some k
    → ((b ≡ true) × (x ≡ k)) ⊎ ((b ≡ false) × (rest ≡ Some k))
search_step true x k rest e = inl (refl, cc)
search_step false x k rest e = inr (refl, e)

-- one step of a search that finds nothing
none_step : (b : Bool) (x : ℕ) (rest : Option ℕ) → cond b (Some x) rest ≡ None → (b ≡ false) × (rest ≡ None)
none_step true x rest e = cc
none_step false x rest e = (refl, e)

-- the first number of a range that passes a test
pub record IsFirst (test : ℕ → Bool) (a n k : ℕ) : Type 0 where
  pub from : a ≤ k
  pub below : k < a + n
  pub passes : test k ≡ true
  pub before : (j : ℕ) → a ≤ j → j < k → test j ≡ false

-- what a search finds is the first
found_first : (test : ℕ → Bool) (n a k : ℕ) → find test (range_with_len a n) ≡ Some k → IsFirst test a n k
found_first test zero a k e = absurd (cc)
found_first test (suc n) a k e =
    elim (search_step (test a) a k _ e) [
      | inl here ↦ record {
        from = omega (arith, here.1);
        below = omega (arith, here.1);
        passes = rw (← here.1) here.0;
        before = λ j from below. absurd (omega (arith, here.1));
      }
      | inr later ↦
          let rest = found_first test n (a + 1) k later.1 in
          record {
            from = omega (arith, rest.from);
            below = omega (arith, rest.below);
            passes = rest.passes;
            before = λ j from below. elim (cases_eq j a) [ inl e' ↦ rw e' later.0 | inr ne ↦ rest.before j (omega arith) below ];
          }
    ]

-- where a search finds nothing no number passes
found_none : (test : ℕ → Bool) (n a : ℕ) → find test (range_with_len a n) ≡ None → (j : ℕ) → a ≤ j → j < a + n → test j ≡ false
found_none test zero a e j from below = absurd (omega arith)
found_none test (suc n) a e j from below =
    let parts = none_step (test a) a _ e in
    elim (cases_eq j a) [ inl e' ↦ rw e' parts.0 | inr ne ↦ found_none test n (a + 1) parts.1 j (omega arith) (omega arith) ]

-- the first is what a search finds
first_found : (test : ℕ → Bool) (n a k : ℕ) → IsFirst test a n k → find test (range_with_len a n) ≡ Some k
first_found test zero a k h = absurd (omega (arith, h.from, h.below))
first_found test (suc n) a k h =
    elim (cases_eq a k) [
      | inl e ↦ let here : test a ≡ true = rw e h.passes in rw here (ap Some e)
      | inr ne ↦
          let none : test a ≡ false = h.before a (omega arith) (omega (arith, h.from)) in
          rw none (first_found test n (a + 1) k (record {
            from = omega (arith, h.from);
            below = omega (arith, h.below);
            passes = h.passes;
            before = λ j from below. h.before j (omega arith) below;
          }))
    ]

-- where no number passes nothing is found
none_found : (test : ℕ → Bool) (n a : ℕ) → ((j : ℕ) → a ≤ j → j < a + n → test j ≡ false) → find test (range_with_len a n) ≡ None
none_found test zero a h = refl
none_found test (suc n) a h =
    let none : test a ≡ false = h a (omega arith) (omega arith) in
    rw none (none_found test n (a + 1) (λ j from below. h j (omega arith) (omega arith)))

-- the place of a lock: the first from h on where both words stand, all their bits being there
pub record IsLock (words : HeaderWords) (bits : List ℕ) (h p : ℕ) : Type 0 where
  pub from : h ≤ p
  pub whole : p + 272 ≤ length bits
  pub there : locks_at words bits p ≡ true
  pub before : (q : ℕ) → h ≤ q → q < p → locks_at words bits q ≡ false

-- what is found is the lock
pub lock_found : (words : HeaderWords) (bits : List ℕ) (h p : ℕ) → lock_from words bits h ≡ Some p → IsLock words bits h p
unfolding lock_from
lock_found words bits h p e =
    let first = found_first (locks_at words bits) (length bits - 271 - h) h p e in
    record { from = first.from; whole = omega (arith, first.below, first.from); there = first.passes; before = first.before }

-- the lock is found
pub lock_is : (words : HeaderWords) (bits : List ℕ) (h p : ℕ) → IsLock words bits h p → lock_from words bits h ≡ Some p
unfolding lock_from
lock_is words bits h p lock =
    first_found (locks_at words bits) (length bits - 271 - h) h p (record {
      from = lock.from;
      below = omega (arith, lock.from, lock.whole);
      passes = lock.there;
      before = lock.before;
    })

-- no lock is found
pub no_lock : (words : HeaderWords) (bits : List ℕ) (h : ℕ)
    → ((q : ℕ) → h ≤ q → q + 272 ≤ length bits → locks_at words bits q ≡ false) → lock_from words bits h ≡ None
unfolding lock_from
no_lock words bits h none = none_found (locks_at words bits) (length bits - 271 - h) h (λ j from below. none j from (omega arith))

-- where none is found there is none
pub none_locks : (words : HeaderWords) (bits : List ℕ) (h q : ℕ) → lock_from words bits h ≡ None → h ≤ q → q + 272 ≤ length bits
    → locks_at words bits q ≡ false
unfolding lock_from
none_locks words bits h q e from within = found_none (locks_at words bits) (length bits - 271 - h) h e q from (omega arith)

-- the header at a place is the same on a longer line
pub header_longer : (bits more : List ℕ) (p : ℕ) → p + 16 ≤ length bits
    → header_of (drop p (bits ++ more)) ≡ header_of (drop p bits)
header_longer bits more p within =
    let room : 16 ≤ length (drop p bits) = omega (arith, length-drop p bits) in
    ap header_of (drop-append-le p bits more (omega arith))
    ∙ ap (λ (xs : List ℕ). number xs) (take-append-le 16 (drop p bits) more room)

-- and both words do
pub locks_longer : (words : HeaderWords) (bits more : List ℕ) (p : ℕ) → p + 272 ≤ length bits
    → locks_at words (bits ++ more) p ≡ locks_at words bits p
locks_longer words bits more p within = rw (header_longer bits more p (omega arith), header_longer bits more (p + 256) (omega arith))
