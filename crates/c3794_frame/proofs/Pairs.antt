-- The first broken pair of 256 bits.
use Rattle.std.proofs.Common.{◌≡◌, ◌≢◌, ℕ, zero, suc, ◌+◌, ◌*◌, ◌<◌, Bool, true, false, eqb, cond, List, map, Option, None, Some, get_or, refl, arith, zero-add, ap, sym, ◌∙◌}
use Rattle.std.specs.List.{range_with_len, find}
use Rattle.std.proofs.lemmas.Bool.{eq-eqb}
use Rattle.std.proofs.lemmas.Bool.Decides.{nat_tests}
use Rattle.c3794_frame.specs.FrameOf.{data_bit}
use Rattle.c3794_frame.specs.Numbers.{AreBits}
use Rattle.c3794_frame.specs.Reading.{broken_pair}

-- what is found first among the numbers from a on
find_first : (p : ℕ → Bool) (f : ℕ → ℕ) (n a k : ℕ) → k < n → p (f (a + k)) ≡ true → ((j : ℕ) → j < k → p (f (a + j)) ≡ false)
    → find p (map f (range_with_len a n)) ≡ Some (f (a + k))
find_first p f zero a k within here before = absurd (omega arith)
find_first p f (suc n) a zero within here before =
    let e : a + 0 ≡ a = omega arith in
    let at : p (f a) ≡ true = rw (← e) here in
    rw (at, e)
find_first p f (suc n) a (suc k) within here before =
    let none : p (f a) ≡ false = let e : a + 0 ≡ a = omega arith in rw e at (before 0 (omega arith)) in
    let e : a + suc k ≡ (a + 1) + k = omega arith in
    rw (none, e) (find_first p f n (a + 1) k (omega arith) (rw e at here)
    (λ j below. let e' : (a + 1) + j ≡ a + suc j = omega arith in rw e' (before (suc j) (omega arith))))

-- nothing is found
find_none : (p : ℕ → Bool) (f : ℕ → ℕ) (n a : ℕ) → ((j : ℕ) → j < n → p (f (a + j)) ≡ false)
    → find p (map f (range_with_len a n)) ≡ None
find_none p f zero a before = refl
find_none p f (suc n) a before =
    let none : p (f a) ≡ false = let e : a + 0 ≡ a = omega arith in rw e at (before 0 (omega arith)) in
    rw none (find_none p f n (a + 1) (λ j below. let e' : (a + 1) + j ≡ a + suc j = omega arith in rw e' (before (suc j) (omega arith))))

-- one step of a search that finds nothing
none_step : (b : Bool) (x : ℕ) (rest : Option ℕ) → cond b (Some x) rest ≡ None → (b ≡ false) × (rest ≡ None)
none_step true x rest e = cc
none_step false x rest e = (refl, e)

-- where nothing is found no number passes
none_found : (p : ℕ → Bool) (f : ℕ → ℕ) (n a : ℕ) → find p (map f (range_with_len a n)) ≡ None → (j : ℕ) → j < n
    → p (f (a + j)) ≡ false
none_found p f zero a none j below = absurd (omega arith)
none_found p f (suc n) a none zero below =
    let e : a + 0 ≡ a = omega arith in
    rw e ((none_step (p (f a)) (f a) _ none).0)
none_found p f (suc n) a none (suc j) below =
    let e : a + suc j ≡ (a + 1) + j = omega arith in
    rw e (none_found p f n (a + 1) ((none_step (p (f a)) (f a) _ none).1) j (omega arith))

-- whether both bits of a pair are equal
is_broken : List ℕ → ℕ → Bool
is_broken bits i = eqb (get_or bits i 0) (get_or bits (i + 1) 0)

-- the place of a pair
place_of : ℕ → ℕ
place_of k = 16 + 2 * k

-- the first broken pair as a search through the pairs
broken_pair_is : (bits : List ℕ) → broken_pair bits ≡ find (is_broken bits) (map place_of (range_with_len 0 120))
unfolding broken_pair is_broken place_of
broken_pair_is bits = refl

-- two bits that are complements differ
differ : (a b : ℕ) → a + b ≡ 1 → eqb a b ≡ false
differ a b h = grind (arith, nat_tests)

-- two bits that differ are complements
complements : (a b : ℕ) → a < 2 → b < 2 → eqb a b ≡ false → a + b ≡ 1
complements a b ha hb h = let ne : a ≢ b = grind (arith, nat_tests) in omega arith

-- two different numbers fail the test
pub unlike : (a b : ℕ) → a ≢ b → eqb a b ≡ false
unlike a b h = grind (arith, nat_tests)

-- a pair whose bits are complements is not broken
whole_pair : (bits : List ℕ) (k : ℕ) → data_bit bits k + get_or bits (17 + 2 * k) 0 ≡ 1 → is_broken bits (place_of k) ≡ false
unfolding is_broken place_of
whole_pair bits k h = let e : 16 + 2 * k + 1 ≡ 17 + 2 * k = omega arith in rw e (differ _ _ h)

-- a pair whose bits are equal is broken
equal_pair : (bits : List ℕ) (k : ℕ) → data_bit bits k ≡ get_or bits (17 + 2 * k) 0 → is_broken bits (place_of k) ≡ true
unfolding is_broken place_of
equal_pair bits k h = let e : 16 + 2 * k + 1 ≡ 17 + 2 * k = omega arith in rw e (eq-eqb _ _ h)

-- no pair is broken where the bits of each are complements
pub no_broken_pair : (bits : List ℕ) → ((k : ℕ) → k < 120 → data_bit bits k + get_or bits (17 + 2 * k) 0 ≡ 1)
    → broken_pair bits ≡ None
no_broken_pair bits whole = broken_pair_is bits ∙ find_none (is_broken bits) place_of 120 0 (λ j below. rw zero-add (whole_pair bits j (whole j below)))

-- the bits of a pair that isn't broken are complements
unbroken : (bits : List ℕ) (k : ℕ) → AreBits bits → is_broken bits (place_of k) ≡ false
    → data_bit bits k + get_or bits (17 + 2 * k) 0 ≡ 1
unfolding is_broken place_of
unbroken bits k are h =
    let e : 16 + 2 * k + 1 ≡ 17 + 2 * k = omega arith in
    let h' : eqb (get_or bits (16 + 2 * k) 0) (get_or bits (17 + 2 * k) 0) ≡ false = rw e at h in
    complements _ _ (are.each (16 + 2 * k)) (are.each (17 + 2 * k)) h'

-- where no pair is broken the bits of each are complements
pub all_pairs : (bits : List ℕ) → AreBits bits → broken_pair bits ≡ None → (k : ℕ) → k < 120
    → data_bit bits k + get_or bits (17 + 2 * k) 0 ≡ 1
all_pairs bits are none k below =
    let passed = none_found (is_broken bits) place_of 120 0 (sym (broken_pair_is bits) ∙ none) k below in
    unbroken bits k are (rw zero-add at passed)

-- the place of a pair by its number
place_is : (k : ℕ) → place_of (0 + k) ≡ 16 + 2 * k
unfolding place_of
place_is k = omega arith

-- the first broken pair
pub first_broken_pair : (bits : List ℕ) (k : ℕ) → k < 120 → data_bit bits k ≡ get_or bits (17 + 2 * k) 0
    → ((j : ℕ) → j < k → data_bit bits j + get_or bits (17 + 2 * j) 0 ≡ 1) → broken_pair bits ≡ Some (16 + 2 * k)
first_broken_pair bits k within equal whole =
    broken_pair_is bits ∙ find_first (is_broken bits) place_of 120 0 k within (rw zero-add (equal_pair bits k equal)) (λ j below. rw zero-add (whole_pair bits j (whole j below)))
    ∙ ap Some (place_is k)
