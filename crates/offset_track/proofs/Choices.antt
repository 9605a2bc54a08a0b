-- The first least of some elements, found one by one.
use Rattle.std.specs.Prelude.{ℤ, int_le, int_lt, find, filter, not, Option, is_some, MatchOption, if◌then◌else◌}
use Rattle.std.specs.List.{list_all}
use Rattle.std.proofs.Common.{◌≡◌, ℕ, ◌+◌, ◌≤◌, Bool, true, false, List, [], ◌∷◌, ◌++◌, Some, None, inl, inr, refl, ap, sym, ◌∙◌, arith, append_assoc, append-nil}
use Rattle.std.proofs.Math.Bool.{and-false}
use Rattle.std.proofs.lemmas.Bool.{and_parts, cases_Bool}
use Rattle.std.proofs.lemmas.Bool.Decides.{nat_tests}
use Rattle.std.proofs.lemmas.Int.{ints}
use Rattle.std.proofs.lemmas.List.Folds.{list_all-append}
use Rattle.offset_track.specs.InForce.{first_least, chosen, is_candidate}
use Rattle.pingpong.specs.Exchange.{Stamps, round_trip}

-- the list falls into those before, which have a greater value, the least, and those after, none of which has a lesser one
pub record IsFirstLeast {A : Type 0} (value : A → ℤ) (xs : List A) (least : A) : Type 0 where
  pub before : List A
  pub after : List A
  pub parts : xs ≡ before ++ (least ∷ after)
  pub above : list_all (λ x. int_lt (value least) (value x)) before ≡ true
  pub no_less : list_all (λ x. int_le (value least) (value x)) after ≡ true

below_le : (a b : ℤ) → int_lt a b ≡ true → int_le a b ≡ true
below_le a b below = grind (arith, ints)

not_below_le : (a b : ℤ) → int_lt a b ≡ false → int_le b a ≡ true
not_below_le a b above = grind (arith, ints)

below_not_le : (a b : ℤ) → int_lt a b ≡ true → int_le b a ≡ false
below_not_le a b below = grind (arith, ints)

below_below : (a b c : ℤ) → int_lt a b ≡ true → int_lt b c ≡ true → int_lt a c ≡ true
below_below a b c first second = grind (arith, ints)

below_le_below : (a b c : ℤ) → int_lt a b ≡ true → int_le b c ≡ true → int_lt a c ≡ true
below_le_below a b c first second = grind (arith, ints)

le_same : (a : ℤ) → int_le a a ≡ true
le_same a = grind (arith, ints)

-- what passes one test passes another
list_all-implied : {A : Type 0} (p q : A → Bool) → ((x : A) → p x ≡ true → q x ≡ true) → (xs : List A) → list_all p xs ≡ true → list_all q xs ≡ true
list_all-implied p q step [] all = refl
list_all-implied p q step (x ∷ xs) all =
    let parts = and_parts (p x) (list_all p xs) all in
    rw (step x parts.0, list_all-implied p q step xs parts.1) refl

-- the first that passes stands behind those that fail
find-behind : {A : Type 0} (test : A → Bool) (before : List A) (x : A) (after : List A) → list_all (λ y. not (test y)) before ≡ true
    → test x ≡ true → find test (before ++ (x ∷ after)) ≡ Some x
find-behind test [] x after fail passes = rw passes refl
find-behind test (y ∷ before) x after fail passes =
    let parts = and_parts (not (test y)) (list_all (λ y. not (test y)) before) fail in
    let failed : test y ≡ false = grind arith in
    rw failed (find-behind test before x after parts.1 passes)

-- the least is among the elements, so nothing above it is the least
fails-above : {A : Type 0} (value : A → ℤ) (before : List A) (least : A) (after : List A) (x : A) → int_lt (value least) (value x) ≡ true
    → list_all (λ y. int_le (value x) (value y)) (before ++ (least ∷ after)) ≡ false
fails-above value [] least after x above = rw (below_not_le (value least) (value x) above) refl
fails-above value (y ∷ before) least after x above = rw (fails-above value before least after x above) (and-false (int_le (value x) (value y)))

passes-least : {A : Type 0} (value : A → ℤ) (before : List A) (least : A) (after : List A)
    → list_all (λ x. int_lt (value least) (value x)) before ≡ true → list_all (λ x. int_le (value least) (value x)) after ≡ true
    → list_all (λ y. int_le (value least) (value y)) (before ++ (least ∷ after)) ≡ true
passes-least value before least after above no_less =
    let most = list_all-implied (λ x. int_lt (value least) (value x)) (λ x. int_le (value least) (value x)) (λ x. below_le (value least) (value x)) before above in
    list_all-append (λ y. int_le (value least) (value y)) before (least ∷ after) ∙ rw (most, le_same (value least), no_less) refl

pub first_least-found : {A : Type 0} (value : A → ℤ) (xs : List A) (least : A) → IsFirstLeast value xs least → first_least value xs ≡ Some least
first_least-found {A = A} value xs least is =
    ap (first_least value) is.parts ∙ find-behind test is.before least is.after
    (list_all-implied (λ x. int_lt (value least) (value x)) (λ x. not (test x)) failing is.before is.above)
    (passes-least value is.before least is.after is.above is.no_less)
  where
    test : A → Bool
    test x = list_all (λ y. int_le (value x) (value y)) (is.before ++ (least ∷ is.after))

    failing : (x : A) → int_lt (value least) (value x) ≡ true → not (test x) ≡ true
    failing x above = rw (fails-above value is.before least is.after x above) refl

-- one element, and one more
pub IsFirstLeast-one : {A : Type 0} (value : A → ℤ) (x : A) → IsFirstLeast value (x ∷ []) x
IsFirstLeast-one value x = record { before = []; after = []; parts = refl; above = refl; no_less = refl }

pub IsFirstLeast-stays : {A : Type 0} (value : A → ℤ) (xs : List A) (least x : A) → IsFirstLeast value xs least → int_lt (value x) (value least) ≡ false
    → IsFirstLeast value (xs ++ x ∷ []) least
IsFirstLeast-stays value xs least x is greater = record {
  before = is.before;
  after = is.after ++ x ∷ [];
  parts = ap (λ ys. ys ++ x ∷ []) is.parts ∙ append_assoc is.before (least ∷ is.after) (x ∷ []);
  above = is.above;
  no_less = list_all-append (λ y. int_le (value least) (value y)) is.after (x ∷ []) ∙ rw (is.no_less, not_below_le (value x) (value least) greater) refl;
}

pub IsFirstLeast-lesser : {A : Type 0} (value : A → ℤ) (xs : List A) (least x : A) → IsFirstLeast value xs least → int_lt (value x) (value least) ≡ true
    → IsFirstLeast value (xs ++ x ∷ []) x
IsFirstLeast-lesser value xs least x is lesser = record {
  before = xs;
  after = [];
  parts = refl;
  above = ap (list_all (λ y. int_lt (value x) (value y))) is.parts
      ∙ list_all-append (λ y. int_lt (value x) (value y)) is.before (least ∷ is.after)
      ∙ rw (
        list_all-implied (λ y. int_lt (value least) (value y)) (λ y. int_lt (value x) (value y)) (λ y. below_below (value x) (value least) (value y) lesser) is.before is.above,
        lesser,
        list_all-implied (λ y. int_le (value least) (value y)) (λ y. int_lt (value x) (value y)) (λ y. below_le_below (value x) (value least) (value y) lesser) is.after is.no_less,
      ) refl;
  no_less = refl;
}

-- the best so far, of none or some
abbrev pub IsBest : {A : Type 0} → (A → ℤ) → List A → Option A → Type 0
IsBest value xs best = MatchOption best (xs ≡ []) (λ least. IsFirstLeast value xs least)

pub IsBest-found : {A : Type 0} (value : A → ℤ) (xs : List A) (best : Option A) → IsBest value xs best → best ≡ first_least value xs
IsBest-found value xs None none = ap (first_least value) (sym none)
IsBest-found value xs (Some least) is = sym (first_least-found value xs least is)

pub IsBest-more : {A : Type 0} (value : A → ℤ) (xs : List A) (best : Option A) (x next : A) → IsBest value xs best
    → MatchOption best (next ≡ x) (λ least. next ≡ (if int_lt (value x) (value least) then x else least)) → IsBest value (xs ++ x ∷ []) (Some next)
IsBest-more value xs None x next none is = rw (none, is) (IsFirstLeast-one value x)
IsBest-more value xs (Some least) x next least_is is = elim (cases_Bool (int_lt (value x) (value least))) [
  | inl lesser ↦ rw (is, lesser) (IsFirstLeast-lesser value xs least x least_is lesser)
  | inr greater ↦ rw (is, greater) (IsFirstLeast-stays value xs least x least_is greater)
]

-- some elements, one at the least, have a least
first_least-some : {A : Type 0} (value : A → ℤ) (more xs : List A) (least : A) → IsFirstLeast value xs least → is_some (first_least value (xs ++ more)) ≡ true
first_least-some value [] xs least is = rw (append-nil, first_least-found value xs least is) refl
first_least-some value (x ∷ more) xs least is = elim (cases_Bool (int_lt (value x) (value least))) [
  | inl lesser ↦ rw (← append_assoc xs (x ∷ []) more) (first_least-some value more (xs ++ x ∷ []) x (IsFirstLeast-lesser value xs least x is lesser))
  | inr greater ↦ rw (← append_assoc xs (x ∷ []) more) (first_least-some value more (xs ++ x ∷ []) least (IsFirstLeast-stays value xs least x is greater))
]

-- one is chosen exactly where some element is found to pass
pub first_least-find : {A : Type 0} (value : A → ℤ) (passes : A → Bool) (xs : List A) → is_some (find passes xs) ≡ is_some (first_least value (filter passes xs))
first_least-find value passes [] = refl
first_least-find value passes (x ∷ xs) = elim (cases_Bool (passes x)) [
  | inl kept ↦ rw kept (sym (first_least-some value (filter passes xs) (x ∷ []) x (IsFirstLeast-one value x)))
  | inr dropped ↦ rw dropped (first_least-find value passes xs)
]

-- where what is found passes another test too, that one finds something
find-other : {A : Type 0} (test other : A → Bool) (xs : List A) (x : A) → find test xs ≡ Some x → (test x ≡ true → other x ≡ true)
    → is_some (find other xs) ≡ true
find-other test other [] x found step = cc
find-other test other (y ∷ xs) x found step = elim (cases_Bool (other y)) [
  | inl passes ↦ rw passes refl
  | inr fails ↦ elim (cases_Bool (test y)) [
    | inl hit ↦
        let same = rw hit at found in
        let is : y ≡ x = cc in
        let passes : other y ≡ true = rw is (step (rw is at hit)) in
        cc
    | inr missed ↦ rw fails (find-other test other xs x (rw missed at found) step)
  ]
]

-- what is found in what passed a test has passed it
pub find-filter_passes : {A : Type 0} (passes test : A → Bool) (xs : List A) (x : A) → find test (filter passes xs) ≡ Some x → passes x ≡ true
find-filter_passes passes test [] x found = cc
find-filter_passes passes test (y ∷ xs) x found = elim (cases_Bool (passes y)) [
  | inl kept ↦
      let here = rw kept at found in
      elim (cases_Bool (test y)) [
        | inl hit ↦ let same = rw hit at here in let is : y ≡ x = cc in rw (← is) kept
        | inr missed ↦ find-filter_passes passes test xs x (rw missed at here)
      ]
  | inr dropped ↦ find-filter_passes passes test xs x (rw dropped at found)
]

-- the exchange that is chosen is a candidate
pub chosen-candidate : (age now : ℕ) (newest_first : List Stamps) (e : Stamps) → chosen (λ e. e) age now newest_first ≡ Some e → e.a1 ≤ now
chosen-candidate age now newest_first e is =
    let passes = find-filter_passes (is_candidate age now) (λ x. list_all (λ y. int_le (round_trip x) (round_trip y)) (filter (is_candidate age now) newest_first)) newest_first e is in
    grind (arith, nat_tests)

-- a candidate stays one until its age ends
candidate-stays : (age now stamp : ℕ) (e : Stamps) → now ≤ stamp → stamp ≤ e.a1 + age → is_candidate age now e ≡ true → is_candidate age stamp e ≡ true
candidate-stays age now stamp e later within is = grind (arith, nat_tests)

-- so one is chosen until the age of the newest candidate ends
pub chosen-until : (age now stamp : ℕ) (newest_first : List Stamps) (e : Stamps) → find (is_candidate age now) newest_first ≡ Some e
    → now ≤ stamp → stamp ≤ e.a1 + age → is_some (chosen (λ e. e) age stamp newest_first) ≡ true
chosen-until age now stamp newest_first e found later within =
    sym (first_least-find round_trip (is_candidate age stamp) newest_first)
    ∙ find-other (is_candidate age now) (is_candidate age stamp) newest_first e found (candidate-stays age now stamp e later within)
