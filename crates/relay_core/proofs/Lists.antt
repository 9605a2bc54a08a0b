-- Lists of which something is known at each place.
use Rattle.std.proofs.Common.{◌≡◌, ◌≢◌, ℕ, zero, suc, ◌<◌, ◌≤◌, inl, inr, Bool, true, false, cond, List, [], ◌∷◌, ◌++◌, All, Some, drop, get_or, length, map, reverse, set, refl, ap, sym, subst, ◌∙◌, arith}
use Rattle.std.specs.Prelude.{slice_get, filter}
use Rattle.std.specs.List.{flat_map, refill}
use Rattle.std.specs.Option.{ForSome}
use Rattle.std.specs.Global.{Vec}
use Rattle.std.specs.Vec.{with_items}
use Rattle.std.proofs.Math.Seq.{set-append_seam, take-append_seam}
use Rattle.std.proofs.lemmas.Bool.{cases_eq}
use Rattle.std.proofs.lemmas.List.{get_or-map, get_or-set_other, get_or-set_same, length-map, length-set, reverse-append}
use Rattle.std.proofs.lemmas.List.Elements.{All-append, All-cons, All-nil}
use Rattle.sample_store.specs.Along.{along}
use Rattle.sample_store.proofs.Alongs.{along-both}

-- what holds of the first element and of the others
All-first : {A : Type 0} (P : A → Type 0) (x : A) (xs : List A) → All P (x ∷ xs) → P x
All-first P x xs all = all 0 x (omega arith)

All-others : {A : Type 0} (P : A → Type 0) (x : A) (xs : List A) → All P (x ∷ xs) → All P xs
All-others P x xs all k d inside = all (suc k) d (omega (arith, inside))

-- what a test passes
passes-first : {A : Type 0} (p : A → Bool) (x : A) (xs : List A) (b : Bool) → p x ≡ b → All (λ x. p x ≡ true) xs → All (λ x. p x ≡ true) (cond b (x ∷ xs) xs)
passes-first p x xs true is all = All-cons (λ x. p x ≡ true) x xs is all
passes-first p x xs false is all = all

pub All-passed : {A : Type 0} (p : A → Bool) (xs : List A) → All (λ x. p x ≡ true) (filter p xs)
All-passed p [] = λ k d inside. absurd (omega (arith, inside))
All-passed p (x ∷ xs) = passes-first p x (filter p xs) (p x) refl (All-passed p xs)

-- what holds of the images
pub All-images : {A B : Type 0} (P : B → Type 0) (s : A → B) (xs : List A) → All P (map s xs) → All (λ x. P (s x)) xs
All-images P s xs all k d inside = subst P (get_or-map s xs k d (s d) inside) (all k (s d) (omega (arith, inside, length-map xs s)))

-- two lists told alike at each place are told alike
pub flat_map-same : {A B : Type 0} (f g : A → List B) (xs : List A) → All (λ x. f x ≡ g x) xs → flat_map f xs ≡ flat_map g xs
flat_map-same f g [] all = refl
flat_map-same f g (x ∷ xs) all =
    ap (λ ys. ys ++ flat_map f xs) (All-first (λ x. f x ≡ g x) x xs all)
    ∙ ap (λ ys. g x ++ ys) (flat_map-same f g xs (All-others (λ x. f x ≡ g x) x xs all))

pub flat_map-mapped : {A B C : Type 0} (h : B → List C) (s : A → B) (xs : List A) → flat_map h (map s xs) ≡ flat_map (λ x. h (s x)) xs
flat_map-mapped h s [] = refl
flat_map-mapped h s (x ∷ xs) = ap (λ ys. h (s x) ++ ys) (flat_map-mapped h s xs)

pub map-mapped : {A B C : Type 0} (h : B → C) (s : A → B) (xs : List A) → map h (map s xs) ≡ map (λ x. h (s x)) xs
map-mapped h s [] = refl
map-mapped h s (x ∷ xs) = ap (λ ys. h (s x) ∷ ys) (map-mapped h s xs)

-- lists that map alike at each place map alike
pub map-alike : {A B C : Type 0} (f : A → C) (g : B → C) (xs : List A) (ys : List B) → length xs ≡ length ys
    → ((k : ℕ) (d : A) (e : B) → k < length ys → f (get_or xs k d) ≡ g (get_or ys k e)) → map f xs ≡ map g ys
map-alike f g [] [] long each = refl
map-alike f g [] (y ∷ ys) long each = absurd (omega (arith, long))
map-alike f g (x ∷ xs) [] long each = absurd (omega (arith, long))
map-alike f g (x ∷ xs) (y ∷ ys) long each =
    ap (λ z. z ∷ map f xs) (each 0 x y (omega arith))
    ∙ ap (λ zs. g y ∷ zs) (map-alike f g xs ys (omega (arith, long)) (λ k d e inside. each (suc k) d e (omega (arith, inside))))

-- numbers that rise from above a number on
abbrev pub Rise : ℕ → List ℕ → Type 0
Rise low [] = Unit {0}
Rise low (x ∷ xs) = (low < x) × Rise x xs

pub Rise-lower : (low x : ℕ) (xs : List ℕ) → low ≤ x → Rise x xs → Rise low xs
Rise-lower low x [] below rise = tt
Rise-lower low x (y ∷ ys) below rise = (omega (arith, below, rise.0), rise.1)

-- some of them rise too
pub Rise-filter : (p : ℕ → Bool) (low : ℕ) (xs : List ℕ) → Rise low xs → Rise low (filter p xs)
Rise-filter p low [] rise = tt
Rise-filter p low (x ∷ xs) rise = go (p x) (Rise-filter p x xs rise.1)
  where
    go : (b : Bool) → Rise x (filter p xs) → Rise low (cond b (x ∷ filter p xs) (filter p xs))
    go true rest = (rise.0, rest)
    go false rest = Rise-lower low x (filter p xs) (omega (arith, rise.0)) rest

above : (low i s : ℕ) (xs : List ℕ) → Rise low xs → slice_get xs i ≡ Some s → low < s
above low i s [] rise is = absurd (cc)
above low zero s (x ∷ xs) rise is = let same : x ≡ s = cc in omega (arith, rise.0, same)
above low (suc i) s (x ∷ xs) rise is = omega (arith, rise.0, above x i s xs rise.1 is)

-- so each stands in one place
pub Rise-place : (low i j s : ℕ) (xs : List ℕ) → Rise low xs → slice_get xs i ≡ Some s → slice_get xs j ≡ Some s → i ≡ j
Rise-place low i j s [] rise at_i at_j = absurd (cc)
Rise-place low zero zero s (x ∷ xs) rise at_i at_j = refl
Rise-place low zero (suc j) s (x ∷ xs) rise at_i at_j = let same : x ≡ s = cc in absurd (omega (arith, same, above x j s xs rise.1 at_j))
Rise-place low (suc i) zero s (x ∷ xs) rise at_i at_j = let same : x ≡ s = cc in absurd (omega (arith, same, above x i s xs rise.1 at_i))
Rise-place low (suc i) (suc j) s (x ∷ xs) rise at_i at_j = ap suc (Rise-place x i j s xs rise.1 at_i at_j)

-- an element that is replaced, where the others keep what they had or gain it
pub All-set : {A : Type 0} (P Q : A → Type 0) (xs : List A) (i : ℕ) (y : A) → All P xs
    → ((k : ℕ) (d : A) → k < length xs → k ≢ i → P (get_or xs k d) → Q (get_or xs k d)) → Q y → All Q (set xs i y)
All-set P Q xs i y all others new k d inside =
    let within : k < length xs = omega (arith, inside, length-set xs i y) in
    elim (cases_eq k i) [
      | inl here ↦
          let is : get_or (set xs i y) k d ≡ y = ap (λ j. get_or (set xs i y) j d) here ∙ get_or-set_same xs i y d (omega (arith, within, here)) in
          subst Q (sym is) new
      | inr away ↦ subst Q (sym (get_or-set_other xs i k y d away)) (others k d within away (all k d within))
    ]

-- a list that is written over by one as long is that one
pub refilled : {A : Type 0} (old xs : List A) → length xs ≡ length old → refill (length old) old xs ≡ xs
refilled old xs long = ap (λ n. refill n old xs) (sym long) ∙ take-append_seam xs (drop (length xs) old)

-- an element that is pushed, and then written over, is the last
pub written-last : {A : Type 0} (xs pushed lent : List A) (x y : A) (place : ℕ) → place ≡ length xs → pushed ≡ xs ++ x ∷ [] → lent ≡ pushed
    → refill (length pushed) pushed (set lent place y) ≡ xs ++ y ∷ []
written-last xs pushed lent x y place last is same =
    refilled pushed (set lent place y) (length-set lent place y ∙ ap length same)
    ∙ ap (λ ys. set ys place y) (same ∙ is)
    ∙ ap (λ k. set (xs ++ x ∷ []) k y) last
    ∙ set-append_seam xs x [] y

-- a vector whose elements were all written as a slice has these
pub written : {A : Type 0} (v : Vec A) (xs : List A) → length xs ≡ length v.items → (with_items v xs).items ≡ xs
written v xs long = ap (λ n. refill n v.items xs) (omega (arith, v.ok.0)) ∙ refilled v.items xs long

-- and the same where each of them was mapped
pub written-mapped : {A : Type 0} (g : A → A) (v : Vec A) (xs ys : List A) → xs ≡ v.items → ys ≡ map g xs → (with_items v ys).items ≡ map g v.items
written-mapped g v xs ys are mapped =
    let all = mapped ∙ ap (map g) are in
    written v ys (ap length all ∙ length-map v.items g) ∙ all

-- what holds of all holds of the first ones and of the last one
pub All-front : {A : Type 0} (P : A → Type 0) (xs ys : List A) → All P (xs ++ ys) → All P xs
All-front P [] ys all = All-nil P
All-front P (x ∷ xs) ys all = All-cons P x xs (All-first P x (xs ++ ys) all) (All-front P xs ys (All-others P x (xs ++ ys) all))

pub All-end : {A : Type 0} (P : A → Type 0) (xs : List A) (x : A) → All P (xs ++ x ∷ []) → P x
All-end P [] x all = All-first P x [] all
All-end P (y ∷ xs) x all = All-end P xs x (All-others P y (xs ++ x ∷ []) all)

All-reverse : {A : Type 0} (P : A → Type 0) (xs : List A) → All P xs → All P (reverse xs)
All-reverse P [] all = all
All-reverse P (x ∷ xs) all =
    subst (All P) (sym (reverse-append (x ∷ []) xs)) (All-append P (reverse xs) (x ∷ []) (All-reverse P xs (All-others P x xs all)) (All-cons P x [] (All-first P x xs all) (All-nil P)))

pub All-last : {A : Type 0} (P : A → Type 0) (xs : List A) → All P xs → ForSome (slice_get (reverse xs) 0) P
All-last {A = A} P xs all = go (reverse xs) (All-reverse P xs all)
  where
    go : (ys : List A) → All P ys → ForSome (slice_get ys 0) P
    go [] all x is = absurd (cc)
    go (y ∷ ys) all x is = let same : y ≡ x = cc in subst P same (All-first P y ys all)

-- what is made of each
pub All-flat_map : {A B : Type 0} (P : B → Type 0) (f : A → List B) (xs : List A) → ((x : A) → All P (f x)) → All P (flat_map f xs)
All-flat_map P f [] each = All-nil P
All-flat_map P f (x ∷ xs) each = All-append P (f x) (flat_map f xs) (each x) (All-flat_map P f xs each)

-- a number above all of some that rise
pub Rise-push : (low x : ℕ) (xs : List ℕ) → low < x → Rise low xs → All (λ y. y < x) xs → Rise low (xs ++ x ∷ [])
Rise-push low x [] above rise below = (above, tt)
Rise-push low x (y ∷ ys) above rise below = (rise.0, Rise-push y x ys (All-first (λ z. z < x) y ys below) rise.1 (All-others (λ z. z < x) y ys below))

-- what each element of a list adds, given those before it
pub along-all : {A B : Type 0} (adds : List A → List B → A → List B) (P : A → Type 0) (Q : B → Type 0)
    → ((before : List A) (added : List B) (x : A) → All P (before ++ x ∷ []) → All Q (adds before added x)) → (xs : List A) → All P xs → All Q (along adds xs)
along-all adds P Q each xs =
    along-both adds adds (λ before added same. All P before → All Q added) (λ none. All-nil Q)
    (λ before added same x holds all. All-append Q added (adds before added x) (holds (All-front P before (x ∷ []) all)) (each before added x all)) xs
