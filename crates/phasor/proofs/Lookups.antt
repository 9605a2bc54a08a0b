-- Look-ups of sets by their numbers: what one set more changes, and how the sets below a number grow with their count.
use Rattle.std.proofs.Common.{◌≡◌, ℕ, zero, suc, ◌+◌, ◌<◌, ◌≤◌, ◌==◌, List, [], ◌∷◌, ◌++◌, length, Option, Some, None, IfSome, refl, ap, sym, arith, ne_eqb, eq-eqb}
use Rattle.std.specs.List.{All}
use Rattle.std.proofs.lemmas.Bool.{cond-true}
use Rattle.std.proofs.lemmas.List.{length_push, nil_from_length}
use Rattle.std.proofs.lemmas.List.Elements.{All-push}
use Rattle.std.proofs.lemmas.List.Folds.{find-append}
use Rattle.std.proofs.lemmas.List.Recursion.{found_push_other}
use Rattle.ld_base.specs.declared.phases.SampleSet.{SampleSet}
use Rattle.phasor.specs.Sum.{set_numbered, followed_by, sets_before}

-- one set more leaves the look-ups of other numbers as they were
pub set_numbered-push_other : (n : ℕ) (pushed : List SampleSet) (set : SampleSet) → (set.number ≡ n → ⊥)
    → set_numbered n (pushed ++ set ∷ []) ≡ set_numbered n pushed
set_numbered-push_other n pushed set other =
    found_push_other (set_numbered n) (λ s. s.number == n) Some None refl (λ _ _. refl) pushed set (ne_eqb set.number n other)

-- one set more is found by its number, where no set had that number
pub set_numbered-push_same : (n : ℕ) (pushed : List SampleSet) (set : SampleSet) → set.number ≡ n → set_numbered n pushed ≡ None
    → set_numbered n (pushed ++ set ∷ []) ≡ Some set
set_numbered-push_same n pushed set same none =
    rw (find-append, none) (cond-true _ _ _ (eq-eqb set.number n same))

-- one set more leaves the sets below its number as they were
pub sets_before-push : (pushed : List SampleSet) (set : SampleSet) (count stop : ℕ) → stop ≤ set.number
    → sets_before (pushed ++ set ∷ []) count stop ≡ sets_before pushed count stop
sets_before-push pushed set zero stop below = refl
sets_before-push pushed set (suc count) zero below = refl
sets_before-push pushed set (suc count) (suc stop) below =
    cc (sets_before-push pushed set count stop (omega arith), set_numbered-push_other stop pushed set (omega arith))

-- the sets up to one set more are those below its number, and it, where no set had that number
pub sets_before-push_same : (pushed : List SampleSet) (set : SampleSet) (count : ℕ) → set_numbered set.number pushed ≡ None
    → sets_before (pushed ++ set ∷ []) (suc count) (suc set.number) ≡ followed_by (sets_before pushed count set.number) (Some set)
sets_before-push_same pushed set count new =
    cc (sets_before-push pushed set count set.number (omega arith), set_numbered-push_same set.number pushed set refl new)

-- with one set more a run is longer by one
length-followed_by : (sets : Option (List SampleSet)) (next : Option SampleSet) (count : ℕ) (all : List SampleSet)
    → ((before : List SampleSet) → sets ≡ Some before → length before ≡ count) → followed_by sets next ≡ Some all → length all ≡ suc count
length-followed_by None next count all before e = cc
length-followed_by (Some sets) None count all before e = cc
length-followed_by (Some sets) (Some set) count all before e =
    let same : all ≡ sets ++ set ∷ [] = cc in
    omega (arith, ap length same, length_push sets set, before sets refl)

-- the sets of that many numbers are that many
pub length-sets_before : (s : List SampleSet) (count stop : ℕ) (sets : List SampleSet) → sets_before s count stop ≡ Some sets
    → length sets ≡ count
length-sets_before s zero stop sets e = let none : sets ≡ [] = cc in ap length none
length-sets_before s (suc count) zero sets e = cc
length-sets_before s (suc count) (suc stop) sets e =
    length-followed_by _ (set_numbered stop s) count sets (length-sets_before s count stop) e

-- where one run is another without its oldest, it is so with one set more too
followed_by-fewer : (more fewer : Option (List SampleSet)) (next : Option SampleSet) (oldest : SampleSet) (rest : List SampleSet)
    → (more ≡ Some [] → ⊥) → ((first : SampleSet) (others : List SampleSet) → more ≡ Some (first ∷ others) → fewer ≡ Some others)
    → followed_by more next ≡ Some (oldest ∷ rest) → followed_by fewer next ≡ Some rest
followed_by-fewer None fewer next oldest rest some step e = cc
followed_by-fewer (Some sets) fewer None oldest rest some step e = cc
followed_by-fewer (Some []) fewer (Some set) oldest rest some step e = absurd (some refl)
followed_by-fewer (Some (first ∷ others)) fewer (Some set) oldest rest some step e = cc (step first others refl)

-- the sets of one number fewer are those without the oldest
pub sets_before-fewer : (s : List SampleSet) (count stop : ℕ) (oldest : SampleSet) (rest : List SampleSet)
    → sets_before s (suc count) stop ≡ Some (oldest ∷ rest) → sets_before s count stop ≡ Some rest
sets_before-fewer s count zero oldest rest e = cc
sets_before-fewer s zero (suc stop) oldest rest e =
    let none : length rest ≡ 0 = omega (arith, length-sets_before s 1 (suc stop) (oldest ∷ rest) e) in
    ap Some (sym (nil_from_length rest none))
sets_before-fewer s (suc count) (suc stop) oldest rest e =
    followed_by-fewer _ _ (set_numbered stop s) oldest rest (λ none. omega (arith, length-sets_before s (suc count) stop [] none)) (sets_before-fewer s count stop) e

-- where one run is lacking if another is, it is so with one set more too
followed_by-none : (fewer more : Option (List SampleSet)) (next : Option SampleSet) → (fewer ≡ None → more ≡ None)
    → followed_by fewer next ≡ None → followed_by more next ≡ None
followed_by-none None more next none e = rw (none refl) refl
followed_by-none (Some sets) None next none e = refl
followed_by-none (Some sets) (Some others) None none e = refl
followed_by-none (Some sets) (Some others) (Some set) none e = cc

-- where a set of that many numbers is lacking, one is lacking of more numbers too
pub sets_before-none : (s : List SampleSet) (count more stop : ℕ) → count ≤ more → sets_before s count stop ≡ None
    → sets_before s more stop ≡ None
sets_before-none s zero more stop le none = cc
sets_before-none s (suc count) zero stop le none = absurd (omega arith)
sets_before-none s (suc count) (suc more) zero le none = refl
sets_before-none s (suc count) (suc more) (suc stop) le none =
    followed_by-none _ _ (set_numbered stop s) (sets_before-none s count more stop (omega arith)) none

-- what holds of each set that is found, holds of all of a run
pub All-sets_before : (P : SampleSet → Type 0) (judged : List SampleSet) (count stop : ℕ) (sets : List SampleSet)
    → ((k : ℕ) → stop ≤ k + count → k < stop → IfSome (set_numbered k judged) P) → sets_before judged count stop ≡ Some sets → All P sets
All-sets_before P judged zero stop sets found e = let none : sets ≡ [] = cc in rw none (λ k d within. absurd (omega arith))
All-sets_before P judged (suc count) zero sets found e = cc
All-sets_before P judged (suc count) (suc stop) sets found e =
    by (sets_before judged count stop) (set_numbered stop judged) e (found stop (omega arith) (omega arith))
    (λ before is. All-sets_before P judged count stop before (λ k from below. found k (omega arith) (omega arith)) is)
  where
    by : (before : Option (List SampleSet)) (next : Option SampleSet) → followed_by before next ≡ Some sets → IfSome next P
        → ((all : List SampleSet) → before ≡ Some all → All P all) → All P sets
    by None next e holds rest = cc
    by (Some before) None e holds rest = cc
    by (Some before) (Some set) e holds rest =
        let same : before ++ set ∷ [] ≡ sets = cc in
        rw (← same) (All-push P before set (rest before refl) holds)
