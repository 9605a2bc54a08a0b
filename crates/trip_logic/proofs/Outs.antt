-- In which sets a test is passed: what one set more leaves as it was, fewer consecutive sets, and gaps between sets.
use Rattle.std.specs.Prelude.{ℕ, zero, suc, ◌≡◌, ◌<◌, ◌≤◌, true, false, List, [], ◌∷◌, ◌++◌, Option, Some, None, option_map}
use Rattle.std.proofs.Common.{refl, ap, sym, ◌∙◌, inl, inr, arith}
use Rattle.std.proofs.lemmas.Bool.{and_parts, and_from, cases_lt, false≢true}
use Rattle.ld_base.specs.declared.phases.SampleSet.{SampleSet}
use Rattle.phasor.specs.Sum.{set_numbered, followed_by, sets_before, sums_of, sums_before}
use Rattle.phasor.specs.Window.{Kept, StandsFor}
use Rattle.phasor.proofs.Lookups.{set_numbered-push_other, sets_before-push}
use Rattle.trip_logic.specs.TripAt.{Test, passes_where_known, OutBy, outs_before_by, verdict_by}

-- one set more leaves the sums below its number as they were
sums_before-push : (c : ℕ) (judged : List SampleSet) (set : SampleSet) (stop : ℕ) → stop ≤ set.number
    → sums_before c (judged ++ set ∷ []) stop ≡ sums_before c judged stop
sums_before-push c judged set stop below = ap (option_map (sums_of c)) (sets_before-push judged set c stop below)

-- so it leaves whether the test was passed there
OutBy-push : (test : Test) (c : ℕ) (judged : List SampleSet) (set : SampleSet) (n : ℕ) → n < set.number
    → OutBy test c (judged ++ set ∷ []) n ≡ OutBy test c judged n
OutBy-push test c judged set n below = ap (passes_where_known test) (sums_before-push c judged set (suc n) (omega arith))

-- also in consecutive sets
pub outs_before_by-push : (test : Test) (c : ℕ) (judged : List SampleSet) (set : SampleSet) (count stop : ℕ) → stop ≤ set.number
    → outs_before_by test c (judged ++ set ∷ []) count stop ≡ outs_before_by test c judged count stop
outs_before_by-push test c judged set zero stop below = refl
outs_before_by-push test c judged set (suc count) zero below = refl
outs_before_by-push test c judged set (suc count) (suc stop) below =
    rw (OutBy-push test c judged set stop (omega arith), outs_before_by-push test c judged set count stop (omega arith)) refl

-- and the verdicts there
pub verdict_by-push : (test : Test) (c count : ℕ) (judged : List SampleSet) (set : SampleSet) (n : ℕ) → n < set.number
    → verdict_by test c count (judged ++ set ∷ []) n ≡ verdict_by test c count judged n
verdict_by-push test c count judged set n below =
    let last : suc n ≤ set.number = omega arith in
    rw (sums_before-push c judged set (suc n) last, outs_before_by-push test c judged set count (suc n) last) refl

-- a test that was passed in more consecutive sets was so in fewer
pub outs_before_by-fewer : (test : Test) (c : ℕ) (judged : List SampleSet) (fewer more stop : ℕ) → fewer ≤ more
    → outs_before_by test c judged more stop ≡ true → outs_before_by test c judged fewer stop ≡ true
outs_before_by-fewer test c judged zero more stop le outs = refl
outs_before_by-fewer test c judged (suc fewer) zero stop le outs = absurd (omega arith)
outs_before_by-fewer test c judged (suc fewer) (suc more) zero le outs = outs
outs_before_by-fewer test c judged (suc fewer) (suc more) (suc stop) le outs =
    let both = and_parts _ _ outs in
    and_from _ _ both.0 (outs_before_by-fewer test c judged fewer more stop (omega arith) both.1)

-- there are no sums where the set before the last is missing
sums_before-missing : (c : ℕ) (judged : List SampleSet) (n : ℕ) → 1 < c → set_numbered n judged ≡ None
    → sums_before c judged (suc (suc n)) ≡ None
sums_before-missing zero judged n long missing = absurd (omega arith)
sums_before-missing (suc zero) judged n long missing = absurd (omega arith)
sums_before-missing (suc (suc c)) judged n long missing = rw (missing, none (sets_before judged c n)) refl
  where
    none : (sets : Option (List SampleSet)) → followed_by sets None ≡ None
    none None = refl
    none (Some sets) = refl

-- a test that is passed at one set more has no gap before that set
pub OutBy-next : (test : Test) (c : ℕ) (judged : List SampleSet) (set : SampleSet) (window : Kept) → StandsFor window judged → 1 < c
    → window.next ≤ set.number → OutBy test c (judged ++ set ∷ []) set.number ≡ true → window.next ≡ set.number
OutBy-next test c judged set window stands long later out = elim (cases_lt window.next set.number) [
  | inl gap ↦ absurd (false≢true (sym (inside set.number gap refl) ∙ out))
  | inr near ↦ omega arith
]
  where
    inside : (n : ℕ) → window.next < n → n ≡ set.number → OutBy test c (judged ++ set ∷ []) n ≡ false
    inside zero gap is = absurd (omega arith)
    inside (suc n) gap is =
        let missing = set_numbered-push_other n judged set (omega arith) ∙ stands.below n (omega arith) in
        ap (passes_where_known test) (sums_before-missing c (judged ++ set ∷ []) n long missing)
