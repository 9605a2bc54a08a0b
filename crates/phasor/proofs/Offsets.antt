-- A constant adds nothing to the sum of a full cycle: by numbers, the factors of a cycle add up to zero.
use Rattle.std.proofs.Common.{◌≡◌, ◌∙◌, sym, ap, refl, ℕ, zero, suc, ◌+◌, ◌-◌, ◌<◌, ◌≤◌, ◌==◌, Bool, true, false, if◌then◌else◌, ℤ, pos, ◌+ℤ◌, ◌*ℤ◌, List, [], ◌∷◌, Option, Some, None, option_map, inl, inr, arith}
use Rattle.std.proofs.Math.Nat.{add-mod_right}
use Rattle.std.proofs.Math.IntN.{*ℤ-zero}
use Rattle.std.proofs.lemmas.Bool.{cases_lt, eqb-true}
use Rattle.std.proofs.lemmas.Int.{ints}
use Rattle.std.proofs.lemmas.List.Sums.{fold_push}
use Rattle.ld_base.specs.Settings.{is_cycle}
use Rattle.ld_base.specs.declared.phases.SampleSet.{SampleSet}
use Rattle.phasor.specs.Factors.{cosine, sine, factor, weighed}
use Rattle.phasor.specs.Offset.{value_at, IsMoved, Sum}
use Rattle.phasor.specs.Point.{Point, origin, plus, scaled}
use Rattle.phasor.specs.Sizes.{sum_at}
use Rattle.phasor.specs.Sum.{set_numbered, followed_by, sets_before, of_three, current, sum_of, sums_of}
use Rattle.phasor.proofs.Cycles.{cycle_cases}
use Rattle.phasor.proofs.Differences.{+ℤ-*ℤ, *ℤ-+ℤ}
use Rattle.phasor.proofs.Points.{same_point}
use Rattle.phasor.proofs.Threes.{of_three_at}

-- the factors of the `count` numbers below `stop`, added up
abbrev factors_before : ℕ → ℕ → ℕ → Point
factors_before c zero stop = origin
factors_before c (suc count) zero = origin
factors_before c (suc count) (suc stop) = plus (factors_before c count stop) (factor c stop)

-- as many factors from one number on take in the next and lose the first
factors_slide : (c count k : ℕ)
    → plus (factors_before c count (suc (k + count))) (factor c k) ≡ plus (factors_before c count (k + count)) (factor c (k + count))
factors_slide c zero k = let same : k + 0 ≡ k = omega arith in rw same refl
factors_slide c (suc count) k =
    let next : k + suc count ≡ suc (k + count) = omega arith in
    rw next (swapped (factors_before c count (suc (k + count))) (factor c (suc (k + count))) (factor c k) ∙ ap (λ p. plus p (factor c (suc (k + count)))) (factors_slide c count k))
  where
    swapped : (p q r : Point) → plus (plus p q) r ≡ plus (plus p r) q
    swapped p q r = same_point _ _ (omega (arith, ints)) (omega (arith, ints))

-- what is added on both sides may go
plus_cancel : (p q r : Point) → plus p r ≡ plus q r → p ≡ q
plus_cancel p q r e =
    let re = ap (λ (z : Point). z.re) e in
    let im = ap (λ (z : Point). z.im) e in
    same_point p q (omega (arith, ints, re)) (omega (arith, ints, im))

-- those of a whole cycle are as much from each number on
factors_cycle : (c k : ℕ) → factors_before c c (k + c) ≡ factors_before c c c
factors_cycle c zero = let same : 0 + c ≡ c = omega arith in rw same refl
factors_cycle c (suc k) =
    let next : suc k + c ≡ suc (k + c) = omega arith in
    let again : factor c (k + c) ≡ factor c k = rw (add-mod_right k c) refl in
    rw next (plus_cancel (factors_before c c (suc (k + c))) (factors_before c c (k + c)) (factor c k) (factors_slide c c k ∙ ap (plus (factors_before c c (k + c))) again) ∙ factors_cycle c k)

-- and add up to zero
factors_zero : (c : ℕ) → is_cycle c ≡ true → factors_before c c c ≡ origin
unfolding cosine sine
factors_zero c h = cycle_cases (λ c. factors_before c c c ≡ origin) c h refl refl refl refl refl

-- the sum of the `count` numbers below `stop`, where all their sets were judged
abbrev sum_before : ℕ → (SampleSet → ℤ) → List SampleSet → ℕ → ℕ → Option Point
sum_before c value judged count stop = option_map (sum_of c value) (sets_before judged count stop)

-- a sum that may be missing, and one more
abbrev and_more : Option Point → Option Point → Option Point
and_more None next = None
and_more (Some p) None = None
and_more (Some p) (Some q) = Some (plus p q)

-- a set that was found has the number
found_number : (n : ℕ) (judged : List SampleSet) (set : SampleSet) → set_numbered n judged ≡ Some set → set.number ≡ n
found_number n [] set e = cc
found_number n (first ∷ judged) set e = by (first.number == n) refl e (found_number n judged set)
  where
    by : (b : Bool) → (first.number == n) ≡ b → (if b then Some first else set_numbered n judged) ≡ Some set
        → (set_numbered n judged ≡ Some set → set.number ≡ n) → set.number ≡ n
    by true is e rest = let same : first ≡ set = cc in rw (← same) (eqb-true _ _ is)
    by false is e rest = rest e

-- one number more in a sum
sum_before-suc : (c : ℕ) (value : SampleSet → ℤ) (judged : List SampleSet) (count stop : ℕ)
    → sum_before c value judged (suc count) (suc stop)
    ≡ and_more (sum_before c value judged count stop) (option_map (λ v. weighed c stop v) (option_map value (set_numbered stop judged)))
sum_before-suc c value judged count stop = by (sets_before judged count stop) (set_numbered stop judged) refl
  where
    by : (sets : Option (List SampleSet)) (next : Option SampleSet) → set_numbered stop judged ≡ next
        → option_map (sum_of c value) (followed_by sets next) ≡ and_more (option_map (sum_of c value) sets) (option_map (λ v. weighed c stop v) (option_map value next))
    by None next e = refl
    by (Some sets) None e = refl
    by (Some sets) (Some set) e =
        rw (fold_push (λ sum set. plus sum (weighed c set.number (value set))) origin sets set, found_number stop judged set e) refl

-- each value of a sum that is moved by a constant takes in its factor as many times
moved_more : (c stop : ℕ) (constant : ℤ) (p weights : Point) (v : ℤ)
    → plus (plus p (scaled constant weights)) (weighed c stop (v +ℤ constant)) ≡ plus (plus p (weighed c stop v)) (scaled constant (plus weights (factor c stop)))
moved_more c stop constant p weights v = same_point _ _ (part p.re weights.re _) (part p.im weights.im _)
  where
    part : (x w f : ℤ) → (x +ℤ constant *ℤ w) +ℤ (v +ℤ constant) *ℤ f ≡ (x +ℤ v *ℤ f) +ℤ constant *ℤ (w +ℤ f)
    part x w f =
        let product = constant *ℤ w in
        let one = v *ℤ f in
        let other = constant *ℤ f in
        rw (+ℤ-*ℤ v constant f, *ℤ-+ℤ constant w f) (omega (arith, ints))

-- a sum that may be missing, and a point more
abbrev moved_by : Point → Option Point → Option Point
moved_by more sum = option_map (λ p. plus p more) sum

-- in the `count` numbers below `stop` a value moved by a constant moves the sum by as many times the factors
module _ (station phase c : ℕ) (constant : ℤ) (judged moved : List SampleSet) where
  sum_before-moved : (count stop : ℕ)
      → ((k : ℕ) → stop ≤ k + count → k < stop → value_at station phase moved k ≡ option_map (λ value. value +ℤ constant) (value_at station phase judged k))
      → sum_before c (current station phase) moved count stop
      ≡ moved_by (scaled constant (factors_before c count stop)) (sum_before c (current station phase) judged count stop)
  sum_before-moved zero stop is = ap Some (same_point _ _ (none constant) (none constant))
    where
      none : (k : ℤ) → pos 0 ≡ pos 0 +ℤ k *ℤ pos 0
      none k = rw (*ℤ-zero k) refl
  sum_before-moved (suc count) zero is = refl
  sum_before-moved (suc count) (suc stop) is =
      sum_before-suc c (current station phase) moved count stop
      ∙ (λ i. and_more (sum_before-moved count stop (λ k from below. is k (omega arith) (omega arith)) i)
      (option_map (λ v. weighed c stop v) (is stop (omega arith) (omega arith) i)))
      ∙ step (sum_before c (current station phase) judged count stop) (value_at station phase judged stop)
      ∙ ap (moved_by (scaled constant (factors_before c (suc count) (suc stop)))) (sym (sum_before-suc c (current station phase) judged count stop))
    where
      step : (p : Option Point) (v : Option ℤ)
          → and_more (moved_by (scaled constant (factors_before c count stop)) p) (option_map (λ v. weighed c stop v) (option_map (λ value. value +ℤ constant) v))
          ≡ moved_by (scaled constant (factors_before c (suc count) (suc stop))) (and_more p (option_map (λ v. weighed c stop v) v))
      step None v = refl
      step (Some p) None = refl
      step (Some p) (Some v) = ap Some (moved_more c stop constant p (factors_before c count stop) v)

-- there are no sets where the numbers don't reach down so far
sets_before-low : (judged : List SampleSet) (count stop : ℕ) → stop < count → sets_before judged count stop ≡ None
sets_before-low judged zero stop low = absurd (omega arith)
sets_before-low judged (suc count) zero low = refl
sets_before-low judged (suc count) (suc stop) low = rw (sets_before-low judged count stop (omega arith)) refl

-- so over a whole cycle the sum is as it was
sum_before-cycle : (station phase c : ℕ) (constant : ℤ) (judged moved : List SampleSet) (n : ℕ) → is_cycle c ≡ true
    → IsMoved station phase constant c n judged moved
    → sum_before c (current station phase) moved c (suc n) ≡ sum_before c (current station phase) judged c (suc n)
sum_before-cycle station phase c constant judged moved n h is = elim (cases_lt (suc n) c) [
  | inl low ↦ rw (sets_before-low judged c (suc n) low, sets_before-low moved c (suc n) low) refl
  | inr reached ↦
      let last : suc n ≡ (suc n - c) + c = omega arith in
      let zero_sum : factors_before c c (suc n) ≡ origin = ap (factors_before c c) last ∙ factors_cycle c (suc n - c) ∙ factors_zero c h in
      sum_before-moved station phase c constant judged moved c (suc n) (λ k from below. is k (omega arith) (omega arith))
      ∙ ap (λ weights. moved_by (scaled constant weights) (sum_before c (current station phase) judged c (suc n))) zero_sum
      ∙ unmoved (sum_before c (current station phase) judged c (suc n))
]
  where
    unmoved : (sum : Option Point) → moved_by (scaled constant origin) sum ≡ sum
    unmoved None = refl
    unmoved (Some p) = ap Some (same_point _ _ (rw (*ℤ-zero constant) (omega (arith, ints))) (rw (*ℤ-zero constant) (omega (arith, ints))))

-- the sum of a station's phase among all sums
sum_at-sums : (station phase c : ℕ) (sets : Option (List SampleSet)) → station < 3 → phase < 3
    → option_map (λ sums. sum_at sums station phase) (option_map (sums_of c) sets) ≡ option_map (sum_of c (current station phase)) sets
sum_at-sums station phase c None hs hp = refl
sum_at-sums station phase c (Some sets) hs hp =
    ap Some (rw (of_three_at (λ s. of_three (λ p. sum_of c (current s p) sets)) station [] hs) (of_three_at (λ p. sum_of c (current station p) sets) phase origin hp))

-- the law
pub Sum-moved : (station phase c n : ℕ) (constant : ℤ) (judged moved : List SampleSet) → station < 3 → phase < 3
    → is_cycle c ≡ true → IsMoved station phase constant c n judged moved → Sum station phase c moved n ≡ Sum station phase c judged n
Sum-moved station phase c n constant judged moved hs hp h is =
    sum_at-sums station phase c (sets_before moved c (suc n)) hs hp
    ∙ sum_before-cycle station phase c constant judged moved n h is
    ∙ sym (sum_at-sums station phase c (sets_before judged c (suc n)) hs hp)
