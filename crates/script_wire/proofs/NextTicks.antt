-- Before its next tick a wire is quiet.
use Rattle.std.proofs.Common.{◌≡◌, ℕ, ◌<◌, ◌≤◌, max, Bool, true, false, ◌&&◌, nat_le, if◌then◌else◌, List, [], ◌∷◌, fold, Option, Some, None, unwrap_or, arith, sym, ap, refl, subst}
use Rattle.std.proofs.lemmas.Bool.Decides.{nat_tests}
use Rattle.ld_base.specs.Script.{Due, Script, after_due, covers, earlier, failing_from, first_due, is_take_failure, next_due, next_failing, next_tick, take_fails}
use Rattle.ld_base.specs.declared.rule.Rule.{Rule}

-- a tick that is there isn't before another
abbrev IsFrom : ℕ → Option ℕ → Type 0
IsFrom t None = Unit {0}
IsFrom t (Some tick) = t ≤ tick

-- a tick is there, and not after another
abbrev IsBy : ℕ → Option ℕ → Type 0
IsBy t None = ⊥
IsBy t (Some tick) = tick ≤ t

earlier_from : (t : ℕ) (a b : Option ℕ) → IsFrom t a → IsFrom t b → IsFrom t (earlier a b)
earlier_from t None b h k = k
earlier_from t (Some x) None h k = h
earlier_from t (Some x) (Some y) h k = omega arith

first_by : (t : ℕ) (a b : Option ℕ) → IsBy t a → IsBy t (earlier a b)
first_by t None b h = absurd h
first_by t (Some x) None h = h
first_by t (Some x) (Some y) h = omega arith

second_by : (t : ℕ) (a b : Option ℕ) → IsBy t b → IsBy t (earlier a b)
second_by t None b h = h
second_by t (Some x) None h = absurd h
second_by t (Some x) (Some y) h = omega arith

-- the ticks of some rules
abbrev least_of : ℕ → Option ℕ → List Rule → Option ℕ
least_of t least rules = fold (λ least rule. earlier least (failing_from t rule)) least rules

test_from : (b : Bool) (t first : ℕ) → IsFrom t (if b then Some (max t first) else None)
test_from true t first = omega arith
test_from false t first = tt

least_from : (rules : List Rule) (t : ℕ) (least : Option ℕ) → IsFrom t least → IsFrom t (least_of t least rules)
least_from [] t least h = h
least_from (rule ∷ rules) t least h =
    least_from rules t (earlier least (failing_from t rule))
    (earlier_from t least (failing_from t rule) h (test_from (is_take_failure rule.act && nat_le (max t rule.first) rule.last) t rule.first))

least_by : (rules : List Rule) (t by : ℕ) (least : Option ℕ) → IsBy by least → IsBy by (least_of t least rules)
least_by [] t by least h = h
least_by (rule ∷ rules) t by least h = least_by rules t by (earlier least (failing_from t rule)) (first_by by least (failing_from t rule) h)

-- a rule that makes a `take` fail at a tick
failing_by : (rule : Rule) (from at : ℕ) → from ≤ at → covers at rule ≡ true → is_take_failure rule.act ≡ true → IsBy at (failing_from from rule)
failing_by rule from at h c f =
    let begun : rule.first ≤ at = grind (arith, nat_tests) in
    let lasts : nat_le (max from rule.first) rule.last ≡ true = grind (arith, nat_tests) in
    let small : max from rule.first ≤ at = omega arith in
    let e : failing_from from rule ≡ Some (max from rule.first) = rw (f, lasts) refl in
    subst (λ (tick : Option ℕ). IsBy at tick) (sym e) small

-- some rules that make it fail
fails_by : (rules : List Rule) (from at : ℕ) (least : Option ℕ) → from ≤ at → take_fails rules at ≡ true → IsBy at (least_of from least rules)
fails_by [] from at least h e = cc
fails_by (rule ∷ rules) from at least h e = by_rule (covers at rule) (is_take_failure rule.act) refl refl (λ k. fails_by rules from at (earlier least (failing_from from rule)) h k)
  where
    by_rule : (b f : Bool) → covers at rule ≡ b → is_take_failure rule.act ≡ f
        → (take_fails rules at ≡ true → IsBy at (least_of from (earlier least (failing_from from rule)) rules)) → IsBy at (least_of from least (rule ∷ rules))
    by_rule true true c f other = least_by rules from at (earlier least (failing_from from rule)) (second_by at least (failing_from from rule) (failing_by rule from at h c f))
    by_rule true false c f other = other (rw (c, f) at e)
    by_rule false f c g other = other (rw c at e)

due_from : (queue : List Due) (t : ℕ) → IsFrom t (next_due queue t)
due_from [] t = tt
due_from (first ∷ rest) t = omega arith

or_from : (tick : Option ℕ) (t other : ℕ) → IsFrom t tick → t ≤ other → t ≤ unwrap_or tick other
or_from None t other h k = k
or_from (Some tick) t other h k = h

or_by : (tick : Option ℕ) (t other : ℕ) → IsBy t tick → unwrap_or tick other ≤ t
or_by None t other h = absurd h
or_by (Some tick) t other h = h

-- the next tick is no earlier one
pub not_before : (script : Script) (t : ℕ) → t ≤ next_tick script t
not_before script t =
    or_from (earlier (next_failing script.rules t) (next_due script.queue t)) t (max 20000000 t)
    (earlier_from t (next_failing script.rules t) (next_due script.queue t) (least_from script.rules t None tt) (due_from script.queue t)) (omega arith)

module _ (script : Script) (from at : ℕ) (h : from ≤ at) (before : at < next_tick script from) where
  early : IsBy at (earlier (next_failing script.rules from) (next_due script.queue from)) → ⊥
  early k =
      let small = or_by (earlier (next_failing script.rules from) (next_due script.queue from)) at (max 20000000 from) k in
      omega arith

  -- before it no `take` fails
  pub none_fails : take_fails script.rules at ≡ false
  none_fails = by_test (take_fails script.rules at) refl
    where
      by_test : (b : Bool) → take_fails script.rules at ≡ b → take_fails script.rules at ≡ false
      by_test false e = e
      by_test true e = absurd (early (first_by at (next_failing script.rules from) (next_due script.queue from) (fails_by script.rules from at None h e)))

  none_due : (queue : List Due) → (IsBy at (next_due queue from) → ⊥) → (first_due queue at ≡ None) × (after_due queue at ≡ queue)
  none_due [] k = (refl, refl)
  none_due (first ∷ rest) k =
      let late : nat_le first.due at ≡ false = grind (arith, nat_tests, k) in
      (ap (λ (b : Bool). if b then Some first.bits else None) late, ap (λ (b : Bool). if b then rest else first ∷ rest) late)

  -- and nothing is due
  pub nothing_due : (first_due script.queue at ≡ None) × (after_due script.queue at ≡ script.queue)
  nothing_due = none_due script.queue (λ k. early (second_by at (next_failing script.rules from) (next_due script.queue from) k))
