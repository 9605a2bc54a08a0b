-- What turned among the first alarms.
use Rattle.std.proofs.Common.{◌≡◌, ℕ, zero, suc, ◌+◌, ◌<◌, Bool, true, false, not, List, [], ◌∷◌, ◌++◌, map, take, length, slice_index_or, refl, arith, sym, ap, ◌∙◌}
use Rattle.std.proofs.Math.Seq.{take-suc}
use Rattle.std.proofs.lemmas.List.{map-append, append-nil}
use Rattle.std.proofs.lemmas.List.Elements.{filter-append}
use Rattle.std.specs.List.{filter}
use mathlib.Core.Bool.{beq}
use Rattle.channel_alarm.specs.Alarms.{Standing, all, differs, stands}
use Rattle.channel_alarm.specs.declared.alarm.Alarm.{Alarm}
use Rattle.channel_alarm.specs.declared.alarm.Alarm.TheVariants.{Unlocked}
use Rattle.channel_alarm.specs.declared.alarm.Turn.{Turn}

-- the alarm at a place of the order
abbrev pub alarm_at : ℕ → Alarm
alarm_at k = slice_index_or all k Unlocked

-- what turned among some alarms
abbrev pub turned_of : (Alarm → Bool) → (Alarm → Bool) → List Alarm → List Turn
turned_of old new alarms = map (λ alarm. record { alarm = alarm; on = new alarm }) (filter (λ alarm. differs (old alarm) (new alarm)) alarms)

-- what turned among the first k alarms
abbrev pub turned : (Alarm → Bool) → (Alarm → Bool) → ℕ → List Turn
turned old new k = turned_of old new (take k all)

-- whether an alarm is on, by its place
stands_at : (s : Standing) (k : ℕ) → k < 5 → stands s (alarm_at k) ≡ slice_index_or s.on k false
stands_at s zero h = refl
stands_at s (suc zero) h = refl
stands_at s (suc (suc zero)) h = refl
stands_at s (suc (suc (suc zero))) h = refl
stands_at s (suc (suc (suc (suc zero)))) h = refl
stands_at s (suc (suc (suc (suc (suc k))))) h = absurd (omega arith)

-- a state of all alarms, by the place of one
state_at : (on : Alarm → Bool) (k : ℕ) → k < 5 → slice_index_or (map on all) k false ≡ on (alarm_at k)
state_at on zero h = refl
state_at on (suc zero) h = refl
state_at on (suc (suc zero)) h = refl
state_at on (suc (suc (suc zero))) h = refl
state_at on (suc (suc (suc (suc zero)))) h = refl
state_at on (suc (suc (suc (suc (suc k))))) h = absurd (omega arith)

-- states differ where they are not equal
differs_test : (old new : Bool) → differs old new ≡ not (beq new old)
differs_test true true = refl
differs_test true false = refl
differs_test false true = refl
differs_test false false = refl

-- of one element more, the front of a list with it
module _ {A B : Type 0} (p : A → Bool) (f : A → B) (xs : List A) (k : ℕ) (d : A) (h : k < length xs) where
  one_more : map f (filter p (take (k + 1) xs)) ≡ map f (filter p (take k xs)) ++ map f (filter p (slice_index_or xs k d ∷ []))
  one_more =
      let next : k + 1 ≡ suc k = omega arith in
      let last : take (k + 1) xs ≡ take k xs ++ slice_index_or xs k d ∷ [] = rw next (take-suc xs k d h) in
      rw (last, filter-append p (take k xs) (slice_index_or xs k d ∷ [])) (map-append f (filter p (take k xs)) (filter p (slice_index_or xs k d ∷ [])))

  pub kept_more : p (slice_index_or xs k d) ≡ true → map f (filter p (take (k + 1) xs)) ≡ map f (filter p (take k xs)) ++ f (slice_index_or xs k d) ∷ []
  kept_more e = rw e at one_more

  pub left_more : p (slice_index_or xs k d) ≡ false → map f (filter p (take (k + 1) xs)) ≡ map f (filter p (take k xs))
  left_more e = (rw e at one_more) ∙ append-nil (map f (filter p (take k xs)))

-- of one alarm more, what turned with it
module _ (s : Standing) (new : Alarm → Bool) (on : List Bool) (k : ℕ) (h : k < 5) (on_is : on ≡ map new all) where
  state : slice_index_or on k false ≡ new (alarm_at k)
  state = ap (λ (xs : List Bool). slice_index_or xs k false) on_is ∙ state_at new k h

  test_at : (answer : Bool) → not (beq (slice_index_or on k false) (slice_index_or s.on k false)) ≡ answer → differs (stands s (alarm_at k)) (new (alarm_at k)) ≡ answer
  test_at answer e = differs_test (stands s (alarm_at k)) (new (alarm_at k)) ∙ rw (stands_at s k h, sym state) e

  pub turns_one : not (beq (slice_index_or on k false) (slice_index_or s.on k false)) ≡ true
      → turned (stands s) new (k + 1) ≡ turned (stands s) new k ++ record { alarm = alarm_at k; on = slice_index_or on k false } ∷ []
  turns_one e = rw state (kept_more (λ alarm. differs (stands s alarm) (new alarm)) (λ alarm. record { alarm = alarm; on = new alarm }) all k Unlocked h (test_at true e))

  pub turns_none : not (beq (slice_index_or on k false) (slice_index_or s.on k false)) ≡ false → turned (stands s) new (k + 1) ≡ turned (stands s) new k
  turns_none e = left_more (λ alarm. differs (stands s alarm) (new alarm)) (λ alarm. record { alarm = alarm; on = new alarm }) all k Unlocked h (test_at false e)
