-- The phases of a clock while one rate holds: they rise in a line.
use Rattle.std.specs.Prelude.{pos, unsigned_abs, zero, suc}
use Rattle.std.proofs.Common.{◌≡◌, ℕ, ◌+◌, ◌-◌, ◌*◌, ◌<◌, ◌≤◌, min, List, [], ◌∷◌, ◌++◌, length, take, get_or, take_all, refl, ap, sym, ◌∙◌, arith, inl, inr}
use Rattle.std.proofs.lemmas.Bool.{cases_lt}
use Rattle.std.proofs.lemmas.Bool.Decides.{nat_tests}
use Rattle.std.proofs.lemmas.List.{take_more}
use Rattle.std.proofs.lemmas.List.Elements.{All-take}
use Rattle.std.proofs.lemmas.List.Sums.{fold_push}
use Rattle.std.proofs.Math.Nat.{mul-suc}
use Rattle.pingpong.specs.Clock.{Course, rate_at, gain, phase}
use Rattle.pingpong.specs.declared.clock.RateFrom.{RateFrom}
use Rattle.pingpong.proofs.Gains.{AreWithin, chosen, phase-suc, phase-most}

-- with one rate more: nothing changes up to its beginning, and from there on it holds
rate_at-push : (rates : List RateFrom) (r : RateFrom) (tick : ℕ) → rate_at (rates ++ r ∷ []) tick ≡ chosen tick (rate_at rates tick) r
rate_at-push rates r tick = fold_push (chosen tick) (pos 0) rates r

pub phase-before : (start : ℕ) (rates : List RateFrom) (r : RateFrom) (t : ℕ) → t ≤ r.from
    → phase (record { start = start; rates = rates ++ r ∷ [] }) t ≡ phase (record { start = start; rates = rates }) t
phase-before start rates r zero early = refl
phase-before start rates r (suc t) early =
    let same = phase-before start rates r t (omega arith) in
    let rate : rate_at (rates ++ r ∷ []) t ≡ rate_at rates t = rate_at-push rates r t ∙ grind (arith, nat_tests) in
    rw (same, rate) refl

phase-since : (start : ℕ) (rates : List RateFrom) (r : RateFrom) (at count : ℕ) → r.from ≤ at
    → phase (record { start = start; rates = rates ++ r ∷ [] }) (at + count)
    ≡ phase (record { start = start; rates = rates ++ r ∷ [] }) at + gain r.rate * count
phase-since start rates r at zero late = let here : at + 0 ≡ at = omega arith in rw here (omega arith)
phase-since start rates r at (suc count) late =
    let course : Course = record { start = start; rates = rates ++ r ∷ [] } in
    let rate : rate_at (rates ++ r ∷ []) (at + count) ≡ r.rate = rate_at-push rates r (at + count) ∙ grind (arith, nat_tests) in
    let more = phase-suc course at count in
    let so_far = phase-since start rates r at count late in
    omega (arith, more, so_far, ap gain rate, mul-suc (gain r.rate) count)

-- the phases of a clock from a tick on, up to an end, where its last rate has begun: a line
pub record IsLine (course : Course) (at end start step : ℕ) : Type 0 where
  pub inside : at ≤ end
  pub phase : (count : ℕ) → at + count ≤ end → phase course (at + count) ≡ start + step * count

pub IsLine-none : (start end : ℕ) → IsLine (record { start = start; rates = [] }) 0 end (1000000 * start) 1000000
IsLine-none start end = record { inside = omega arith; phase = go }
  where
    go : (count : ℕ) → 0 + count ≤ end → phase (record { start = start; rates = [] }) (0 + count) ≡ 1000000 * start + 1000000 * count
    go zero inside = omega arith
    go (suc count) inside = omega (arith, go count (omega arith), phase-suc (record { start = start; rates = [] }) 0 count)

-- what the line says of the tick at which the next rate begins, or of its end where that is later
line_until : (course : Course) (at end start step until : ℕ) → at ≤ until → until ≤ end → IsLine course at end start step
    → phase course until ≡ start + step * (until - at)
line_until course at end start step until after inside line =
    let there : at + (until - at) ≡ until = omega arith in
    rw there at (line.phase (until - at) (omega arith))

-- one rate more, which begins no earlier
pub IsLine-push : (start : ℕ) (rates : List RateFrom) (r : RateFrom) (at end phase_at step : ℕ) → at ≤ r.from
    → IsLine (record { start = start; rates = rates }) at end phase_at step
    → IsLine (record { start = start; rates = rates ++ r ∷ [] }) (min r.from end) end (phase_at + step * (min r.from end - at)) (gain r.rate)
IsLine-push start rates r at end phase_at step later line = record { inside = omega arith; phase = go }
  where
    until : ℕ
    until = min r.from end

    there : phase (record { start = start; rates = rates ++ r ∷ [] }) until ≡ phase_at + step * (until - at)
    there =
        phase-before start rates r until (omega arith)
        ∙ line_until (record { start = start; rates = rates }) at end phase_at step until (omega (arith, line.inside)) (omega arith) line

    go : (count : ℕ) → until + count ≤ end
        → phase (record { start = start; rates = rates ++ r ∷ [] }) (until + count) ≡ phase_at + step * (until - at) + gain r.rate * count
    go count inside = elim (cases_lt end r.from) [
      | inl ahead ↦
          let none : count ≡ 0 = omega arith in
          let here : until + 0 ≡ until = omega arith in
          rw (none, here) (omega (arith, there))
      | inr begun ↦ phase-since start rates r until count (omega arith) ∙ omega (arith, there)
    ]

-- the same for a loop over all rates
pub IsLine-more : (start : ℕ) (rates : List RateFrom) (i : ℕ) (d : RateFrom) (at end phase_at step until next : ℕ) → i < length rates
    → at ≤ (get_or rates i d).from → until ≡ min (get_or rates i d).from end → next ≡ gain (get_or rates i d).rate
    → IsLine (record { start = start; rates = take i rates }) at end phase_at step
    → IsLine (record { start = start; rates = take (i + 1) rates }) until end (phase_at + step * (until - at)) next
IsLine-more start rates i d at end phase_at step until next inside later is_until is_next line =
    rw (take_more rates i d inside, is_until, is_next) (IsLine-push start (take i rates) (get_or rates i d) at end phase_at step later line)

-- what has been summed so far, and with the stretch up to there, is a phase of the clock, and so no more than this
pub line_most : (start : ℕ) (rates : List RateFrom) (at end phase_at step until count : ℕ) → AreWithin 200 rates → at ≤ until → until ≤ end
    → IsLine (record { start = start; rates = take count rates }) at end phase_at step
    → phase_at + step * (until - at) ≤ 1000000 * start + 1000200 * until
line_most start rates at end phase_at step until count all after inside line =
    let course : Course = record { start = start; rates = take count rates } in
    omega (arith, line_until course at end phase_at step until after inside line, phase-most course until (All-take (λ r. unsigned_abs r.rate ≤ 200) count rates all))

-- with all rates the line leads to the phase at the end
pub line_end : (start : ℕ) (rates : List RateFrom) (at end phase_at step i : ℕ) → length rates ≤ i
    → IsLine (record { start = start; rates = take i rates }) at end phase_at step
    → phase_at + step * (end - at) ≡ phase (record { start = start; rates = rates }) end
line_end start rates at end phase_at step i all line =
    let course : Course = record { start = start; rates = rates } in
    sym (line_until course at end phase_at step end line.inside (omega arith) (rw (take_all i rates all) at line))
