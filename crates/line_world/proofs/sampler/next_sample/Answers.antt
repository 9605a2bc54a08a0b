use Rattle.std.specs.Prelude.{unsigned_abs}
use Rattle.std.specs.List.{All}
use Rattle.std.proofs.Common.{◌≡◌, ℕ, ◌+◌, ◌-◌, ◌*◌, ◌/◌, ◌%◌, ◌≤◌, arith, ap, subst, refl, ◌∙◌}
use Rattle.ld_base.specs.declared.fields.Fields.{Fields}
use Rattle.pingpong.specs.Clock.{phase as clock_phase}
use Rattle.line_world.proofs.Sampling.{early_by, is_next, late_by, steady}
use Rattle.line_world.proofs.sampler.next_sample.Goals as goal

pub first_from-requires-clause-early : goal.first_from-requires-clause-early
first_from-requires-clause-early c =
    let course = c.clock-clock.result.now in
    let rates : All (λ r. unsigned_abs r.rate ≤ 200) course.rates = steady c.args.scenario.now c.args.station course c.clock-clock.ensures.clock c.clock-clock.ensures.kept in
    let left : ℕ = 1000000 * c.from-spacing.result - c.phase-phase.result % (1000000 * c.from-spacing.result) in
    let drift = c.a_clock_keeps_its_drift.ensures 200 course rates (c.args.from - 1) (c.args.from - 1 + (left - 1) / 1000200) (omega arith) in
    let wide : 500 ≤ c.from-spacing.result = omega (arith, c.fields.ensures.in_range.spacing) in
    omega (arith, c.phase-phase.ensures.phase, early_by course (c.args.from - 1) ((left - 1) / 1000200) left drift (omega arith) (omega arith))

pub first_from-requires-clause-late : goal.first_from-requires-clause-late
first_from-requires-clause-late c =
    let course = c.clock-clock.result.now in
    let rates : All (λ r. unsigned_abs r.rate ≤ 200) course.rates = steady c.args.scenario.now c.args.station course c.clock-clock.ensures.clock c.clock-clock.ensures.kept in
    let left : ℕ = 1000000 * c.from-spacing.result - c.phase-phase.result % (1000000 * c.from-spacing.result) in
    let drift = c.a_clock_keeps_its_drift.ensures 200 course rates (c.args.from - 1) (c.args.from - 1 + c.div_ceil.result) (omega arith) in
    omega (arith, c.phase-phase.ensures.phase, late_by course (c.args.from - 1) c.div_ceil.result left drift (omega arith))

pub returns-clause-next : goal.returns-clause-next
returns-clause-next c =
    let course = c.clock-clock.result.now in
    let spacing : c.from-spacing.result ≡ c.args.scenario.now.settings.spacing =
    c.from-spacing.ensures ∙ ap (λ (f : Fields). f.spacing) (c.fields.ensures.same ∙ c.settings.ensures.settings) in
    let wide : 500 ≤ c.from-spacing.result = omega (arith, c.fields.ensures.in_range.spacing) in
    let next : c.phase-phase.result + (1000000 * c.from-spacing.result - c.phase-phase.result % (1000000 * c.from-spacing.result))
    ≡ clock_phase course (c.args.from - 1) + (1000000 * c.args.scenario.now.settings.spacing - clock_phase course (c.args.from - 1) % (1000000 * c.args.scenario.now.settings.spacing)) =
    rw (spacing, c.phase-phase.ensures.phase) refl in
    is_next c.args.scenario.now c.args.station course c.clock-clock.ensures.clock c.args.from c.first_from.result (omega arith) (omega arith)
    (subst (λ (p : ℕ). p ≤ clock_phase course c.first_from.result) next c.first_from.ensures.reached)
    (subst (λ (p : ℕ). (t : ℕ) → p ≤ clock_phase course t → c.first_from.result ≤ t) next c.first_from.ensures.least)
