use Rattle.std.proofs.Common.{◌≡◌, ◌∙◌, ℕ, Ok, ap, refl}
use Rattle.line_world.specs.Worlds.{Went, World}
use Rattle.line_world.specs.declared.world.Stepped.{Stepped}
use Rattle.line_world.specs.declared.world.Stepped.TheVariants as stepped
use Rattle.vectors.proofs.tests.worlds.steps.Goals as goal

-- a step that went or that ended is in the same scenario
same_setup : (s : Stepped) (old new : World) → ((tick : ℕ) → s ≡ stepped.Went tick → Went old new tick) → (s ≡ stepped.Ended → new ≡ old) → new.setup ≡ old.setup
same_setup (stepped.Went tick) old new went ended = (went tick refl).setup
same_setup stepped.Ended old new went ended = ap (λ w. w.setup) (ended refl)

pub loop-preserved : goal.loop-preserved
loop-preserved g c =
    same_setup c.in_ok-step.field-0 c.loop.world c.step.new.self (λ tick is. c.in_ok-step.ensures.went tick (ap (λ s. Ok s) is))
    (λ is. (c.in_ok-step.ensures.ended (ap (λ s. Ok s) is)).0)
    ∙ c.loop.invariant
