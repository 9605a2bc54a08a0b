use Rattle.phasor.proofs.window.tests.a_step_is_summed_with_its_factors.Given as goal

-- the count is in a ledger of its own
abbrev pub ghosts-around_a_step : goal.ghosts-around_a_step
ghosts-around_a_step g a = record { name = a.blank.name; parts = a.blank.parts }
