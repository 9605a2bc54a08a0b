use Rattle.trip_logic.proofs.counting.push_uncounted.Given as goal

-- the products are counted in a ledger of their own
abbrev pub ghosts-push_in : goal.ghosts-push_in
ghosts-push_in a = record { name = a.blank.name; parts = a.blank.parts }
