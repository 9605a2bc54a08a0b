use Rattle.sample_store.proofs.JudgedSets.{Given-as_a_terminal, offers_of-as_a_terminal}
use Rattle.sample_store.proofs.laws.a_terminal_is_given_the_judged_sets.Goals as goal

pub returns-clause-sets : goal.returns-clause-sets
returns-clause-sets c = Given-as_a_terminal

pub returns-clause-offers : goal.returns-clause-offers
returns-clause-offers c = offers_of-as_a_terminal
