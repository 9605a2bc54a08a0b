use Rattle.pingpong.proofs.Bounds.{Bounded-passage}
use Rattle.pingpong.proofs.Journals.{IsPassage-in}
use Rattle.pingpong.proofs.laws.a_journal_bounds_its_estimates.Goals as goal

pub returns-clause-passage : goal.returns-clause-passage
returns-clause-passage c = IsPassage-in

pub returns-clause-bounded : goal.returns-clause-bounded
returns-clause-bounded c = λ drift journal sent came turned back now follows at station peer is_station is_peer.
    Bounded-passage drift _ _ _ (IsPassage-in drift journal sent came turned back now follows at station peer is_station is_peer)
