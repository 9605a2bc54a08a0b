use Rattle.pingpong.proofs.Journals.{Follows-in, SameClock-in}
use Rattle.pingpong.proofs.laws.entries_follow_each_other.Goals as goal

pub returns-clause-follow : goal.returns-clause-follow
returns-clause-follow c = Follows-in

pub returns-clause-one_clock : goal.returns-clause-one_clock
returns-clause-one_clock c = SameClock-in
