use Rattle.std.specs.Prelude.{filter}
use Rattle.std.proofs.Common.{take}
use Rattle.pingpong.specs.Exchange.{round_trip}
use Rattle.offset_track.specs.InForce.{is_candidate}
use Rattle.offset_track.proofs.Choices.{IsBest}
use Rattle.offset_track.proofs.track.chosen.Given as goal

abbrev pub invariant-loop-e : goal.invariant-loop-e
invariant-loop-e l = IsBest round_trip (filter (is_candidate l.age l.now) (take l.e-index l.newest_first)) l.best
