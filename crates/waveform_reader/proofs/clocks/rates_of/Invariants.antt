use Rattle.std.proofs.Common.{◌≡◌, ◌++◌, drop}
use Rattle.waveform_reader.specs.Scenario.{rates_of}
use Rattle.waveform_reader.proofs.clocks.rates_of.Given as goal

-- the rates so far and those that are left are all
abbrev pub invariant-loop-rating : goal.invariant-loop-rating
invariant-loop-rating l = l.kept.items ++ rates_of (drop l.rating-index l.rates) l.station ≡ rates_of l.rates l.station
