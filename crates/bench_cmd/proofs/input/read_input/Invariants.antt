use Rattle.std.proofs.Common.{◌+◌, ◌-◌, vec_len}
use Rattle.bench_cmd.specs.Transfers.{GaveSome, largest_input}
use Rattle.bench_cmd.proofs.input.read_input.Given as goal

-- what the source gave so far is the input so far
abbrev pub invariant-reading : goal.invariant-reading
invariant-reading g l = GaveSome (g.S.Source.end l.initial.source) (g.S.Source.end l.source) l.input.items

abbrev pub decreases-reading : goal.decreases-reading
decreases-reading g l = largest_input + 1 - vec_len l.input
