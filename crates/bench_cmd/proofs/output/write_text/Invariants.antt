use Rattle.std.proofs.Common.{◌≡◌, ◌++◌, List, ℕ, length}
use Rattle.bench_cmd.specs.Transfers.{Took}
use Rattle.bench_cmd.proofs.output.write_text.Given as goal

-- what the sink took so far is the front of the text, and what is left is its rest
abbrev pub invariant-writing : goal.invariant-writing
invariant-writing g l = (front : List ℕ) × (l.fn.text ≡ front ++ l.rest)
    × Took (g.K.Sink.end l.initial.sink) (g.K.Sink.end l.sink) front

abbrev pub decreases-writing : goal.decreases-writing
decreases-writing g l = length l.rest
