use Rattle.std.proofs.Common.{◌≤◌, ◌+◌, ◌++◌, length, take, arith}
use Rattle.std.proofs.lemmas.List.{length-take}
use Rattle.bench_cmd.specs.Transfers.{largest_input}
use Rattle.bench_cmd.proofs.TransferFacts.{GaveSome-more}
use Rattle.bench_cmd.proofs.input.read_input.Goals as goal

pub returns-then-is_err-clause-stopped : goal.returns-then-is_err-clause-stopped
returns-then-is_err-clause-stopped g c =
    let piece = take c.in-Ok.count c.read.new.into in
    let few : length c.reading.input.items + length piece ≤ largest_input + 1
    = omega (arith, length-take c.in-Ok.count c.read.new.into, length-take c.min-room.result c.reading.chunk) in
    (c.reading.input.items ++ piece, GaveSome-more _ _ _ _ piece c.reading.invariant c.in-Ok.ensures.bytes.0 c.in-Ok.ensures.faults few)
