use Rattle.std.specs.Prelude.{◌≡◌, ◌++◌, map, take}
use Rattle.relay_core.proofs.peer.add.Given as goal

abbrev pub invariant-loop-turn : goal.invariant-loop-turn
invariant-loop-turn l =
    l.changes.items ≡ l.initial.changes.items ++ map (λ turn. record { peer = l.peer; turn = turn }) (take l.turn-index l.turns)
