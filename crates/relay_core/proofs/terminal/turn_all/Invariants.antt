use Rattle.std.specs.Prelude.{◌≡◌, ◌≤◌, ◌*◌, length, take}
use Rattle.std.specs.List.{flat_map}
use Rattle.relay_core.specs.Turned.{told, turned}
use Rattle.relay_core.proofs.InPlace.{IsWritten}
use Rattle.relay_core.proofs.terminal.turn_all.Given as goal

abbrev pub invariant-loop-peer : goal.invariant-loop-peer
invariant-loop-peer l = record {
  turned : IsWritten (turned l.since l.now) l.peer-index l.initial.peers l.peers;
  told : l.changes.items ≡ flat_map (told l.since l.now) (take l.peer-index l.initial.peers);
  room : length l.changes.items ≤ 5 * l.peer-index;
}
