use Rattle.std.proofs.Common.{◌≡◌, ◌+◌, ◌≤◌, fold, length, map, drop}
use Rattle.std.specs.List.Sorted.{IsNonDecreasingBy}
use Rattle.std.specs.VecDeque.{deque_capacity, deque_len}
use Rattle.ld_base.specs.Script.{queued}
use Rattle.script_wire.specs.Wires.{due_of}
use Rattle.script_wire.proofs.queue.put_all.Given as goal

abbrev pub invariant-loop-due : goal.invariant-loop-due
invariant-loop-due l =
    IsNonDecreasingBy (λ chunk. chunk.0) l.all.items
    × (deque_len l.all + length (drop l.due-index l.chunks) ≤ deque_capacity l.all)
    × (fold queued (map due_of l.all.items) (map due_of (drop l.due-index l.chunks)) ≡ fold queued (map due_of l.fn.all.items) (map due_of l.chunks))
