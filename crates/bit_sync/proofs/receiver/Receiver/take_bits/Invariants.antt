use Rattle.std.proofs.Common.{◌≡◌, ℕ, ◌-◌, ◌≤◌, List}
use Rattle.ld_base.specs.Bits.{line_bits}
use Rattle.bit_sync.specs.StandsFor.{StandsFor}
use Rattle.bit_sync.specs.Step.{Fills}
use Rattle.bit_sync.proofs.receiver.Receiver.take_bits.Given as goal

-- the bits so far are taken in
abbrev pub invariant-loop-done : goal.invariant-loop-done
invariant-loop-done l =
    (l.done ≤ l.count) × (l.self.rules ≡ l.fn.self.rules) × ((line : List ℕ) → StandsFor l.fn.self line → Fills l.self line (line_bits l.done l.bytes) l.frame)

abbrev pub decreases-loop-done : goal.decreases-loop-done
decreases-loop-done l = l.count - l.done
