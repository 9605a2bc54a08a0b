use Rattle.std.proofs.Common.{◌≡◌, ◌+◌, ◌*◌, ◌<◌, ℕ, slice_index, length}
use Rattle.ld_base.specs.Bits.{byte_bit, line_bit}
use Rattle.bench_cmd.proofs.cutting.shifted.Given as goal

-- the bytes so far have the bits from that one on
abbrev pub invariant-loop-k : goal.invariant-loop-k
invariant-loop-k l = record {
  long : length l.shifted ≡ 32;
  each : (k : ℕ) → k < l.k → (j : ℕ) → j < 8 → byte_bit (slice_index l.shifted k) j ≡ line_bit l.bytes (l.shift + (8 * k + j));
}
