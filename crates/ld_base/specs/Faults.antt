-- The counts of faults that sources, sinks and wires keep.
use Rattle.std.specs.Prelude.{◌≡◌, ◌⊎◌, ℕ, ◌+◌, ◌-◌, ◌^◌, ◌<◌, ◌≤◌, nat_lt, if◌then◌else◌, is_ok, Result, Ok, Err}
use Rattle.ld_base.specs.declared.wire.WireError.{WireError}
use Rattle.ld_base.specs.declared.wire.WireError.TheVariants as wire

-- the last value of a count, where it stays
abbrev pub last_count : ℕ
last_count = 2 ^ 64 - 1

-- a count after one more
abbrev pub next_count : ℕ → ℕ
next_count n = if nat_lt n last_count then n + 1 else n

-- a count rose: it is greater than before, or stands at its last value
abbrev pub Rose : ℕ → ℕ → Type 0
Rose old new = (old < new) ⊎ (last_count ≤ new)

-- a failed call is counted, and no other is
abbrev pub CountsFaults : {T E : Type 0} → ℕ → ℕ → Result T E → Type 0
CountsFaults old new result = new ≡ (if is_ok result then old else next_count old)

-- a failed `send` is counted, and want of memory isn't
abbrev pub CountsSendFaults : {T : Type 0} → ℕ → ℕ → Result T WireError → Type 0
CountsSendFaults old new (Ok _) = new ≡ old
CountsSendFaults old new (Err wire.Failed) = new ≡ next_count old
CountsSendFaults old new (Err wire.NoMemory) = new ≡ old
