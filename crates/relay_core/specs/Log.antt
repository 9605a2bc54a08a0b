-- The log of a terminal: the calls that it was handed, oldest first, with their stamps. (This project's own.)
use Rattle.std.specs.Prelude.{ℕ, Bool, max, nat_le, not, ◌&&◌, ◌==◌, List, [], ◌∷◌, fold, filter, Option, Some, None}
use Rattle.ld_base.specs.declared.fields.Fields.{Fields}
use Rattle.relay_core.specs.declared.call.Call.{Call}
use Rattle.relay_core.specs.declared.call.Call.TheVariants as made

-- the stamp that was handed in
abbrev pub stamp_of : Call → ℕ
stamp_of (made.Sample at values) = at
stamp_of (made.Slot at) = at
stamp_of (made.Bits at peer bits) = at
stamp_of (made.Fault at peer) = at

-- the terminal's time: the greatest stamp so far
abbrev pub now : List Call → ℕ
now log = fold (λ latest call. max latest (stamp_of call)) 0 log

-- the time, which there is from the first call on
abbrev pub clock : List Call → Option ℕ
clock [] = None
clock (call ∷ calls) = Some (now (call ∷ calls))

-- the time of the first call
abbrev pub since : List Call → ℕ
since [] = 0
since (call ∷ calls) = stamp_of call

-- whether a station is another one of the line
abbrev pub is_peer : Fields → ℕ → ℕ → Bool
is_peer f me station = nat_le station f.stations && not (station == me)

-- the peers of station `me`, in their order
abbrev pub peers : Fields → ℕ → List ℕ
peers f me = filter (is_peer f me) (1 ∷ 2 ∷ 3 ∷ [])
