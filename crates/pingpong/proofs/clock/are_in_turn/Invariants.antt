use Rattle.std.proofs.Common.{◌≡◌, ◌<◌, ◌-◌, take, slice_index_or}
use Rattle.std.specs.List.Sorted.{IsNonDecreasingBy}
use Rattle.pingpong.specs.declared.clock.RateFrom.{RateFrom}
use Rattle.pingpong.proofs.clock.are_in_turn.Given as goal

abbrev pub invariant-loop-entry : goal.invariant-loop-entry
invariant-loop-entry l = record {
  so_far : IsNonDecreasingBy (λ (r : RateFrom). r.from) (take l.entry-index l.rates);
  first : l.entry-index ≡ 0 → l.last ≡ 0;
  last : (d : RateFrom) → 0 < l.entry-index → l.last ≡ (slice_index_or l.rates (l.entry-index - 1) d).from;
}
