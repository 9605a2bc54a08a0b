use Rattle.std.proofs.Common.{◌-◌, ◌*◌, ◌≤◌, length}
use Rattle.std.specs.Option.{ForSome}
use Rattle.bench_cmd.proofs.Showing.{Shown}
use Rattle.bench_cmd.proofs.frames.frames.Given as goal

-- the bits so far are shown
abbrev pub invariant-feeding : goal.invariant-feeding
invariant-feeding l = record {
  shown : Shown l.channels l.input l.receiver l.inlet l.hunter l.begin l.text.items l.at;
  within : l.at ≤ 8 * length l.input;
  begun : ForSome l.begin (λ begin. begin ≤ l.at);
}

abbrev pub decreases-feeding : goal.decreases-feeding
decreases-feeding l = 8 * length l.input - l.at
