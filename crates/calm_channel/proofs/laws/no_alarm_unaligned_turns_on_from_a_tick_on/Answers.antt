use Rattle.std.proofs.Common.{[], append-nil}
use Rattle.line_world.specs.Occasions.{moments}
use Rattle.line_world.specs.Run.{Run, run_through}
use Rattle.calm_channel.specs.Aligned.{aligned_tick, first_aligned_tick}
use Rattle.calm_channel.proofs.Reports.{aligned}
use Rattle.calm_channel.proofs.laws.no_alarm_unaligned_turns_on_from_a_tick_on.Goals as goal

pub returns : goal.returns
returns c = record {
  moments = λ s these me peer sound calm first pair allows.
      aligned s.settings (run_through s these).journal me peer (aligned_tick s me peer)
      (c.an_exchange_is_in_force_from_a_tick_on.ensures.moments s these me peer sound calm first pair allows);
  run = λ s me peer sound calm pair allows.
      aligned s.settings (Run s) me peer (aligned_tick s me peer)
      (c.an_exchange_is_in_force_from_a_tick_on.ensures.moments s (moments s.settings s.end) me peer sound calm
      (record { left = []; are = append-nil (moments s.settings s.end) }) pair allows);
  worlds = λ w me peer is follows sound calm pair allows.
      aligned w.setup.settings w.journal me peer (aligned_tick w.setup me peer)
      (c.an_exchange_is_in_force_from_a_tick_on.ensures.worlds w me peer is follows sound calm pair allows);
  closely = λ s these me peer sound calm first pair allows.
      aligned s.settings (run_through s these).journal me peer (first_aligned_tick s me peer)
      (c.an_exchange_is_in_force_from_a_tick_on.ensures.closely s these me peer sound calm first pair allows);
}
