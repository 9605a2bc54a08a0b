use Rattle.calm_channel.specs.Aligned.{InForceFrom, aligned_tick}
use Rattle.calm_channel.proofs.Below.{world-run}
use Rattle.calm_channel.proofs.Entries.{from_delays, from_transits}
use Rattle.calm_channel.proofs.laws.an_exchange_is_in_force_from_a_tick_on.Goals as goal

pub returns : goal.returns
returns c = record {
  moments = λ s these me peer sound calm first pair allows.
      from_delays s sound (c.every_message_comes_at_its_tick.ensures.moments s sound calm) me peer pair these first allows;
  worlds = λ w me peer is follows sound calm pair allows.
      world-run w is follows (λ journal. InForceFrom w.setup.settings journal me peer (aligned_tick w.setup me peer))
      (λ these first. from_delays w.setup sound (c.every_message_comes_at_its_tick.ensures.moments w.setup sound calm) me peer pair these first allows);
  closely = λ s these me peer sound calm first pair allows.
      from_transits s sound (c.every_message_comes_at_its_tick.ensures.moments s sound calm) me peer pair these first allows;
}
