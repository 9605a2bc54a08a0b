use Rattle.waveform_reader.specs.Scenario.{Setup}
use Rattle.waveform_reader.specs.Sound.{IsSetup}
use Rattle.calm_channel.specs.Calm.{IsCalm}
use Rattle.calm_channel.specs.Coming.{AcceptedAre}
use Rattle.calm_channel.proofs.Arriving.{accepted-are}
use Rattle.calm_channel.proofs.Below.{accepted-below, world-accepted}
use Rattle.calm_channel.proofs.laws.every_message_comes_at_its_tick.Goals as goal

pub returns : goal.returns
returns c = record {
  moments = λ s sound calm. all s sound calm;
  ticks = λ s sound calm. accepted-below s sound (all s sound calm);
  worlds = λ w is follows sound calm running. world-accepted w is follows sound (all w.setup sound calm) running;
}
  where
    all : (s : Setup) → IsSetup s → IsCalm s → AcceptedAre s
    all s sound calm =
        accepted-are s sound calm
        (record {
          fit = λ station t. c.values_are_of_the_converter.ensures s station t sound;
          undamaged = c.messages_come_over_an_undamaged_line.ensures s.settings;
        })
