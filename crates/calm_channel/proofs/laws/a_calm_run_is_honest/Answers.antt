use Rattle.std.proofs.Common.{◌≡◌, [], append-nil}
use Rattle.line_journal.specs.Crossings.{Forged}
use Rattle.line_world.specs.Occasions.{moments}
use Rattle.calm_channel.proofs.Below.{world-run}
use Rattle.calm_channel.proofs.Honest.{honest-all}
use Rattle.calm_channel.proofs.laws.a_calm_run_is_honest.Goals as goal

pub returns : goal.returns
returns c = record {
  moments = λ s these sound calm first. honest-all s sound (c.every_message_comes_at_its_tick.ensures.moments s sound calm) these first;
  run = λ s sound calm.
      honest-all s sound (c.every_message_comes_at_its_tick.ensures.moments s sound calm) (moments s.settings s.end)
      (record { left = []; are = append-nil (moments s.settings s.end) });
  worlds = λ w is follows sound calm.
      world-run w is follows (λ journal. Forged w.setup.settings journal ≡ 0) (honest-all w.setup sound (c.every_message_comes_at_its_tick.ensures.moments w.setup sound calm));
}
