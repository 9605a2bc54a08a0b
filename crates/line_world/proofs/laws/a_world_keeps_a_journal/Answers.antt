use Rattle.line_world.proofs.Moments.{IsSoFar-all}
use Rattle.line_world.proofs.laws.a_world_keeps_a_journal.Goals as goal

pub returns : goal.returns
returns c s these journal is first leads =
    let so_far = IsSoFar-all s these journal first leads in
    record {
      entries = so_far.entries;
      in_turn = c.clocks_keep_their_drift.ensures.journal s journal is so_far.order (λ k d inside. (so_far.entries k d inside).phases);
    }
