use Rattle.line_world.specs.Occasions.{moments}
use Rattle.line_world.specs.Run.{Run}
use Rattle.true_time.proofs.Runs.{all-first, run-leads}
use Rattle.true_time.proofs.laws.a_run_keeps_true_time.Goals as goal

pub returns : goal.returns
returns c s of_setup =
    c.a_journal_keeps_true_time.ensures s (Run s) of_setup
    (c.a_world_keeps_a_journal.ensures s (moments s.settings s.end) (Run s) of_setup (all-first s) (run-leads s))
