use Rattle.true_time.proofs.Estimates.{traced}
use Rattle.true_time.proofs.Mixing.{near}
use Rattle.true_time.proofs.Premises.{stands}
use Rattle.true_time.proofs.laws.mixes_are_near.Goals as goal

pub returns : goal.returns
returns c s journal of_setup is =
    let of_journal = stands s journal of_setup is in
    near s.settings journal of_journal (traced s.settings journal of_journal)
