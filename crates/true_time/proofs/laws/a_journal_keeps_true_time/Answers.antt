use Rattle.true_time.proofs.Estimates.{traced, young}
use Rattle.true_time.proofs.Honest.{all-traced, honestly}
use Rattle.true_time.proofs.Lines.{lines-bounded, lines-within}
use Rattle.true_time.proofs.Premises.{stands}
use Rattle.true_time.proofs.Receipts.{echoes-real}
use Rattle.true_time.proofs.Sets.{sets-aligned}
use Rattle.true_time.proofs.TrueSets.{sets-true}
use Rattle.true_time.proofs.laws.a_journal_keeps_true_time.Goals as goal

pub returns : goal.returns
returns c s journal of_setup is =
    let of_journal = stands s journal of_setup is in
    let estimates = traced s.settings journal of_journal in
    record {
      echoes = echoes-real s.settings journal of_journal;
      estimates = estimates;
      exchanges = young s.settings journal of_journal;
      lines = lines-within s.settings journal of_journal.names estimates;
      sets = sets-aligned s.settings journal of_journal;
      honest = λ none.
          let known = all-traced s.settings journal none in
          record { traced = known; bounds = lines-bounded s.settings journal of_journal.names known; sets = sets-true s.settings journal of_journal estimates known (λ me peer place entry r pair was. honestly s.settings journal none me peer place entry r was) };
    }
