use Rattle.std.proofs.Common.{◌∙◌, suc, sym}
use Rattle.line_journal.proofs.Accounts.{Forged-none, IsHistory-none, Lines-none}
use Rattle.line_journal.proofs.Tallies.{TotalOf-none, three-same}
use Rattle.line_journal.proofs.account.Account.new.Goals as goal

pub returns-clause-account : goal.returns-clause-account
returns-clause-account c = record {
  lines = c.new.ensures.items ∙ sym (Lines-none c.args.s.now);
  totals = λ k t at. three-same c.default.result k t at ∙ c.default.ensures ∙ sym (TotalOf-none c.args.s.now (suc k));
  forged = sym (Forged-none c.args.s.now);
  histories = λ k d inside. IsHistory-none c.args.s.now _ (c.in_ok-histories_of.ensures.empty k d inside);
}
