use Rattle.std.proofs.Common.{◌∙◌, zero, suc, Some, ap, arith}
use Rattle.line_journal.specs.Told.{last_on}
use Rattle.line_journal.proofs.account.heard_by.Goals as goal

pub returns : goal.returns
returns c zero least most = absurd (omega (arith, least))
returns c (suc zero) least most = ap (λ x. Some x) (c.last_on-first.ensures ∙ ap (λ s. last_on c.args.histories.now s c.args.me) c.station.ensures)
returns c (suc (suc zero)) least most = ap (λ x. Some x) (c.last_on-second.ensures ∙ ap (λ s. last_on c.args.histories.now s c.args.me) c.station-2.ensures)
returns c (suc (suc (suc zero))) least most = ap (λ x. Some x) (c.last_on-third.ensures ∙ ap (λ s. last_on c.args.histories.now s c.args.me) c.station-3.ensures)
returns c (suc (suc (suc (suc peer)))) least most = absurd (omega (arith, most))
