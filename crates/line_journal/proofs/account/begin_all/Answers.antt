use Rattle.std.proofs.Common.{◌∙◌, refl, sym}
use Rattle.line_journal.specs.Told.{last_on}
use Rattle.line_journal.proofs.Departures.{slot-quiet}
use Rattle.line_journal.proofs.account.begin_all.Goals as goal

pub returns-then-not-begins_any : goal.returns-then-not-begins_any
returns-then-not-begins_any c = (
  λ peer. last_on c.args.histories.now peer c.args.me,
  λ peer least most. refl,
  sym (slot-quiet c.args.now.now.tick c.args.me (λ peer. last_on c.args.histories.now peer c.args.me) c.args.frames.now
      (sym c.begins_any.ensures ∙ c.if-not-begins_any.true) c.args.histories.now),
)
