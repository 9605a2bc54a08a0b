use Rattle.std.specs.Option.{option_to_list}
use Rattle.std.proofs.Common.{◌++◌, ◌∷◌, [], ◌∙◌, ap, map, option_map, sym}
use Rattle.line_journal.specs.Account.{entry_at}
use Rattle.line_journal.specs.Report.{est_line}
use Rattle.line_journal.specs.Told.{legs_kept}
use Rattle.line_journal.proofs.account.estimate.Goals as goal

pub returns-clause-lines : goal.returns-clause-lines
returns-clause-lines c what =
    let lines = c.args.lines.now.items in
    let tells = est_line c.args.s.now c.args.me c.args.peer (entry_at c.args.now.now what) in
    c.push_reserved.ensures.items
    ∙ ap (λ x. lines ++ x ∷ []) (c.est_line.ensures what)
    ∙ ap (λ o. lines ++ map tells (option_to_list (option_map (λ e. record { exchange = e; legs = legs_kept c.args.history.now e }) o))) (sym (sym c.kept_then.ensures ∙ c.in-Some.is))
