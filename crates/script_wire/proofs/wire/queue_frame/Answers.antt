use Rattle.std.proofs.Common.{◌≡◌, List, [], ◌∷◌, ap, rules, sym, ◌∙◌}
use Rattle.std.specs.Prelude.{fold, if◌then◌else◌, is_ok}
use Rattle.std.proofs.lemmas.List.{nil_from_length}
use Rattle.ld_base.specs.Bits.{line_bits}
use Rattle.ld_base.specs.Script.{chunks_of, queued}
use Rattle.ld_base.specs.declared.rule.Act.{Act}
use Rattle.script_wire.proofs.wire.queue_frame.Goals as goal

pub returns-then-is_empty : goal.returns-then-is_empty
returns-then-is_empty c =
    let none : c.args.acts.now ≡ [] = nil_from_length c.args.acts.now (search rules) in
    let bits : c.whole.result ≡ line_bits 256 c.args.frame.now = search rules in
    c.add_all.ensures
    ∙ ap (λ bits. if is_ok c.add_all.result then fold queued c.args.queue.now (record { due = c.args.due; bits = bits } ∷ []) else c.args.queue.now) bits
    ∙ ap (λ (acts : List Act). if is_ok c.add_all.result then fold queued c.args.queue.now (chunks_of acts c.args.due (line_bits 256 c.args.frame.now))
    else c.args.queue.now) (sym none)
