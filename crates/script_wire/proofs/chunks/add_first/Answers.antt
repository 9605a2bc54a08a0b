use Rattle.std.proofs.Common.{◌-◌, ℕ, ◌∙◌, ap, min}
use Rattle.script_wire.proofs.Acts.{one_added, two_added}
use Rattle.script_wire.proofs.chunks.add_first.Goals as goal

pub returns-then-count-left : goal.returns-then-count-left
returns-then-count-left c =
    one_added c.args.frame.now c.args.due c.args.slip c.min-count.result c.args.cut c.args.chunks.now.items c.push.new.self.items c.bits_from.result c.requires.1
    (c.min-count.ensures ∙ ap (λ (n : ℕ). min n (256 - c.args.slip)) c.unwrap_or.ensures) c.bits_from.ensures c.in_ok-push.ensures.items c.if-count-left.true

pub returns : goal.returns
returns c =
    two_added c.args.frame.now c.args.due c.args.slip c.min-count.result c.args.cut c.args.chunks.now.items c.push.new.self.items c.bits_from.result c.requires.1
    (c.min-count.ensures ∙ ap (λ (n : ℕ). min n (256 - c.args.slip)) c.unwrap_or.ensures) c.bits_from.ensures c.in_ok-push.ensures.items
    c.push-2.new.self.items c.bits_from-2.result c.if-count-left.false c.bits_from-2.ensures c.in_ok-push-2.ensures.items
