use Rattle.std.proofs.Common.{◌+◌, ◌*◌, ◌%◌, ◌^◌, ap, sym, ◌∙◌}
use Rattle.std.proofs.lemmas.Nat.{and_mask}
use Rattle.bit_sync.proofs.Registers.{pushed_by, pushed_oldest, pushed_register}
use Rattle.bit_sync.proofs.register.Register.push.Goals as goal

pub returns-clause-register : goal.returns-clause-register
returns-clause-register c =
    let h = pushed_by _ _ _ _ _ _ _ _ _ _ c.self.view_is c.pushed-middle.ensures.all c.pushed-newest.ensures.all c.pushed-middle.ensures.word c.pushed-newest.ensures.word in
    let mask = and_mask c.extended-oldest.result 16 in
    ap (λ x. x * 2 ^ 256 + c.pushed-middle.result.0 * 2 ^ 128 + c.pushed-newest.result.0) (mask ∙ ap (λ x. x % 2 ^ 16) c.extended-oldest.ensures)
    ∙ pushed_register _ _ _ _ _ _ _ _ _ _ h

pub returns-clause-oldest : goal.returns-clause-oldest
returns-clause-oldest c =
    let h = pushed_by _ _ _ _ _ _ _ _ _ _ c.self.view_is c.pushed-middle.ensures.all c.pushed-newest.ensures.all c.pushed-middle.ensures.word c.pushed-newest.ensures.word in
    c.extended-oldest.ensures ∙ sym (pushed_oldest _ _ _ _ _ _ _ _ _ _ h)
