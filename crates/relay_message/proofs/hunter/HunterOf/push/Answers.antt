use Rattle.std.proofs.Common.{◌≡◌, ◌++◌, ◌<◌, length, drop, Some, refl, arith, sym, ap, ◌∙◌, subst}
use Rattle.ld_base.specs.Piece.{bytes_of}
use Rattle.relay_message.specs.Messages.{cells, told}
use Rattle.relay_message.proofs.Kept.{Pushed, pushed-bytes, pushed-idle, pushed-gap, none-kept}
use Rattle.relay_message.proofs.hunter.HunterOf.push.Given.{Over}
use Rattle.relay_message.proofs.hunter.HunterOf.push.Goals as goal

-- an idle piece
idle : (g : Over) (c : goal.After-nothing g) → Pushed g.L.Format.layout c.args.self.now c.args.self.now (bytes_of c.args.piece.now) c.nothing.result.message c.nothing.result.refused
idle g c = pushed-idle g.L.Format.layout c.args.self.now c.deref.result.now (bytes_of c.args.piece.now) _ _
    (ap bytes_of c.in-Bytes.is ∙ ap Some (sym c.deref.ensures.0))
    (sym c.self.view_is ∙ none-kept c.self.inside.kept c.if-is_empty.ensures)
    (ap (λ hunted. hunted.message) c.nothing.ensures)
    (ap (λ hunted. hunted.refused) c.nothing.ensures)
    (c.if-is_idle.ensures refl)

-- any other bytes
bytes : (g : Over) (c : goal.After-drop_first g)
    → Pushed g.L.Format.layout c.args.self.now c.drop_first.new.self (bytes_of c.args.piece.now) c.hunt-hunted.result.0.message c.hunt-hunted.result.0.refused
bytes g c =
    let layout = g.L.Format.layout in
    let piece = c.deref-in-Bytes.result.now in
    let all = c.bytes.result.now in
    let hunted = c.hunt-hunted.ensures in
    let rest : drop c.hunt-hunted.result.1 all ≡ c.drop_first.new.self = ap (drop c.hunt-hunted.result.1) c.bytes.ensures ∙ sym c.drop_first.ensures in
    pushed-bytes layout c.args.self.now c.drop_first.new.self piece all (bytes_of c.args.piece.now) _ _
    (ap bytes_of c.in-Bytes.is ∙ ap Some (sym c.deref-in-Bytes.ensures.0))
    (c.bytes.ensures ∙ c.push.ensures ∙ ap (λ xs. xs ++ piece) c.self.view_is)
    hunted.message
    hunted.refused
    (λ more. hunted.next more ∙ ap (λ xs. told layout (cells all) ++ told layout (cells xs ++ more)) rest)

-- a gap
gap : (g : Over) (c : goal.After-nothing-in-Gap g)
    → Pushed g.L.Format.layout c.args.self.now c.clear.new.self (bytes_of c.args.piece.now) c.nothing-in-Gap.result.message c.nothing-in-Gap.result.refused
gap g c =
    let size : g.L.Format.layout.size ≡ g.L.Format.SIZE = g.met.L.Format.size_is in
    let few : length c.self.inside.kept < g.L.Format.SIZE = c.self.invariant in
    pushed-gap g.L.Format.layout c.args.self.now c.clear.new.self (bytes_of c.args.piece.now) _ _
    (ap bytes_of c.in-Gap.is)
    (subst (λ kept. length kept < g.L.Format.layout.size) c.self.view_is (omega (arith, size, few)))
    c.clear.ensures
    (ap (λ hunted. hunted.message) c.nothing-in-Gap.ensures)
    (ap (λ hunted. hunted.refused) c.nothing-in-Gap.ensures)

pub returns-then-is_idle-clause-message : goal.returns-then-is_idle-clause-message
returns-then-is_idle-clause-message g c = (idle g c).message

pub returns-then-is_idle-clause-refused : goal.returns-then-is_idle-clause-refused
returns-then-is_idle-clause-refused g c = (idle g c).refused

pub returns-then-is_idle-clause-stands : goal.returns-then-is_idle-clause-stands
returns-then-is_idle-clause-stands g c = (idle g c).stands

pub returns-else-is_empty-clause-message : goal.returns-else-is_empty-clause-message
returns-else-is_empty-clause-message g c = (bytes g c).message

pub returns-else-is_empty-clause-refused : goal.returns-else-is_empty-clause-refused
returns-else-is_empty-clause-refused g c = (bytes g c).refused

pub returns-else-is_empty-clause-stands : goal.returns-else-is_empty-clause-stands
returns-else-is_empty-clause-stands g c = (bytes g c).stands

pub returns-in-Gap-clause-message : goal.returns-in-Gap-clause-message
returns-in-Gap-clause-message g c = (gap g c).message

pub returns-in-Gap-clause-refused : goal.returns-in-Gap-clause-refused
returns-in-Gap-clause-refused g c = (gap g c).refused

pub returns-in-Gap-clause-stands : goal.returns-in-Gap-clause-stands
returns-in-Gap-clause-stands g c = (gap g c).stands
