use Rattle.std.proofs.Common.{◌≡◌, [], ◌∷◌, ◌++◌, Some, sym, subst, ◌∙◌}
use Rattle.ld_base.specs.Piece.{bytes_of}
use Rattle.payload_map.specs.Pieces.{piece_of}
use Rattle.relay_core.specs.Line.{gots_on, payload_on}
use Rattle.relay_core.specs.Listens.{Tells}
use Rattle.relay_core.proofs.Lines.{Tells-frame}
use Rattle.relay_core.proofs.listener.Listener.hear.Goals as goal

pub returns-clause-tells : goal.returns-clause-tells
returns-clause-tells c = λ f line listens.
    let more = c.args.chunk.now in
    let hunted = c.push-hunted.result in
    let rules = c.feed-fed.ensures.rules ∙ listens.rules in
    let frame : gots_on f (line ++ more) ≡ gots_on f line ++ c.in-Some.got ∷ [] = rw (rules, c.in-Some.is) at (c.feed-fed.ensures.frame line listens.receiver) in
    let piece : bytes_of c.take.result ≡ piece_of f.channels c.in-Some.got = rw (c.in-Some.got-is, listens.inlet) at c.take.ensures.piece in
    subst (λ got. Tells f line more (record { frame = Some got; message = hunted.message; refused = hunted.refused })) (sym c.in-Some.got-is)
    (Tells-frame f line more c.in-Some.got hunted.message hunted.refused (bytes_of c.take.result) frame piece
    (c.push-hunted.ensures.message (payload_on f line) listens.hunter) (c.push-hunted.ensures.refused (payload_on f line) listens.hunter))
