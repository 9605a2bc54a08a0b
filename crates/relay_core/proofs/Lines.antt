-- Lines, one frame more at the end of them.
use Rattle.std.proofs.Common.{◌≡◌, ℕ, List, [], ◌∷◌, ◌++◌, length, map, drop, slice_get, Option, Some, option_to_list, sym, ap, ◌∙◌}
use Rattle.std.proofs.lemmas.Grind.{flat_map-append}
use Rattle.std.proofs.lemmas.List.{append-nil, map-append}
use Rattle.ld_base.specs.Message.{Contents}
use Rattle.ld_base.specs.declared.fields.Fields.{Fields}
use Rattle.bit_sync.specs.declared.told.Got.{Got}
use Rattle.relay_message.specs.Messages.{added, line_of, messages, piece_cells, refusals}
use Rattle.relay_message.specs.Reading.{relay_layout}
use Rattle.relay_message.specs.declared.fault.MessageFault.{MessageFault}
use Rattle.payload_map.specs.Pieces.{piece_of}
use Rattle.relay_core.specs.Line.{gots_on, payload_on, refusals_on}
use Rattle.relay_core.specs.Listens.{Tells}

-- the payload of a frame more is its piece
payload_on-more : (f : Fields) (line more : List ℕ) (got : Got) → gots_on f (line ++ more) ≡ gots_on f line ++ got ∷ []
    → payload_on f (line ++ more) ≡ payload_on f line ++ piece_cells (piece_of f.channels got)
payload_on-more f line more got e =
    ap (λ gots. line_of (map (piece_of f.channels) gots)) e
    ∙ ap line_of (map-append (piece_of f.channels) (gots_on f line) (got ∷ []))
    ∙ flat_map-append piece_cells (map (piece_of f.channels) (gots_on f line)) (piece_of f.channels got ∷ [])
    ∙ ap (λ cells. payload_on f line ++ cells) (append-nil (piece_cells (piece_of f.channels got)))

-- what is told of a frame is what its piece tells
pub Tells-frame : (f : Fields) (line more : List ℕ) (got : Got) (message : Option Contents) (refused : Option MessageFault) (piece : Option (List ℕ))
    → gots_on f (line ++ more) ≡ gots_on f line ++ got ∷ [] → piece ≡ piece_of f.channels got
    → messages relay_layout (payload_on f line ++ piece_cells piece) ≡ messages relay_layout (payload_on f line) ++ option_to_list message
    → refused ≡ slice_get (added (refusals relay_layout) (payload_on f line) (piece_cells piece)) 0
    → Tells f line more (record { frame = Some got; message = message; refused = refused })
Tells-frame f line more got message refused piece frame of_frame told first =
    let payload : payload_on f (line ++ more) ≡ payload_on f line ++ piece_cells piece =
    payload_on-more f line more got frame ∙ ap (λ p. payload_on f line ++ piece_cells p) (sym of_frame) in
    record {
      frame = frame;
      message = ap (messages relay_layout) payload ∙ told;
      refused = first ∙ ap (λ cells. slice_get (drop (length (refusals_on f line)) (refusals relay_layout cells)) 0) (sym payload);
    }
