use Rattle.std.proofs.Common.{◌∙◌, ℕ, List, ap, sym, decimal, length}
use Rattle.hex.specs.Hex.{encode_lower}
use Rattle.text_lines.specs.Lines.{field_and}
use Rattle.recording.specs.RecordText.{bytes_of_bits}
use Rattle.recording.proofs.call_lines.put_chunk.Goals as goal

pub returns-clause-chunk : goal.returns-clause-chunk
returns-clause-chunk c =
    let bits = c.args.chunk.now in
    let old = c.args.line.now in
    let written = rw c.bits.ensures.count at c.put_bits.ensures.bits in
    written ∙ ap (λ (b : List ℕ). field_and (decimal (length bits)) (field_and (encode_lower (bytes_of_bits b)) old)) (sym c.bytes.ensures.bits)
