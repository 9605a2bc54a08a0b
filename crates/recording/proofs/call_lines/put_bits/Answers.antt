use Rattle.std.proofs.Common.{◌≡◌, ◌∙◌, ◌<◌, ℕ, ◌+◌, ◌/◌, ap, arith, decimal, take, slice_index}
use Rattle.hex.specs.Hex.{encode_lower}
use Rattle.ld_base.specs.Bits.{line_bits}
use Rattle.ld_base.specs.Chunk.{IsPacked}
use Rattle.text_lines.specs.Lines.{field_and}
use Rattle.recording.specs.RecordText.{bytes_of_bits}
use Rattle.recording.proofs.ChunkBytes.{spelled}
use Rattle.recording.proofs.call_lines.put_bits.Goals as goal

pub returns-clause-bits : goal.returns-clause-bits
returns-clause-bits c =
    let bytes = c.args.bytes.now in
    let count = c.args.count in
    let each : (k : ℕ) → slice_index bytes k < 256 = λ k. omega (arith, c.type_inv.bytes k) in
    let packed : IsPacked count bytes = record { few = c.requires.whole.0; long = c.requires.whole.1; each = each; zeros = c.requires.zeros } in
    let places : c.from.result ≡ (count + 7) / 8 = omega (arith, c.from.ensures, c.div_ceil.ensures) in
    let front : take c.from.result bytes ≡ bytes_of_bits (line_bits count bytes) = ap (λ n. take n bytes) places ∙ spelled count bytes packed in
    let digits = c.put_hex_field.ensures.digits ∙ ap (λ b. field_and (encode_lower b) c.args.line.now) front in
    c.put_field.ensures.number ∙ ap (λ n. field_and (decimal n) c.put_hex_field.new.self) c.from-2.ensures ∙ ap (field_and (decimal count)) digits
