use Rattle.std.proofs.Common.{◌≡◌, length, arith}
use Rattle.std.proofs.lemmas.Grind.{common_steps}
use Rattle.ld_base.proofs.ChunkBits.{zero_byte, filled_bits, filled_zeros}
use Rattle.ld_base.proofs.chunk.first_bytes.Goals as goal
use Rattle.ld_base.proofs.chunk.first_bytes.Goals.{After-first_bits}

-- as many bytes are copied as are whole
copied_long : (c : After-first_bits) → length c.copy_from_slice.new.self ≡ c.from-whole.result
copied_long c = grind (arith, common_steps, c.copy_from_slice.ensures.len)

pub returns-clause-same : goal.returns-clause-same
returns-clause-same c =
    filled_bits c.args.bits c.from-whole.result c.first_bits.result c.args.bytes c.copy_from_slice.new.self _ c.from-whole.ensures c.if-whole-ge32.false zero_byte
    c.copy_from_slice.ensures.after (copied_long c) c.first_bits.ensures.kept c.first_bits.ensures.padded

pub returns-clause-zeros : goal.returns-clause-zeros
returns-clause-zeros c = λ i from _.
    filled_zeros c.args.bits c.from-whole.result c.first_bits.result c.args.bytes c.copy_from_slice.new.self _ c.from-whole.ensures c.if-whole-ge32.false zero_byte
    c.copy_from_slice.ensures.after (copied_long c) c.first_bits.ensures.kept c.first_bits.ensures.padded i from
