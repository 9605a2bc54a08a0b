use Rattle.std.proofs.Common.{◌≡◌, ◌<◌, ℕ, List, length, arith, ap, ◌∙◌, slice_index}
use Rattle.ld_base.specs.Bits.{line_bits}
use Rattle.ld_base.specs.Packing.{length-line_bits}
use Rattle.ld_base.proofs.ChunkReads.{tested_bit}
use Rattle.ld_base.proofs.chunk.Chunk.bit.Goals as goal

-- the place is one of the chunk's
within : (at count : ℕ) (bytes bits : List ℕ) → line_bits count bytes ≡ bits → at < length bits → at < count
within at count bytes bits view h = omega (arith, h, ap length view, length-line_bits count bytes)

pub bounds-self-inside-from : goal.bounds-self-inside-from
bounds-self-inside-from c = omega (arith, within _ _ _ _ c.self.view_is c.requires, c.self.invariant.few, c.from.ensures)

pub returns : goal.returns
returns c = tested_bit c.self.inside.count c.self.inside.bytes c.args.at c.from.result (within _ _ _ _ c.self.view_is c.requires) c.from.ensures
    ∙ ap (λ (bits : List ℕ). slice_index bits c.args.at) c.self.view_is
