use Rattle.ld_base.specs.Packing.{length-line_bits, same_bytes}
use Rattle.ld_base.proofs.chunk.ChunkPartialEq.eq.Goals as goal

-- Chunks are compared by what their bits give back, which is what they keep.
pub returns : goal.returns
returns c =
    rw (
      ← c.t1-1.view_is,
      ← c.t2-1.view_is,
      length-line_bits c.t1-1.inside.count c.t1-1.inside.bytes,
      length-line_bits c.t2-1.inside.count c.t2-1.inside.bytes,
      same_bytes c.t1-1.inside.count c.t1-1.inside.bytes c.t1-1.invariant,
      same_bytes c.t2-1.inside.count c.t2-1.inside.bytes c.t2-1.invariant,
    )
    (rw c.eq.ensures at c.and_eq.ensures)
