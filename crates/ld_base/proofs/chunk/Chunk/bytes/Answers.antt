use Rattle.std.proofs.Common.{◌≡◌, ℕ, List, length, sym, ap, ◌∙◌}
use Rattle.ld_base.specs.Bits.{line_bits}
use Rattle.ld_base.specs.Packing.{length-line_bits}
use Rattle.ld_base.proofs.chunk.Chunk.bytes.Goals as goal

-- the count of a chunk's bits
counted : (count : ℕ) (bytes bits : List ℕ) → line_bits count bytes ≡ bits → length bits ≡ count
counted count bytes bits view = ap length (sym view) ∙ length-line_bits count bytes

pub returns-clause-bits : goal.returns-clause-bits
returns-clause-bits c = rw (counted _ _ _ c.self.view_is) (sym c.self.view_is)

pub returns-clause-few : goal.returns-clause-few
returns-clause-few c = rw (counted _ _ _ c.self.view_is) c.self.invariant.few

pub returns-clause-zeros : goal.returns-clause-zeros
returns-clause-zeros c = rw (counted _ _ _ c.self.view_is) c.self.invariant.zeros
