use Rattle.std.proofs.Common.{sym, ap, ◌∙◌, length}
use Rattle.ld_base.specs.Packing.{length-line_bits}
use Rattle.ld_base.proofs.chunk.Chunk.bits.Goals as goal

pub returns-clause-count : goal.returns-clause-count
returns-clause-count c = sym (ap length (sym c.self.view_is) ∙ length-line_bits _ _)
