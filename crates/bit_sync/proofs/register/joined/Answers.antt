use Rattle.std.proofs.Common.{refl}
use Rattle.bit_sync.proofs.Registers.{halves}
use Rattle.bit_sync.proofs.register.joined.Goals as goal

pub returns : goal.returns
returns c = halves _ _ _ _ _ c.copy_from_slice.ensures.len c.copy_from_slice.ensures.after c.copy_from_slice-2.ensures.after refl
