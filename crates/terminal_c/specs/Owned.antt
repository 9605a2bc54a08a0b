-- What the pointer of a handle owns.
use Rattle.std.specs.Prelude.{Option, None, Some}
use Rattle.std_alloc.specs.Box.Ownership.{box_owns}
use Rattle.std_heap.specs.contracts.GlobalAllocator.TheImpl.{ghosts}
use Rattle.std_heap.specs.declared.Global.{Global}
use Rattle.relay_core.specs.StandsFor.{Kept}
use Rattle.relay_core.specs.contracts.terminal.Terminal.{the_row}
use base.Fml.{Fml, ftrue}
use denote.RawPtr.{Ptr}

-- the allocator, of which there is one
abbrev pub heap : Global
heap = record { memory = record { seal = tt } }

-- the terminal with its memory, where there is one
abbrev pub owned : Ptr → Option Kept → Fml
owned p None = ftrue
owned p (Some t) = box_owns (ghosts.dealloc_token heap) the_row p t
