use Rattle.std.proofs.Common.{◌≡◌, ◌++◌, map, take}
use Rattle.ld_base.specs.Script.{repeats}
use Rattle.script_wire.specs.Wires.{due_of}
use Rattle.script_wire.proofs.chunks.add_repeats.Given as goal

-- the repeats so far have been added
abbrev pub invariant-loop-act : goal.invariant-loop-act
invariant-loop-act l = map due_of l.chunks.items ≡ map due_of l.initial.chunks.items ++ repeats (take l.act-index l.acts) l.due l.chunk
