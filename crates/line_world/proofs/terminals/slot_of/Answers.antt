use Rattle.std.proofs.Common.{◌≡◌, arith}
use Rattle.std.specs.Prelude.{option_map, slice_get}
use Rattle.std.proofs.lemmas.Grind.{common_steps}
use Rattle.std.proofs.lemmas.Option.{gets}
use Rattle.c3794_frame.specs.Numbers.{bits_of}
use Rattle.ld_base.specs.Bits.{line_bytes}
use Rattle.relay_core.specs.declared.answers.Outgoing.{Outgoing}
use Rattle.line_world.proofs.Slotting.{slot-of}
use Rattle.line_world.proofs.terminals.slot_of.Goals as goal

pub returns : goal.returns
returns c =
    let second : c.map.result ≡ option_map (λ (o : Outgoing). line_bytes 32 (bits_of o.bytes)) (slice_get c.args.frames.now 1) = grind (arith, common_steps, gets) in
    slot-of c.args.station c.args.frames.now c.index-frames-0.result c.bytes_of.result c.map.result c.requires c.index-frames-0.is c.bytes_of.ensures second
