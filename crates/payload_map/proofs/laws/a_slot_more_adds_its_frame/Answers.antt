use Rattle.std.proofs.Common.{[]}
use Rattle.payload_map.proofs.Slots.{frames-more, in_turn-more}
use Rattle.payload_map.proofs.laws.a_slot_more_adds_its_frame.Goals as goal

pub returns-clause-frame : goal.returns-clause-frame
returns-clause-frame c = frames-more

pub returns-clause-in_turn : goal.returns-clause-in_turn
returns-clause-in_turn c n slots slot = in_turn-more n [] slots slot
