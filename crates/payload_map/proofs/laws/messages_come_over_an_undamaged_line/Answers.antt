use Rattle.payload_map.proofs.Found.{relay-hunts}
use Rattle.payload_map.proofs.Lines.{line-found}
use Rattle.payload_map.proofs.laws.messages_come_over_an_undamaged_line.Goals as goal

pub returns-clause-messages : goal.returns-clause-messages
returns-clause-messages c rules slots n are fine turn first within =
    let hunts = relay-hunts c.a_message_is_spelled.ensures c.a_whole_message_is_found_first.ensures c.an_idle_byte_tells_nothing.ensures c.fewer_bytes_tell_nothing.ensures in
    (line-found rules slots n hunts (c.undamaged_line.ensures rules) are fine turn first within).0

pub returns-clause-refusals : goal.returns-clause-refusals
returns-clause-refusals c rules slots n are fine turn first within =
    let hunts = relay-hunts c.a_message_is_spelled.ensures c.a_whole_message_is_found_first.ensures c.an_idle_byte_tells_nothing.ensures c.fewer_bytes_tell_nothing.ensures in
    (line-found rules slots n hunts (c.undamaged_line.ensures rules) are fine turn first within).1
