use Rattle.payload_map.proofs.Found.{relay-found, relay-hunts}
use Rattle.payload_map.proofs.laws.messages_sent_are_found.Goals as goal

pub returns-clause-messages : goal.returns-clause-messages
returns-clause-messages c n slots few fine turn =
    let hunts = relay-hunts c.a_message_is_spelled.ensures c.a_whole_message_is_found_first.ensures c.an_idle_byte_tells_nothing.ensures c.fewer_bytes_tell_nothing.ensures in
    (relay-found n slots hunts few fine turn).0

pub returns-clause-refusals : goal.returns-clause-refusals
returns-clause-refusals c n slots few fine turn =
    let hunts = relay-hunts c.a_message_is_spelled.ensures c.a_whole_message_is_found_first.ensures c.an_idle_byte_tells_nothing.ensures c.fewer_bytes_tell_nothing.ensures in
    (relay-found n slots hunts few fine turn).1
