use Rattle.payload_map.proofs.Flights.{unsent-free}
use Rattle.payload_map.proofs.laws.a_message_is_in_flight_for_its_slots.Goals as goal

pub returns : goal.returns
returns c n size slots = unsent-free n size slots
