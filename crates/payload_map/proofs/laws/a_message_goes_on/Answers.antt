use Rattle.std.proofs.lemmas.List.Elements.{recursion_from_All}
use Rattle.payload_map.proofs.Flights.{IsUnloaded, loaded-left}
use Rattle.payload_map.proofs.laws.a_message_goes_on.Goals as goal

pub returns : goal.returns
returns c n before after bytes yellow none = loaded-left n before after bytes yellow (recursion_from_All IsUnloaded after none)
