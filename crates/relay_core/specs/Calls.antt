-- Which calls a terminal can be handed, and which stations are two of a line.
use Rattle.std.specs.Prelude.{◌≢◌, ℕ, ◌≤◌, List, [], All}
use Rattle.ld_base.specs.Ticks.{last_stamp}
use Rattle.ld_base.specs.declared.fields.Fields.{Fields}
use Rattle.c3794_frame.specs.Numbers.{AreBits}
use Rattle.relay_message.specs.FitPhases.{FitPhases}
use Rattle.relay_core.specs.Log.{stamp_of}
use Rattle.relay_core.specs.declared.call.Call.{Call}
use Rattle.relay_core.specs.declared.call.Call.TheVariants as made

-- the values of an own sample have sixteen bits each
abbrev pub FitValues : Call → Type 0
FitValues (made.Sample at values) = FitPhases values
FitValues (made.Slot at) = Unit {0}
FitValues (made.Bits at peer bits) = Unit {0}
FitValues (made.Fault at peer) = Unit {0}

-- the bits of a line that come with a call, from whichever peer
abbrev pub bits_of_call : Call → List ℕ
bits_of_call (made.Sample at values) = []
bits_of_call (made.Slot at) = []
bits_of_call (made.Bits at peer bits) = bits
bits_of_call (made.Fault at peer) = []

-- a stamp is one that a clock can show, values have sixteen bits, and bits are 0 or 1
pub record IsCall (call : Call) : Type 0 where
  pub stamp : stamp_of call ≤ last_stamp
  pub values : FitValues call
  pub bits : AreBits (bits_of_call call)

-- each of these calls can be made
abbrev pub AreCalls : List Call → Type 0
AreCalls log = All IsCall log

-- two stations of a line, one and another
pub record AreStations (f : Fields) (station other : ℕ) : Type 0 where
  pub one : (1 ≤ station) × (station ≤ f.stations)
  pub another : (1 ≤ other) × (other ≤ f.stations)
  pub differ : station ≢ other
