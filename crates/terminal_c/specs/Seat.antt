-- Whose terminal a handle holds.
use Rattle.std.specs.Prelude.{ℕ, Bool, true, false, Option, None, Some}
use Rattle.relay_core.specs.StandsFor.{Kept}

-- the station of a terminal, and how many there are on its line
abbrev pub seat_of : Option Kept → Option (ℕ × ℕ)
seat_of None = None
seat_of (Some t) = Some (t.me, t.settings.stations)

-- what the fields of a handle say of them
abbrev pub seat : Bool → ℕ → ℕ → Option (ℕ × ℕ)
seat false me stations = None
seat true me stations = Some (me, stations)
