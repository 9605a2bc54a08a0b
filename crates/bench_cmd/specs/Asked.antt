-- What a command makes of one station of a scenario.
use Rattle.std.specs.Prelude.{◌≡◌, ℕ, ◌≤◌, nat_le, if◌then◌else◌, List, Result, Ok, Err}
use Rattle.ld_base.specs.declared.reason.Reason.TheVariants.{Station}
use Rattle.row_reader.specs.declared.fault.Fault.{Fault}
use Rattle.waveform_reader.specs.Scenario.{Setup}
use Rattle.bench_cmd.specs.declared.asked.Asked.{Asked}
use Rattle.bench_cmd.specs.declared.asked.Asked.TheVariants.{There, Bad}

-- no row is at fault where a valid scenario lacks the station
abbrev pub absent : Fault
absent = record { row = 0; reason = Station }

-- a text of a scenario that was read, where it has the station
abbrev pub where_there : ℕ → (Setup → List ℕ) → Result Setup Fault → Result (List ℕ) Fault
where_there station text (Ok s) = if nat_le station s.settings.stations then Ok (text s) else Err absent
where_there station text (Err fault) = Err fault

-- a scenario with that station was read, or this is wrong whatever is made of it
abbrev pub IsAsked : ℕ → Result Setup Fault → Asked → Type 0
IsAsked station made (There scenario me) = (made ≡ Ok scenario) × (me ≡ station) × (station ≤ scenario.settings.stations)
IsAsked station made (Bad fault) = (text : Setup → List ℕ) → where_there station text made ≡ Err fault
