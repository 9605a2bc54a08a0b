-- A run is what a world gives whose wires do what the script says.
use Rattle.std.specs.Prelude.{fold}
use Rattle.std.proofs.Common.{◌≡◌, List, [], ◌∷◌, map, refl, ap, append-nil}
use Rattle.waveform_reader.specs.Scenario.{Setup}
use Rattle.line_world.specs.Journals.{AreFirst}
use Rattle.line_world.specs.Occasions.{Moment, moments}
use Rattle.line_world.specs.Run.{Run, State, after, outcome_by, start}
use Rattle.line_world.specs.World.{Event, Leads, journal_with}

-- the events of some moments of a run
events-of : (s : Setup) (these : List Moment) (state : State)
    → (events : List Event) × (map (λ event. event.moment) events ≡ these) × ((fold (after s) state these).journal ≡ journal_with s state.journal events)
events-of s [] state = ([], refl, refl)
events-of s (m ∷ these) state =
    let (events, are, journal) = events-of s these (after s state m) in
    (record { moment = m; outcome = outcome_by state.lines m.time m.occasion } ∷ events, ap (λ ms. m ∷ ms) are, journal)

pub run-leads : (s : Setup) → Leads s (moments s.settings s.end) [] (Run s)
run-leads s =
    let (events, are, journal) = events-of s (moments s.settings s.end) (start s) in
    record { events = events; moments = are; journal = journal }

pub all-first : (s : Setup) → AreFirst s (moments s.settings s.end)
all-first s = record { left = []; are = append-nil (moments s.settings s.end) }
