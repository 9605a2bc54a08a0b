-- Which messages of a line have come, by the ticks at which its receiver has asked it. (This project's own.)
use Rattle.std.specs.Prelude.{◌≡◌, ℕ, ◌+◌, ◌-◌, ◌/◌, ◌≤◌, Bool, false, nat_lt, ◌&&◌, ◌==◌, List, count_by, filter, map, take}
use Rattle.std.specs.List.{flat_map}
use Rattle.relay_core.specs.Accepted.{Accepted}
use Rattle.relay_core.specs.Line.{Line}
use Rattle.relay_core.specs.Sent.{Sent}
use Rattle.relay_core.specs.declared.receipt.Receipt.{Receipt}
use Rattle.waveform_reader.specs.Scenario.{Setup}
use Rattle.line_journal.specs.Crossings.{Start, Starts}
use Rattle.line_world.specs.Journals.{AreFirst}
use Rattle.line_journal.specs.Stations.{ArePair}
use Rattle.line_world.specs.Occasions.{Moment, Occasion}
use Rattle.line_world.specs.Occasions.Occasion.{arrival, departure, sampling, slot}
use Rattle.line_world.specs.Run.{run_through}
use Rattle.relay_core.specs.StationLog.{StationLog}
use Rattle.line_world.specs.World.{stamp_of}
use Rattle.line_world.specs.Worlds.{World}
use Rattle.calm_channel.specs.Calm.{delay_of_line, run_below, transit}

-- whether the receiver of a line asks it
abbrev pub asks : ℕ → ℕ → Occasion → Bool
asks from to (arrival receiver sender) = (sender == from) && (receiver == to)
asks from to (sampling station) = false
asks from to (slot station) = false
asks from to (departure sender receiver) = false

-- at how many ticks the line was asked: once in each, so after all ticks below n at n of them
abbrev pub asked : ℕ → ℕ → List Moment → ℕ
asked from to these = count_by (λ moment. asks from to moment.occasion) these

-- whether a message that began on the line has come, the line having been asked in so many ticks
abbrev pub has_come : Setup → ℕ → ℕ → ℕ → Start → Bool
has_come s from to ticks start = nat_lt (start.time + transit s from to) ticks

-- its receipt, at the stamp that the receiver's clock has when it is there
abbrev pub receipt_of : Setup → ℕ → ℕ → Start → Receipt
receipt_of s from to start = record { message = start.message; at = stamp_of s to (start.time + transit s from to) }

-- the receipts of the messages that have come, of those that began
abbrev pub Come : Setup → ℕ → ℕ → ℕ → List Start → List Receipt
Come s from to ticks starts = map (receipt_of s from to) (filter (has_come s from to ticks) starts)

-- after any first moments of a run, each station has accepted from each other exactly the messages that have come
abbrev pub AcceptedAre : Setup → Type 0
AcceptedAre s =
    (these : List Moment) → AreFirst s these → (from to : ℕ) → ArePair s.settings.stations from to
    → Accepted s.settings to from (StationLog to (run_through s these).journal)
    ≡ Come s from to (asked from to these) (Starts s.settings from to (run_through s these).journal)

-- how many frames of a line with a delay have come, the line having been asked in so many ticks: each goes out 125 ticks after the one
-- before it, the first at tick 0
abbrev pub frames_come : ℕ → ℕ → ℕ
frames_come delay ticks = (ticks - delay + 124) / 125

-- after any first moments of a run, what a station has got of each line is the first of the frames that were sent on it, whole
abbrev pub LinesAre : Setup → Type 0
LinesAre s =
    (these : List Moment) → AreFirst s these → (from to : ℕ) → ArePair s.settings.stations from to
    → Line from (StationLog to (run_through s these).journal)
    ≡ flat_map (λ bits. bits) (take (frames_come (delay_of_line s from to) (asked from to these)) (Sent s.settings from to (StationLog from (run_through s these).journal)))

-- after all ticks below one
abbrev pub AcceptedBelow : Setup → Type 0
AcceptedBelow s =
    (n : ℕ) → n ≤ s.end → (from to : ℕ) → ArePair s.settings.stations from to
    → Accepted s.settings to from (StationLog to (run_below s n).journal) ≡ Come s from to n (Starts s.settings from to (run_below s n).journal)

-- in a world over script wires whose memory was not refused
abbrev pub AcceptedIn : World → Type 0
AcceptedIn w =
    (from to : ℕ) → ArePair w.setup.settings.stations from to
    → Accepted w.setup.settings to from (StationLog to w.journal) ≡ Come w.setup from to w.next (Starts w.setup.settings from to w.journal)
