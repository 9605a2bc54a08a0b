-- Report: what is told of a journal, line by line. (This project's own.)
use Rattle.std.specs.Prelude.{ℕ, ◌+◌, ◌-◌, ◌*◌, Bool, not, if◌then◌else◌, pos, ◌*ℤ◌, ◌-ℤ◌, unsigned_abs, List, [], ◌∷◌, ◌++◌, map, Option, option_map}
use Rattle.std.specs.Int.{abs_diff}
use Rattle.std.specs.List.{flat_map, list_any}
use Rattle.std.specs.Option.{option_to_list}
use Rattle.ld_base.specs.declared.fields.Fields.{Fields}
use Rattle.pingpong.specs.Exchange.{Stamps, estimate2, round_trip}
use Rattle.pingpong.specs.Journal.{read_at}
use Rattle.pingpong.specs.Reading.{offset}
use Rattle.pingpong.specs.declared.journal.Entry.{Entry}
use Rattle.pingpong.specs.declared.journal.What.{What}
use Rattle.pingpong.specs.declared.journal.What.TheVariants.{Came, SendFailed, Slot, TakeFailed, Took}
use Rattle.offset_track.specs.InForce.{InForce}
use Rattle.relay_core.specs.Answers.{changes_by, judged_by, taken_by}
use Rattle.relay_core.specs.Log.{now}
use Rattle.relay_core.specs.declared.answers.Change.{Change}
use Rattle.relay_core.specs.declared.answers.Judged.{Judged}
use Rattle.sample_store.specs.Along.{along}
use Rattle.line_journal.specs.Crossings.{Crossings}
use Rattle.relay_core.specs.StationLog.{StationLog, calls_by}
use Rattle.line_journal.specs.Totals.{took_too_long}
use Rattle.line_journal.specs.declared.crossing.Crossing.{Crossing}
use Rattle.line_journal.specs.declared.crossing.Legs.{Legs}
use Rattle.line_journal.specs.declared.line.Line.{Line}
use Rattle.line_journal.specs.declared.line.Line.TheVariants as line

-- how far an exchange's estimate is from the true offset at an entry, in half millionths of a tick
abbrev pub error_of : ℕ → ℕ → Entry → Stamps → ℕ
error_of me peer entry e = unsigned_abs ((pos 1000000 *ℤ estimate2 e) -ℤ (pos 2 *ℤ offset (read_at me entry) (read_at peer entry)))

-- how far it can be: by half its asymmetry, by the drift since the exchange began, and by a tick
abbrev pub bound_of : ℕ → ℕ → Legs → ℕ
bound_of drift time legs = 1000000 * abs_diff (legs.came - legs.sent) (legs.back - legs.turned) + 4 * drift * (time - legs.sent) + 2 * 1000000

abbrev pub est_line : Fields → ℕ → ℕ → Entry → Crossing → Line
est_line f me peer entry crossing =
    line.Est entry.time me peer (estimate2 crossing.exchange) (round_trip crossing.exchange) (error_of me peer entry crossing.exchange)
    (option_map (bound_of f.drift entry.time) crossing.legs)

-- the exchange in force with a peer at the end of a journal
abbrev pub crossing_in_force : Fields → ℕ → ℕ → List Entry → Option Crossing
crossing_in_force f me peer journal =
    InForce (λ crossing. crossing.exchange) f.slow f.age (now (StationLog me journal)) (Crossings f me peer journal)

-- whether an entry brings an exchange that is kept
abbrev pub brings_exchange : Fields → ℕ → ℕ → List Entry → Entry → Bool
brings_exchange f me peer before entry =
    list_any (λ taken. not (took_too_long taken)) (flat_map (taken_by f me peer (StationLog me before)) (calls_by me entry))

-- the estimate that an entry brings
abbrev pub estimates : Fields → List Entry → Entry → What → List Line
estimates f before entry (Came station peer bits) =
    if brings_exchange f station peer before entry
    then map (est_line f station peer entry) (option_to_list (crossing_in_force f station peer (before ++ entry ∷ [])))
    else []
estimates f before entry (Took station values) = []
estimates f before entry (Slot station first second) = []
estimates f before entry (SendFailed station peer) = []
estimates f before entry (TakeFailed station peer) = []

-- the station to which something happened
abbrev pub station_of : What → ℕ
station_of (Took station values) = station
station_of (Slot station first second) = station
station_of (Came station peer bits) = station
station_of (SendFailed station peer) = station
station_of (TakeFailed station peer) = station

abbrev pub set_line : ℕ → ℕ → Judged → Line
set_line time me judged = line.Judged time me judged.number judged.verdicts

abbrev pub alarm_line : ℕ → ℕ → Change → Line
alarm_line time me change = line.Alarm time me change.peer change.turn

-- the lines of an entry at station `me`: the set judged, and the alarms that changed
abbrev pub decisions : Fields → ℕ → List Entry → Entry → List Line
decisions f me before entry =
    map (set_line entry.time me) (flat_map (judged_by f me (StationLog me before)) (calls_by me entry))
    ++ map (alarm_line entry.time me) (flat_map (changes_by f me (StationLog me before)) (calls_by me entry))

-- the lines of an entry
abbrev pub lines_of : Fields → List Entry → Entry → List Line
lines_of f before entry = estimates f before entry entry.what ++ decisions f (station_of entry.what) before entry

-- Report: the lines of a journal
abbrev pub Lines : Fields → List Entry → List Line
Lines f journal = along (λ before so_far entry. lines_of f before entry) journal
