-- What a terminal's answer adds to what an account keeps.
use Rattle.std.specs.Prelude.{ℕ, ◌+◌, ◌-◌, min, ◌==◌, ◌&&◌, if◌then◌else◌, List, [], ◌∷◌, ◌++◌, count_by, find, is_none, length, take, Option, None, Some, option_map, slice_get}
use Rattle.std.specs.Option.{option_and_then, option_to_list}
use Rattle.ld_base.specs.Faults.{last_count}
use Rattle.ld_base.specs.Message.{Contents}
use Rattle.offset_track.specs.declared.track.Taken.{Taken}
use Rattle.offset_track.specs.declared.track.Taken.TheVariants as taken
use Rattle.pingpong.specs.Exchange.{Stamps, exchange_of}
use Rattle.relay_core.specs.Answers.{news_in}
use Rattle.relay_core.specs.declared.answers.Heard.{Heard}
use Rattle.relay_core.specs.declared.answers.Judged.{Judged}
use Rattle.relay_core.specs.declared.answers.News.{News}
use Rattle.relay_core.specs.declared.answers.News.TheVariants as news
use Rattle.relay_core.specs.declared.answers.Outgoing.{Outgoing}
use Rattle.line_journal.specs.Crossings.{is_same, legs_from}
use Rattle.line_journal.specs.LineHistory.{LineHistory, is_same_exchange}
use Rattle.line_journal.specs.Totals.{has_trip, is_bad, is_repeated, is_strange, took_too_long}
use Rattle.line_journal.specs.declared.crossing.Arrival.{Arrival}
use Rattle.line_journal.specs.declared.crossing.Beginning.{Beginning}
use Rattle.line_journal.specs.declared.crossing.Crossing.{Crossing}
use Rattle.line_journal.specs.declared.crossing.Legs.{Legs}
use Rattle.line_journal.specs.declared.line.Total.{Total}

-- a count with so many more, which stands still at the end of its type
abbrev pub more : ℕ → ℕ → ℕ
more count some = min (count + some) last_count

-- a total with a set judged, or none
abbrev pub with_judged : Total → Option Judged → Total
with_judged t judged = record t {
  sets = more t.sets (length (option_to_list judged));
  trips = more t.trips (count_by has_trip (option_to_list judged));
}

-- the message accepted
abbrev pub accepted_in : News → Option Contents
accepted_in (news.Accepted m) = Some m
accepted_in other = None

-- a total with what bits told
abbrev pub with_heard : Total → Heard → Total
with_heard t heard = record t {
  accepted = more t.accepted (length (option_to_list (accepted_in heard.news)));
  refused = more t.refused (length (option_to_list heard.refused));
  strange = more t.strange (count_by is_strange (news_in heard.news));
  repeats = more t.repeats (count_by is_repeated (news_in heard.news));
  slow = more t.slow (count_by took_too_long (option_to_list heard.taken));
  bad = more t.bad (count_by is_bad (option_to_list heard.frame));
}

-- a count of forged messages with what arrived
abbrev pub with_arrival : ℕ → Option Arrival → ℕ
with_arrival forged arrival = more forged (count_by (λ a. is_none a.began) (option_to_list arrival))

-- when a receiver accepted the last message on the line from one station to another
abbrev pub last_on : List LineHistory → ℕ → ℕ → Option Arrival
last_on histories from to = option_and_then (λ l. l.last) (find (λ l. (l.from == from) && (l.to == to)) histories)

-- the message that begins for a station
abbrev pub begun_to : ℕ → List Outgoing → Option Contents
begun_to to frames = option_and_then (λ o. o.begun) (find (λ o. o.to == to) frames)

-- a history with a message that begins at a true time, or none
abbrev pub with_begun : ℕ → Option Arrival → Option Contents → LineHistory → LineHistory
with_begun tick heard None l = l
with_begun tick heard (Some m) l = record l { begun = l.begun ++ record { message = m; time = tick; heard = heard } ∷ []; room = l.room - 1 }

-- when a station had accepted the last message of a peer, of the three
abbrev pub heard_from : List (Option Arrival) → ℕ → Option Arrival
heard_from heard peer = option_and_then (λ arrival. arrival) (slice_get heard (peer - 1))

-- a history with what begins in a slot of station `me`, to which messages of the peers came at these moments
abbrev pub with_slot : ℕ → ℕ → (ℕ → Option Arrival) → List Outgoing → LineHistory → LineHistory
with_slot tick me heard frames l = if l.from == me then with_begun tick (heard l.to) (begun_to l.to frames) l else l

-- the message that equals this one
abbrev pub beginning_of : LineHistory → Contents → Option Beginning
beginning_of l m = find (λ b. is_same m b.message) l.begun

abbrev pub arrival_on : ℕ → LineHistory → Contents → Arrival
arrival_on tick l m = record { came = tick; began = option_map (λ b. b.time) (beginning_of l m) }

-- the exchanges kept, with one more where it is kept
abbrev pub with_kept : Option Taken → Option Stamps → Option Legs → List Crossing → List Crossing
with_kept (Some taken.Kept) (Some e) legs before = take 8 (record { exchange = e; legs = legs } ∷ before)
with_kept other exchange legs before = before

-- a history whose receiver accepts a message at a true time and at its own time, and what became of the exchange, or none
abbrev pub with_accepted : ℕ → ℕ → Option Taken → Option Contents → LineHistory → LineHistory
with_accepted tick at taken None l = l
with_accepted tick at taken (Some m) l = record l {
  last = Some (arrival_on tick l m);
  newest_first = with_kept taken (exchange_of m at) (legs_from tick (beginning_of l m)) l.newest_first;
}

-- the legs of an exchange that is kept
abbrev pub legs_kept : LineHistory → Stamps → Option Legs
legs_kept l e = option_and_then (λ c. c.legs) (find (λ c. is_same_exchange c.exchange e) l.newest_first)

-- the exchange in force, where one was kept just then
abbrev pub kept_then : Option Taken → Option Stamps → Option Stamps
kept_then (Some taken.Kept) chosen = chosen
kept_then other chosen = None

-- and with its legs
abbrev pub crossing_told : LineHistory → Option Taken → Option Stamps → Option Crossing
crossing_told l taken chosen = option_map (λ e. record { exchange = e; legs = legs_kept l e }) (kept_then taken chosen)
