-- Journal: what happened, as true time sees it. (Clock rule of this project's own.)
use Rattle.std.specs.Prelude.{◌≡◌, ℕ, ◌-◌, ◌≤◌, List, AllPairs, Some, slice_get, slice_index}
use Rattle.pingpong.specs.Bounded.{Passage}
use Rattle.pingpong.specs.Reading.{Reading, WithinDrift}
use Rattle.pingpong.specs.declared.journal.Entry.{Entry}

-- a station's clock, read at an entry
abbrev pub read_at : ℕ → Entry → Reading
read_at station entry = record { time = entry.time; phase = slice_index entry.phases (station - 1) }

-- times never fall, and every station's clock keeps within its drift
pub record Follows (drift : ℕ) (earlier later : Entry) : Type 0 where
  pub order : earlier.time ≤ later.time
  pub clocks : (station : ℕ) → 1 ≤ station → station ≤ 3 → WithinDrift drift (read_at station earlier) (read_at station later)

-- each entry follows all before it
abbrev pub IsJournal : ℕ → List Entry → Type 0
IsJournal drift journal = AllPairs (Follows drift) journal

-- an exchange of a station with a peer by the entries at which its messages were sent and came
abbrev pub passage : ℕ → ℕ → Entry → Entry → Entry → Entry → Passage
passage station peer sent came turned back = record {
  sent = read_at station sent;
  came = read_at peer came;
  turned = read_at peer turned;
  back = read_at station back;
}

-- an exchange in a journal: the places of the entries at which its two messages were sent and came, and of one that isn't before
-- them, in order
pub record Happened (journal : List Entry) (sent came turned back now : Entry) : Type 0 where
  pub place_sent : ℕ
  pub place_came : ℕ
  pub place_turned : ℕ
  pub place_back : ℕ
  pub place_now : ℕ
  pub there : place_sent ≤ place_came
  pub held : place_came ≤ place_turned
  pub home : place_turned ≤ place_back
  pub since : place_back ≤ place_now
  pub is_sent : slice_get journal place_sent ≡ Some sent
  pub is_came : slice_get journal place_came ≡ Some came
  pub is_turned : slice_get journal place_turned ≡ Some turned
  pub is_back : slice_get journal place_back ≡ Some back
  pub is_now : slice_get journal place_now ≡ Some now
