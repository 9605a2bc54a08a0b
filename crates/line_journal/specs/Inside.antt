-- What an account keeps.
use Rattle.std.specs.Prelude.{◌≡◌, ℕ, ◌-◌, ◌/◌, min, List, [], None, fold, length, map}
use Rattle.std.specs.Vec.{vec_capacity, vec_len}
use Rattle.ld_base.specs.Settings.{setting_fault}
use Rattle.line_journal.specs.Account.{Account}
use Rattle.line_journal.specs.LineHistory.{LineHistory}
use Rattle.line_journal.specs.Stations.{Way, ways}
use Rattle.line_journal.specs.declared.account.Account.TheInside.{Inside}

-- the directed line of a history
abbrev pub way_of : LineHistory → Way
way_of l = record { from = l.from; to = l.to }

-- a history but for its room
abbrev pub roomless : LineHistory → LineHistory
roomless l = record l { room = 0 }

-- nothing is known of a line
abbrev pub IsEmpty : LineHistory → Type 0
IsEmpty l = (l.begun ≡ []) × (l.last ≡ None) × (l.newest_first ≡ [])

-- for how many calls there is room: twelve lines each, and a message on each line
abbrev pub room_in : ℕ → List LineHistory → ℕ
room_in lines histories = fold (λ least history. min least history.room) (lines / 12) histories

abbrev pub account_of : Inside → Account
account_of b = record {
  settings = b.settings;
  lines = b.lines.items;
  totals = b.totals;
  forged = b.forged;
  histories = b.histories.items;
  room = room_in (vec_capacity b.lines - vec_len b.lines) b.histories.items;
}

-- a history for each directed line of accepted settings, in their order
pub record AreHistories (b : Inside) : Type 0 where
  pub settings : setting_fault b.settings ≡ None
  pub totals : length b.totals ≡ 3
  pub ways : map way_of b.histories.items ≡ ways b.settings
