-- The terminals of a scenario, each of which stands for its station's log.
use Rattle.std.specs.Prelude.{◌≡◌, ℕ, suc, ◌-◌, min, List, Some, length, slice_get}
use Rattle.std.specs.Vec.{vec_capacity, vec_len}
use Rattle.ld_base.specs.declared.fields.Fields.{Fields}
use Rattle.pingpong.specs.declared.journal.Entry.{Entry}
use Rattle.relay_core.specs.StandsFor.{Kept, StandsFor}
use Rattle.line_journal.specs.Account.{IsAccount}
use Rattle.line_world.specs.Terminals.{Terminals}
use Rattle.relay_core.specs.StationLog.{StationLog}
use Rattle.line_world.specs.declared.terminals.Terminals.TheInside.{Inside}

-- the terminal of station `me`, by a journal
pub record IsTerminal (f : Fields) (journal : List Entry) (me : ℕ) (t : Kept) : Type 0 where
  pub settings : t.settings ≡ f
  pub station : t.me ≡ me
  pub stands : StandsFor t (StationLog me journal)

-- one terminal for each station, in order
pub record AreTerminals (f : Fields) (journal : List Entry) (terminals : List Kept) : Type 0 where
  pub count : length terminals ≡ f.stations
  pub each : (k : ℕ) (t : Kept) → slice_get terminals k ≡ Some t → IsTerminal f journal (suc k) t

-- there is room for an entry where the journal and the account have it
abbrev pub seen_of : Inside → Terminals
seen_of h = record { setup = h.scenario; journal = h.journal.items; room = min (vec_capacity h.journal - vec_len h.journal) h.account.room }

-- the terminals stand for their logs, and the account is that of the journal
pub record AreKept (h : Inside) : Type 0 where
  pub terminals : AreTerminals h.scenario.settings h.journal.items h.terminals.items
  pub settings : h.account.settings ≡ h.scenario.settings
  pub account : IsAccount h.account h.journal.items
