-- The account: what is told of a journal, and what must be known of it to tell more.
use Rattle.std.specs.Prelude.{◌≡◌, ℕ, List, All, reverse, slice_get, Some, suc}
use Rattle.ld_base.specs.declared.fields.Fields.{Fields}
use Rattle.offset_track.specs.InForce.{kept}
use Rattle.pingpong.specs.declared.journal.Entry.{Entry}
use Rattle.pingpong.specs.declared.journal.What.{What}
use Rattle.line_journal.specs.Crossings.{Arrivals, Beginnings, Crossings, Forged}
use Rattle.line_journal.specs.LineHistory.{LineHistory}
use Rattle.line_journal.specs.Report.{Lines}
use Rattle.relay_core.specs.StationLog.{StationLog}
use Rattle.line_journal.specs.Totals.{TotalOf}
use Rattle.line_journal.specs.declared.line.Line.{Line}
use Rattle.line_journal.specs.declared.line.Total.{Total}
use Rattle.line_journal.specs.declared.now.Now.{Now}

-- lines, totals by station, the count of forged messages, a history for each directed line, and for how many calls there is room
pub record Account : Type 0 where
  pub settings : Fields
  pub lines : List Line
  pub totals : List Total
  pub forged : ℕ
  pub histories : List LineHistory
  pub room : ℕ

-- a history is that of its line in a journal
pub record IsHistory (f : Fields) (journal : List Entry) (l : LineHistory) : Type 0 where
  pub begun : l.begun ≡ Beginnings f l.from l.to journal
  pub last : l.last ≡ slice_get (reverse (Arrivals f l.to l.from journal)) 0
  pub crossings : l.newest_first ≡ kept (λ crossing. crossing.exchange) f.slow (Crossings f l.to l.from journal)

-- an account is that of a journal
pub record IsAccount (b : Account) (journal : List Entry) : Type 0 where
  pub lines : b.lines ≡ Lines b.settings journal
  pub totals : (k : ℕ) (t : Total) → slice_get b.totals k ≡ Some t → t ≡ TotalOf b.settings (suc k) (StationLog (suc k) journal)
  pub forged : b.forged ≡ Forged b.settings journal
  pub histories : All (IsHistory b.settings journal) b.histories

-- the call that a station is handed at a moment, with what happened to it
abbrev pub entry_at : Now → What → Entry
entry_at now what = record { time = now.tick; phases = now.phases; what = what }
