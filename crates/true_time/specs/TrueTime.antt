-- What every journal of a scenario keeps of true time. (This project's own.)
use Rattle.std.specs.Prelude.{◌≡◌, ℕ, List, All, Some}
use Rattle.ld_base.specs.declared.fields.Fields.{Fields}
use Rattle.pingpong.specs.declared.journal.Entry.{Entry}
use Rattle.line_journal.specs.Crossings.{Forged}
use Rattle.line_journal.specs.Stations.{ArePair}
use Rattle.line_journal.specs.Report.{Lines}
use Rattle.line_journal.specs.declared.crossing.Crossing.{Crossing}
use Rattle.line_journal.specs.declared.crossing.Legs.{Legs}
use Rattle.true_time.specs.Estimates.{EstimatesAreBounded, ExchangesAreYoung, IsInForce}
use Rattle.true_time.specs.Lines.{ErrsWithin, HasBound}
use Rattle.true_time.specs.Receipts.{EchoesAreReal}
use Rattle.true_time.specs.Values.{SetsAreAligned, SetsAreTrue}

-- both messages of each exchange in force are known, so each estimate is bounded
abbrev pub AllAreTraced : Fields → List Entry → Type 0
AllAreTraced f journal =
    (me peer place : ℕ) (entry : Entry) (crossing : Crossing) → ArePair f.stations me peer → IsInForce f me peer journal place entry crossing
    → (legs : Legs) × (crossing.legs ≡ Some legs)

-- what a journal keeps in which no damaged message passed its check
pub record KeepsHonestTime (f : Fields) (journal : List Entry) : Type 0 where
  pub traced : AllAreTraced f journal
  pub bounds : All HasBound (Lines f journal)
  pub sets : SetsAreTrue f journal

-- a journal keeps true time
pub record KeepsTrueTime (f : Fields) (journal : List Entry) : Type 0 where
  pub echoes : EchoesAreReal f journal
  pub estimates : EstimatesAreBounded f journal
  pub exchanges : ExchangesAreYoung f journal
  pub lines : All ErrsWithin (Lines f journal)
  pub sets : SetsAreAligned f journal
  pub honest : Forged f journal ≡ 0 → KeepsHonestTime f journal
