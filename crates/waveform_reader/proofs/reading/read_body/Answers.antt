use Rattle.std.proofs.Common.{sym}
use Rattle.setting_rows.proofs.HeadReading.{Tells-misread}
use Rattle.waveform_reader.proofs.ReadingFacts.{IsGoing-bad, IsGoing-end, IsGoing-more}
use Rattle.waveform_reader.proofs.reading.read_body.Goals as goal

pub returns-in-Err-clause-refused : goal.returns-in-Err-clause-refused
returns-in-Err-clause-refused c =
    rw (c.at.ensures, c.number.ensures) (Tells-misread _ _ _ _ c.in-Err.ensures.refused
    (λ reason bad. IsGoing-bad _ _ c.records.draft c.records.rows _ reason (sym c.in-Some.ensures) (rw c.requires.same at bad) c.records.invariant))

pub returns-clause-read : goal.returns-clause-read
returns-clause-read c = IsGoing-end _ _ _ _ (rw c.in_default.is at (sym c.row.ensures)) c.records.invariant

pub records-preserved : goal.records-preserved
records-preserved c =
    rw (c.in_ok-advance.ensures, c.in_default-take.ensures.taken.1, c.requires.same)
    (IsGoing-more _ _ c.records.draft c.records.rows _ (sym c.in-Some.ensures) (rw c.requires.same at c.in_default-take.ensures.taken.0) c.records.invariant)
