use Rattle.setting_rows.proofs.HeadReading.{IsOpen-bad, IsOpen-more, Tells-misread}
use Rattle.setting_rows.proofs.reading.read_head.Goals as goal

pub returns-in-Err-clause-refused : goal.returns-in-Err-clause-refused
returns-in-Err-clause-refused c =
    rw (c.at.ensures, c.number.ensures) (Tells-misread _ _ _ _ c.in-Err.ensures.refused
    (λ reason bad. IsOpen-bad _ _ c.headings.head c.headings.rows _ reason c.in-Some.ensures bad c.headings.invariant))

pub headings-preserved : goal.headings-preserved
headings-preserved c =
    rw (c.in_ok-advance.ensures, c.in_default-take.ensures.taken.1) (IsOpen-more _ _ c.headings.head c.headings.rows _ c.in-Some.ensures c.in_default-take.ensures.taken.0 c.headings.invariant)
