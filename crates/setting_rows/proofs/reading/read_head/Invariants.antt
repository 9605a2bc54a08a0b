use Rattle.std.proofs.Common.{length}
use Rattle.setting_rows.proofs.HeadReading.{IsOpen}
use Rattle.setting_rows.proofs.reading.read_head.Given as goal

abbrev pub invariant-headings : goal.invariant-headings
invariant-headings l = IsOpen l.known l.initial.rows l.head l.rows

abbrev pub decreases-headings : goal.decreases-headings
decreases-headings l = length l.rows.left
