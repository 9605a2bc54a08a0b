use Rattle.std.proofs.Common.{length}
use Rattle.waveform_reader.proofs.ReadingFacts.{IsGoing}
use Rattle.waveform_reader.proofs.reading.read_body.Given as goal

abbrev pub invariant-records : goal.invariant-records
invariant-records l = IsGoing l.head l.initial.rows l.draft l.rows

abbrev pub decreases-records : goal.decreases-records
decreases-records l = length l.rows.left
