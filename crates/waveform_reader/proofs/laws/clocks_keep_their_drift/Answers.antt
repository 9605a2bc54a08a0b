use Rattle.waveform_reader.proofs.ClockFacts.{each_kept, journal_kept}
use Rattle.waveform_reader.proofs.laws.clocks_keep_their_drift.Goals as goal

pub returns-clause-each : goal.returns-clause-each
returns-clause-each c = each_kept c.a_clock_keeps_its_drift.ensures

pub returns-clause-journal : goal.returns-clause-journal
returns-clause-journal c = journal_kept c.a_clock_keeps_its_drift.ensures
