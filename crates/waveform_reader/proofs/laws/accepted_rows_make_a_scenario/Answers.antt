use Rattle.waveform_reader.proofs.AcceptedRows.{accepted-rows}
use Rattle.waveform_reader.proofs.laws.accepted_rows_make_a_scenario.Goals as goal

pub returns : goal.returns
returns c = accepted-rows
