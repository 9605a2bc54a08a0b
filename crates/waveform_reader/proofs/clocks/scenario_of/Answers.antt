use Rattle.waveform_reader.proofs.SetupKept.{course_kept, setup_kept}
use Rattle.waveform_reader.proofs.clocks.scenario_of.Goals as goal

pub clock_of-requires : goal.clock_of-requires
clock_of-requires c = course_kept _ _ c.requires.kept c.requires.drift _

pub clock_of-requires-2 : goal.clock_of-requires-2
clock_of-requires-2 c = course_kept _ _ c.requires.kept c.requires.drift _

pub clock_of-requires-3 : goal.clock_of-requires-3
clock_of-requires-3 c = course_kept _ _ c.requires.kept c.requires.drift _

pub new-requires : goal.new-requires
new-requires c =
    rw (c.clock_of.ensures, c.clock_of-2.ensures, c.clock_of-3.ensures, c.station_of.ensures, c.station_of-2.ensures, c.station_of-3.ensures)
    (setup_kept _ _ _ c.requires.kept c.requires.drift c.requires.accepted c.requires.end)
