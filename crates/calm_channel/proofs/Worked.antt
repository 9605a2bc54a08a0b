-- Worked cases of a calm line: delays, the time of a message on its way, and what has come.
use Rattle.std.proofs.Common.{◌≡◌, ℕ, [], ◌∷◌, refl}
use Rattle.ld_base.specs.Settings.{usual}
use Rattle.ld_base.specs.declared.rule.Act.TheVariants as act
use Rattle.waveform_reader.specs.Scenario.{Setup}
use Rattle.line_world.specs.Occasions.{moments}
use Rattle.calm_channel.specs.Calm.{delay_of_line, message_slots, transit}
use Rattle.calm_channel.specs.Coming.{asked, frames_come}

-- two stations with 12 channels, or with 5, and 300 ticks from the first to the second
abbrev line_of : ℕ → Setup
line_of channels = record { settings = usual 2 channels; end = 10000; clocks = []; shapes = []; rules = record { from = 1; to = 2; first = 0; last = 0; act = act.Delay 300 } ∷ [] }

told_delay : delay_of_line (line_of 12) 1 2 ≡ 300
told_delay = refl

usual_delay : delay_of_line (line_of 12) 2 1 ≡ 1000
usual_delay = refl

-- 36 bytes are three slots of 12 channels, and eight of 5
three_slots : message_slots (usual 2 12) ≡ 3
three_slots = refl

eight_slots : message_slots (usual 2 5) ≡ 8
eight_slots = refl

-- so the last frame goes out two slots after the first, or seven
after_three : transit (line_of 12) 1 2 ≡ 550
after_three = refl

after_eight : transit (line_of 5) 2 1 ≡ 1875
after_eight = refl

-- the first frame comes at tick 300, so it has come when the line was asked in the ticks 0 to 300
none_before : frames_come 300 300 ≡ 0
none_before = refl

first_come : frames_come 300 301 ≡ 1
first_come = refl

second_not_yet : frames_come 300 425 ≡ 1
second_not_yet = refl

second_come : frames_come 300 426 ≡ 2
second_come = refl

-- a line is asked once in each tick
asked_in_two_ticks : asked 1 2 (moments (usual 2 12) 2) ≡ 2
unfolding moments
asked_in_two_ticks = refl
