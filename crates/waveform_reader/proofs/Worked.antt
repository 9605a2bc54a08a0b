-- The definitions on worked rows: a good scenario, its first rows, rows that break a rule, and values of stations.
use Rattle.std.proofs.Common.{◌≡◌, refl, ℕ, ℤ, pos, negsuc, List, [], ◌∷◌, ◌++◌, Option, Some, None, take}
use Rattle.std.specs.Prelude.{codes}
use Rattle.ld_base.specs.Settings.{key_out_of_range, setting_fault, usual}
use Rattle.ld_base.specs.declared.fields.Fields.{Fields}
use Rattle.ld_base.specs.declared.reason.Reason.{Reason}
use Rattle.ld_base.specs.declared.reason.Reason.TheVariants as reason
use Rattle.phasor.specs.Factors.{cosine}
use Rattle.ld_base.specs.Phases.{no_current}
use Rattle.row_reader.specs.Rows.{Row}
use Rattle.row_reader.specs.declared.fault.Fault.{Fault}
use Rattle.setting_rows.specs.Keys.{key_of}
use Rattle.waveform_reader.specs.Names.{kind_of}
use Rattle.waveform_reader.specs.Scenario.{fault_of}
use Rattle.waveform_reader.specs.Shapes.{value_at}
use Rattle.waveform_reader.specs.declared.shape.Shape.TheVariants as shape
use Rattle.waveform_reader.specs.declared.shape.ShapeFrom.{ShapeFrom}

-- the settings of load current through a line of two stations, with these channels
abbrev head_with : List ℕ → List Row
head_with channels =
    (codes "set" ∷ codes "stations" ∷ codes "2" ∷ []) ∷
    (codes "set" ∷ codes "channels" ∷ channels ∷ []) ∷
    (codes "set" ∷ codes "spacing" ∷ codes "1000" ∷ []) ∷
    (codes "set" ∷ codes "cycle" ∷ codes "20" ∷ []) ∷
    (codes "set" ∷ codes "drift" ∷ codes "20" ∷ []) ∷
    (codes "set" ∷ codes "end" ∷ codes "200000" ∷ []) ∷ []

-- its clocks, its delays and the wave of station 1
abbrev middle : List Row
middle =
    (codes "clock" ∷ codes "1" ∷ codes "0" ∷ []) ∷
    (codes "clock" ∷ codes "2" ∷ codes "4200" ∷ []) ∷
    (codes "delay" ∷ codes "0" ∷ codes "1" ∷ codes "2" ∷ codes "3000" ∷ []) ∷
    (codes "delay" ∷ codes "0" ∷ codes "2" ∷ codes "1" ∷ codes "3000" ∷ []) ∷
    (codes "wave" ∷ codes "0" ∷ codes "1" ∷ codes "1000" ∷ codes "0" ∷ codes "1000" ∷ codes "13" ∷ codes "1000" ∷ codes "7" ∷ []) ∷ []

-- the wave of station 2 up to its last step
abbrev wave_2 : Row
wave_2 = codes "wave" ∷ codes "0" ∷ codes "2" ∷ codes "1000" ∷ codes "10" ∷ codes "1000" ∷ codes "3" ∷ codes "1000" ∷ []

-- the whole scenario
abbrev load : List Row
load = head_with (codes "5") ++ middle ++ (wave_2 ++ codes "17" ∷ []) ∷ []

-- a fault
abbrev bad : ℕ → Reason → Option Fault
bad row reason = Some (record { row = row; reason = reason })

whole : fault_of load ≡ None
unfolding kind_of key_of setting_fault key_out_of_range
whole = refl

-- the settings are whole from the sixth row on
cut_rows_0 : fault_of (take 0 load) ≡ bad 0 reason.Settings
cut_rows_0 = refl

cut_rows_5 : fault_of (take 5 load) ≡ bad 0 reason.Settings
unfolding kind_of key_of setting_fault key_out_of_range
cut_rows_5 = refl

cut_rows_6 : fault_of (take 6 load) ≡ None
unfolding kind_of key_of setting_fault key_out_of_range
cut_rows_6 = refl

cut_fields : fault_of (head_with (codes "5") ++ middle ++ wave_2 ∷ []) ≡ bad 12 reason.Fields
unfolding kind_of key_of setting_fault key_out_of_range
cut_fields = refl

cut_number : fault_of (head_with (codes "5") ++ middle ++ (wave_2 ++ [] ∷ []) ∷ []) ≡ bad 12 reason.Number
unfolding kind_of key_of setting_fault key_out_of_range
cut_number = refl

four_stations : fault_of ((codes "set" ∷ codes "stations" ∷ codes "4" ∷ []) ∷ load) ≡ bad 1 reason.Range
unfolding key_of
four_stations = refl

four_channels : fault_of (head_with (codes "4") ++ middle) ≡ bad 0 reason.Settings
unfolding kind_of key_of setting_fault key_out_of_range
four_channels = refl

fast_clock : fault_of (load ++ (codes "rate" ∷ codes "0" ∷ codes "1" ∷ codes "21" ∷ []) ∷ []) ≡ bad 13 reason.Range
unfolding kind_of key_of setting_fault key_out_of_range
fast_clock = refl

-- the rows behind the settings, with another one in front
abbrev with_seventh : Row → Option Fault
with_seventh row = fault_of (head_with (codes "5") ++ row ∷ middle)

odd_byte : with_seventh ((255 ∷ []) ∷ codes "1" ∷ []) ≡ bad 7 reason.Kind
unfolding kind_of key_of setting_fault key_out_of_range
odd_byte = refl

hexadecimal : with_seventh (codes "clock" ∷ codes "1" ∷ codes "0x" ∷ []) ≡ bad 7 reason.Number
unfolding kind_of key_of setting_fault key_out_of_range
hexadecimal = refl

late_start : with_seventh (codes "clock" ∷ codes "1" ∷ codes "1000000000001" ∷ []) ≡ bad 7 reason.Range
unfolding kind_of key_of setting_fault key_out_of_range
late_start = refl

same_words : with_seventh (codes "set" ∷ codes "worda" ∷ codes "223" ∷ []) ≡ bad 0 reason.Settings
unfolding kind_of key_of setting_fault key_out_of_range
same_words = refl

low_word : with_seventh (codes "set" ∷ codes "worda" ∷ codes "127" ∷ []) ≡ bad 7 reason.Range
unfolding key_of
low_word = refl

eleven_misses : with_seventh (codes "set" ∷ codes "misses" ∷ codes "11" ∷ []) ≡ bad 7 reason.Range
unfolding key_of
eleven_misses = refl

ten_misses : with_seventh (codes "set" ∷ codes "misses" ∷ codes "10" ∷ []) ≡ None
unfolding kind_of key_of setting_fault key_out_of_range
ten_misses = refl

-- the settings of these rows
abbrev load_fields : Fields
load_fields = record (usual 2 5) { drift = 20 }

-- a waveform
abbrev wave : ℕ → ℕ → List ℤ → List ℕ → ShapeFrom
wave from station amp step = record { station = station; from = from; shape = shape.Wave amp step }

-- load current of station 1
abbrev load_wave : List ShapeFrom
load_wave = wave 0 1 (pos 1000 ∷ pos 1000 ∷ pos 1000 ∷ []) (0 ∷ 13 ∷ 7 ∷ []) ∷ []

-- its phases begin a third of a cycle apart, and those below zero are rounded up
first_value : value_at load_fields load_wave 1 0 ≡ record { a = pos 1000; b = negsuc 586; c = negsuc 586 }
unfolding cosine
first_value = refl

-- a twentieth of a cycle is a spacing
step_over : value_at load_fields load_wave 1 999 ≡ value_at load_fields load_wave 1 0
unfolding cosine
step_over = refl

next_value : value_at load_fields load_wave 1 1000 ≡ record { a = pos 951; b = negsuc 308; c = negsuc 808 }
unfolding cosine
next_value = refl

-- it isn't that of station 2
other_station : value_at load_fields load_wave 2 0 ≡ no_current
other_station = refl

-- a fault at station 1, which begins at tick 100000
abbrev fault_wave : List ShapeFrom
fault_wave = wave 100000 1 (pos 16384 ∷ pos 0 ∷ pos 0 ∷ []) (5 ∷ 0 ∷ 0 ∷ []) ∷ []

before_fault : value_at load_fields fault_wave 1 99999 ≡ no_current
before_fault = refl

set_101 : value_at load_fields fault_wave 1 101000 ≡ record { a = negsuc 5062; b = pos 0; c = pos 0 }
unfolding cosine
set_101 = refl

-- of two that begin at one tick the later one counts
later_counts : value_at load_fields (load_wave ++ wave 0 1 (pos 0 ∷ pos 0 ∷ pos 7 ∷ []) (0 ∷ 0 ∷ 0 ∷ []) ∷ []) 1 0 ≡ record { a = pos 0; b = pos 0; c = pos 7 }
unfolding cosine
later_counts = refl
