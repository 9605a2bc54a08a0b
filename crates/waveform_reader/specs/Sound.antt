-- What every scenario keeps.
use Rattle.std.specs.Prelude.{◌≡◌, ◌≢◌, true, ℕ, ◌+◌, ◌<◌, ◌≤◌, ℤ, pos, negsuc, ◌≤ℤ◌, unsigned_abs, All, AllPairs, count_by, List, [], length, None, Some, slice_get}
use Rattle.std.specs.List.Sorted.{IsNonDecreasingBy}
use Rattle.ld_base.specs.Settings.{setting_fault}
use Rattle.ld_base.specs.declared.fields.Fields.{Fields}
use Rattle.ld_base.specs.declared.phases.Phases.{Phases}
use Rattle.ld_base.specs.declared.rule.Act.{Act}
use Rattle.ld_base.specs.declared.rule.Act.TheVariants as act
use Rattle.ld_base.specs.declared.rule.Rule.{Rule}
use Rattle.pingpong.specs.Clock.{Course, IsCourse}
use Rattle.pingpong.specs.declared.clock.RateFrom.{RateFrom}
use Rattle.waveform_reader.specs.Draft.{Draft, is_delay, is_failure, is_one_line, is_repeat}
use Rattle.waveform_reader.specs.Scenario.{Setup, rates_of}
use Rattle.waveform_reader.specs.declared.record.Rating.{Rating}
use Rattle.waveform_reader.specs.declared.record.Record.{Record}
use Rattle.waveform_reader.specs.declared.record.Record.TheVariants as entry
use Rattle.waveform_reader.specs.declared.record.Start.{Start}
use Rattle.waveform_reader.specs.declared.shape.Shape.{Shape}
use Rattle.waveform_reader.specs.declared.shape.Shape.TheVariants as shape
use Rattle.waveform_reader.specs.declared.shape.ShapeFrom.{ShapeFrom}

-- a station of so many
abbrev pub IsStation : ℕ → ℕ → Type 0
IsStation stations station = (1 ≤ station) × (station ≤ stations)

-- a value of the converter
abbrev pub IsValue : ℤ → Type 0
IsValue value = (negsuc 32767 ≤ℤ value) × (value ≤ℤ pos 32767)

-- the values of three phases
pub record ArePhases (phases : Phases) : Type 0 where
  pub a : IsValue phases.a
  pub b : IsValue phases.b
  pub c : IsValue phases.c

-- an amplitude: a value that isn't negative
abbrev pub IsAmplitude : ℤ → Type 0
IsAmplitude amplitude = (pos 0 ≤ℤ amplitude) × (amplitude ≤ℤ pos 32767)

-- a wave has an amplitude for each phase, and a step within one cycle
pub record IsWave (amp : List ℤ) (step : List ℕ) : Type 0 where
  pub three : (length amp ≡ 3) × (length step ≡ 3)
  pub amplitudes : All IsAmplitude amp
  pub twentieths : All (λ s. s < 20) step

-- the values of a shape, or its wave
abbrev pub IsShape : Shape → Type 0
IsShape (shape.Hold phases) = ArePhases phases
IsShape (shape.Wave amp step) = IsWave amp step

-- the number of an act
abbrev pub IsAct : Act → Type 0
IsAct (act.Delay ticks) = (1 ≤ ticks) × (ticks ≤ 100000)
IsAct (act.Flip bit) = bit ≤ 255
IsAct (act.Repeat extra) = (1 ≤ extra) × (extra ≤ 1000000)
IsAct (act.Cut bits) = (1 ≤ bits) × (bits ≤ 255)
IsAct (act.Slip bits) = (1 ≤ bits) × (bits ≤ 255)
IsAct other = Unit {0}

-- a start of a clock of one of so many stations
pub record IsStart (stations : ℕ) (start : Start) : Type 0 where
  pub station : IsStation stations start.station
  pub ticks : start.ticks ≤ 1000000000000

-- a rate of a clock that drifts so much either way
pub record IsRate (drift : ℕ) (rate : RateFrom) : Type 0 where
  pub from : rate.from ≤ 20000000
  pub slow : unsigned_abs rate.rate ≤ drift

-- a rate of one of so many stations
pub record IsRating (stations drift : ℕ) (rating : Rating) : Type 0 where
  pub station : IsStation stations rating.station
  pub rate : IsRate drift rating.rate

-- a waveform of one of so many stations
pub record IsShapeFrom (stations : ℕ) (s : ShapeFrom) : Type 0 where
  pub station : IsStation stations s.station
  pub from : s.from ≤ 20000000
  pub shape : IsShape s.shape

-- the numbers of a rule of so many stations; a delay has its first tick for its last
pub record HasRanges (stations : ℕ) (rule : Rule) : Type 0 where
  pub sender : IsStation stations rule.from
  pub receiver : IsStation stations rule.to
  pub last : rule.last ≤ 20000000
  pub delay : is_delay rule.act ≡ true → rule.last ≡ rule.first
  pub act : IsAct rule.act

-- what a record keeps by itself
abbrev pub IsSaid : ℕ → Record → Type 0
IsSaid drift (entry.Clock start) = IsStart 3 start
IsSaid drift (entry.Rate rating) = IsRating 3 drift rating
IsSaid drift (entry.Shape from) = IsShapeFrom 3 from
IsSaid drift (entry.Script rule) = HasRanges 3 rule

-- a rule of a script of so many stations; a failure covers at most 1001 ticks
pub record IsRule (stations : ℕ) (rule : Rule) : Type 0 where
  pub ranges : HasRanges stations rule
  pub differ : rule.from ≢ rule.to
  pub order : rule.first ≤ rule.last
  pub failure : is_failure rule.act ≡ true → rule.last ≤ rule.first + 1000

-- of two waveforms of one station the later one begins no earlier
abbrev pub AreInTurn : ShapeFrom → ShapeFrom → Type 0
AreInTurn earlier later = earlier.station ≡ later.station → earlier.from ≤ later.from

-- of two delays of one line the later one begins no earlier
abbrev pub AreDelaysInTurn : Rule → Rule → Type 0
AreDelaysInTurn earlier later =
    is_delay earlier.act ≡ true → is_delay later.act ≡ true → is_one_line earlier later ≡ true → earlier.first ≤ later.first

-- the waveforms and the script of so many stations
pub record IsPlan (stations : ℕ) (waves : List ShapeFrom) (script : List Rule) : Type 0 where
  pub shapes : All (IsShapeFrom stations) waves
  pub in_turn : AllPairs AreInTurn waves
  pub rules : All (IsRule stations) script
  pub delays : AllPairs AreDelaysInTurn script
  pub few_rules : length script ≤ 1000
  pub few_repeats : count_by (λ rule. is_repeat rule.act) script ≤ 4

-- what the records keep that were read without a fault
pub record IsDraft (f : Fields) (draft : Draft) : Type 0 where
  pub starts : All (IsStart f.stations) draft.starts
  pub rates : All (IsRating f.stations f.drift) draft.rates
  pub few : (station : ℕ) → length (rates_of draft.rates station) ≤ 16
  pub in_turn : (station : ℕ) → IsNonDecreasingBy (λ r. r.from) (rates_of draft.rates station)
  pub plan : IsPlan f.stations draft.shapes draft.rules

-- a clock that drifts so much either way
pub record IsClock (drift : ℕ) (clock : Course) : Type 0 where
  pub course : IsCourse clock
  pub rates : All (IsRate drift) clock.rates

-- a clock that shows true time
abbrev pub true_clock : Course
true_clock = record { start = 0; rates = [] }

-- what a scenario keeps: accepted settings, three clocks within their drift, waveforms and a script. Where there are two stations, the
-- third clock shows true time
pub record IsSetup (s : Setup) : Type 0 where
  pub settings : setting_fault s.settings ≡ None
  pub end : (1 ≤ s.end) × (s.end ≤ 20000000)
  pub three : length s.clocks ≡ 3
  pub clocks : All (IsClock s.settings.drift) s.clocks
  pub third : s.settings.stations ≡ 2 → slice_get s.clocks 2 ≡ Some true_clock
  pub plan : IsPlan s.settings.stations s.shapes s.rules
