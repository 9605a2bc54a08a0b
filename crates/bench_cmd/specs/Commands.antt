-- The command line.
use Rattle.std.specs.Prelude.{ℕ, ◌≤◌, ◌<◌, ◌^◌, Bool, true, false, ◌&&◌, nat_le, if◌then◌else◌, List, [], ◌∷◌, Option, Some, None, bytes_eq, codes}
use Rattle.row_reader.specs.Numbers.{word_number}
use Rattle.bench_cmd.specs.declared.command.Command.{Command}
use Rattle.bench_cmd.specs.declared.command.Command.TheVariants.{Bench, Frames, Generate, Judge, Record}

-- the numbers of a command are those that it takes
abbrev pub IsFitting : Command → Type 0
IsFitting (Judge count) = (1 ≤ count) × (count ≤ 32)
IsFitting (Frames channels) = (1 ≤ channels) × (channels ≤ 12)
IsFitting Bench = Unit {0}
IsFitting (Generate number ticks) = (number < 10 ^ 18) × (1000 ≤ ticks) × (ticks ≤ 20000000)
IsFitting (Record station) = (1 ≤ station) × (station ≤ 3)

-- whether a command reads an input: the generator has none
abbrev pub reads_input : Command → Bool
reads_input (Generate number ticks) = false
reads_input other = true

-- `judge` with a count of sets from 1 to 32
abbrev pub judge_of : Option ℕ → Option Command
judge_of None = None
judge_of (Some count) = if nat_le 1 count && nat_le count 32 then Some (Judge count) else None

-- `frames` with a count of channels from 1 to 12
abbrev pub frames_of : Option ℕ → Option Command
frames_of None = None
frames_of (Some channels) = if nat_le 1 channels && nat_le channels 12 then Some (Frames channels) else None

-- `record` with a station from 1 to 3
abbrev pub record_of : Option ℕ → Option Command
record_of None = None
record_of (Some station) = if nat_le 1 station && nat_le station 3 then Some (Record station) else None

-- `bench`, which is a name alone
abbrev pub of_word : List ℕ → Option Command
of_word name = if bytes_eq name (codes "bench") then Some Bench else None

-- a name with a word for a number
abbrev pub of_count : List ℕ → List ℕ → Option Command
of_count name word =
    if bytes_eq name (codes "judge") then judge_of (word_number word)
    else if bytes_eq name (codes "frames") then frames_of (word_number word)
    else if bytes_eq name (codes "record") then record_of (word_number word)
    else None

-- `gen` with a number and a count of ticks from 1000 to 20000000
abbrev pub gen_of : Option ℕ → Option ℕ → Option Command
gen_of None ticks = None
gen_of (Some number) None = None
gen_of (Some number) (Some ticks) = if nat_le 1000 ticks && nat_le ticks 20000000 then Some (Generate number ticks) else None

-- a name with two words
abbrev pub of_two : List ℕ → List ℕ → List ℕ → Option Command
of_two name first second = if bytes_eq name (codes "gen") then gen_of (word_number first) (word_number second) else None

-- the command of some words, where they have the shape of one
abbrev pub command_of : List (List ℕ) → Option Command
command_of [] = None
command_of (name ∷ []) = of_word name
command_of (name ∷ word ∷ []) = of_count name word
command_of (name ∷ first ∷ second ∷ []) = of_two name first second
command_of (name ∷ first ∷ second ∷ other ∷ rest) = None
