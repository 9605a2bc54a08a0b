-- The answers of a run and their causes, over any command.
use Rattle.std.specs.Prelude.{◌≡◌, ◌⊎◌, ℕ, List, Result, Ok, Err}
use Rattle.ld_base.specs.Ends.{End}
use Rattle.bench_cmd.specs.FramesText.{frames_text}
use Rattle.bench_cmd.specs.GeneratorText.{generated_text}
use Rattle.bench_cmd.specs.Judge.{judge_rows}
use Rattle.bench_cmd.specs.Recordings.{record_text}
use Rattle.bench_cmd.specs.ReportText.{bench_text}
use Rattle.bench_cmd.specs.Faults.{bad_line}
use Rattle.row_reader.specs.declared.fault.Fault.{Fault}
use Rattle.row_reader.specs.Rows.{rows_of}
use Rattle.bench_cmd.specs.Transfers.{GaveAll, GaveSome, GaveTooMuch, GaveUp, Took, TookFront, Untouched}
use Rattle.bench_cmd.specs.declared.command.Command.{Command}
use Rattle.bench_cmd.specs.declared.command.Command.TheVariants.{Bench, Frames, Generate, Judge, Record}
use Rattle.bench_cmd.specs.declared.status.Status.{Status}
use Rattle.bench_cmd.specs.declared.status.Status.TheVariants as status

-- what a command makes of an input: the text to write, or what is wrong with the input
abbrev pub outcome : Command → List ℕ → Result (List ℕ) Fault
outcome (Judge count) input = judge_rows count (rows_of input)
outcome (Frames channels) input = Ok (frames_text channels input)
outcome Bench input = bench_text input
outcome (Generate number ticks) input = Ok (generated_text number ticks)
outcome (Record station) input = record_text station input

-- what was written of a command's outcome, for each answer that comes once the input was read
abbrev pub Written : Result (List ℕ) Fault → End → End → Status → Type 0
Written made sink sink' status.Done = (text : List ℕ) × (made ≡ Ok text) × Took sink sink' text
Written made sink sink' (status.BadInput row reason) =
    (made ≡ Err (record { row = row; reason = reason }))
    × (Took sink sink' (bad_line (record { row = row; reason = reason })) ⊎ TookFront sink sink' (bad_line (record { row = row; reason = reason })))
Written made sink sink' status.WriteFault = (text : List ℕ) × (made ≡ Ok text) × TookFront sink sink' text
Written made sink sink' status.NoMemory = Untouched sink sink'
Written made sink sink' status.Usage = ⊥
Written made sink sink' status.ReadFault = ⊥
Written made sink sink' status.TooLarge = ⊥

-- what an answer says of the source and the sink of a run of a command
abbrev pub Answers : (List ℕ → Result (List ℕ) Fault) → End → End → End → End → Status → Type 0
Answers job source source' sink sink' status.Done =
    (input : List ℕ) × GaveAll source source' input × Written (job input) sink sink' status.Done
Answers job source source' sink sink' (status.BadInput row reason) =
    (input : List ℕ) × GaveAll source source' input × Written (job input) sink sink' (status.BadInput row reason)
Answers job source source' sink sink' status.WriteFault =
    (input : List ℕ) × GaveAll source source' input × Written (job input) sink sink' status.WriteFault
Answers job source source' sink sink' status.ReadFault = (input : List ℕ) × GaveUp source source' input × Untouched sink sink'
Answers job source source' sink sink' status.TooLarge = (input : List ℕ) × GaveTooMuch source source' input × Untouched sink sink'
Answers job source source' sink sink' status.NoMemory = (input : List ℕ) × GaveSome source source' input × Untouched sink sink'
Answers job source source' sink sink' status.Usage = ⊥

-- the whole text or the whole line of an outcome was written, or memory was refused
abbrev pub Completes : Result (List ℕ) Fault → End → End → Status → Type 0
Completes (Ok text) sink sink' answer = ((answer ≡ status.Done) × Took sink sink' text) ⊎ (answer ≡ status.NoMemory)
Completes (Err fault) sink sink' answer =
    ((answer ≡ status.BadInput fault.row fault.reason) × Took sink sink' (bad_line fault)) ⊎ (answer ≡ status.NoMemory)
