-- What the program makes of the answer of a run.
use Rattle.std.specs.Prelude.{ℕ, Bool, false, List, Option, Some, None, codes}
use Rattle.std.specs.declared.io.ErrorKind.{ErrorKind}
use Rattle.std.specs.declared.io.ErrorKind.TheVariants as kind
use Rattle.bench_cmd.specs.declared.status.Status.{Status}
use Rattle.bench_cmd.specs.declared.status.Status.TheVariants.{Done, Usage, BadInput, ReadFault, WriteFault, NoMemory, TooLarge}

-- the exit status of the program
abbrev pub code_of : Status → ℕ
code_of Done = 0
code_of Usage = 2
code_of (BadInput row reason) = 3
code_of ReadFault = 4
code_of WriteFault = 5
code_of NoMemory = 6
code_of TooLarge = 7

-- the line on standard error, where one is written
abbrev pub complaint_of : Status → Option (List ℕ)
complaint_of Done = None
complaint_of Usage = Some (codes "usage: linediff judge COUNT | frames N | bench | gen NUMBER TICKS | record STATION")
complaint_of (BadInput row reason) = Some (codes "bad input")
complaint_of ReadFault = Some (codes "read fault")
complaint_of WriteFault = Some (codes "write fault")
complaint_of NoMemory = Some (codes "no memory")
complaint_of TooLarge = Some (codes "input too large")

-- the answer once standard output was flushed, or could not be: then a text counts as not written
abbrev pub after_flush : Status → Bool → Status
after_flush Done false = WriteFault
after_flush answer flushed = answer

-- the answer where the arguments can't be had: for want of memory, or since one of them is no text and so belongs to no command
abbrev pub without_arguments : ErrorKind → Status
without_arguments kind.OutOfMemory = NoMemory
without_arguments _ = Usage
