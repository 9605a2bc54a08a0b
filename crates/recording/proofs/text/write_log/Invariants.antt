use Rattle.std.proofs.Common.{◌≡◌, ◌++◌, take}
use Rattle.std.specs.List.{flat_map}
use Rattle.recording.specs.RecordText.{entry_text}
use Rattle.recording.proofs.text.write_log.Given as goal

-- the calls of the entries so far are written
abbrev pub invariant-loop-entry : goal.invariant-loop-entry
invariant-loop-entry l = l.text.items ≡ l.fn.text.items ++ flat_map (entry_text l.me) (take l.entry-index l.journal)
