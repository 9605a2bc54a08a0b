use Rattle.std.proofs.Common.{List, ℕ, arith, sym, ap, ◌∙◌, Some}
use Rattle.std.proofs.lemmas.List.{append-nil}
use Rattle.line_world.specs.Run.{loaded}
use Rattle.line_world.specs.World.Outcome.{nothing, fails}
use Rattle.line_world.proofs.Asking.{departure_passes, frame_bits, sends_ok, sends_err}
use Rattle.line_world.proofs.Passing.{unchanged_wire}
use Rattle.line_world.proofs.cable.Cable.send.Goals as goal

pub returns-in-Ok-clause-passes : goal.returns-in-Ok-clause-passes
returns-in-Ok-clause-passes g c =
    let line = c.args.self.now in
    let journal = c.args.terminals.now.journal in
    let at = c.args.now.now.tick in
    let same = frame_bits c.args.frame.now (omega arith) in
    departure_passes c.args.terminals.now.setup at line.from line.to _ _ journal journal _ _ nothing c.in-Ok.ensures.faults (sym (append-nil journal))
    (λ told is.
    let by = c.in-Ok.ensures.script told is in
    let loads = sends_ok at told _ _ by.0 by.1 in
    (loads.0, loads.1 ∙ ap (λ (frame : List ℕ). Some (loaded at frame told)) (same ∙ sym c.requires.newest)))

pub returns-in-Err-Failed-clause-passes : goal.returns-in-Err-Failed-clause-passes
returns-in-Err-Failed-clause-passes g c =
    let line = c.args.self.now in
    let at = c.args.now.now.tick in
    departure_passes c.args.terminals.now.setup at line.from line.to _ _ c.args.terminals.now.journal c.send_failed.new.self.journal _ _ fails (rw c.in-Err-Failed.field-0-is at c.in-Err-Failed.ensures.faults)
    c.send_failed.ensures.entry.journal
    (λ told is. let by = rw c.in-Err-Failed.field-0-is at (c.in-Err-Failed.ensures.script told is) in sends_err at told _ _ by.0 by.1)

pub returns-in-Err-NoMemory-clause-passes : goal.returns-in-Err-NoMemory-clause-passes
returns-in-Err-NoMemory-clause-passes g c =
    let line = c.args.self.now in
    unchanged_wire c.args.terminals.now.setup line.from line.to _ _ c.args.terminals.now.journal _ _
    (rw c.in-Err-NoMemory.field-0-is at c.in-Err-NoMemory.ensures.faults)
    (λ told is. let by = rw c.in-Err-NoMemory.field-0-is at (c.in-Err-NoMemory.ensures.script told is) in by.1)
