use Rattle.std.proofs.Common.{sym, ◌∙◌, None, Some}
use Rattle.std.proofs.lemmas.List.{append-nil}
use Rattle.line_world.specs.World.Outcome.{nothing, gives, fails}
use Rattle.line_world.proofs.Asking.{arrival_passes, takes_ok, takes_err}
use Rattle.line_world.proofs.cable.Cable.receive.Goals as goal

pub returns-in-Ok-None-clause-passes : goal.returns-in-Ok-None-clause-passes
returns-in-Ok-None-clause-passes g c =
    let line = c.args.self.now in
    let journal = c.args.terminals.now.journal in
    let at = c.args.now.now.tick in
    arrival_passes c.args.terminals.now.setup at line.from line.to _ _ journal journal _ _ nothing c.in-Ok-None.ensures.faults (sym (append-nil journal))
    (λ told is. let by = c.in-Ok-None.ensures.script told is in takes_ok at told None _ (by.0, sym c.in-Ok-None.field-0-is ∙ by.1, by.2))

pub returns-in-Ok-Some-clause-passes : goal.returns-in-Ok-Some-clause-passes
returns-in-Ok-Some-clause-passes g c =
    let line = c.args.self.now in
    let at = c.args.now.now.tick in
    arrival_passes c.args.terminals.now.setup at line.from line.to _ _ c.args.terminals.now.journal c.came.new.self.journal _ _ (gives c.in-Ok-Some.bits) c.in-Ok-Some.ensures.faults
    c.came.ensures.journal
    (λ told is. let by = c.in-Ok-Some.ensures.script told is in takes_ok at told (Some c.in-Ok-Some.bits) _ (by.0, sym c.in-Ok-Some.field-0-is ∙ by.1, by.2))

pub returns-in-Err-clause-passes : goal.returns-in-Err-clause-passes
returns-in-Err-clause-passes g c =
    let line = c.args.self.now in
    let at = c.args.now.now.tick in
    arrival_passes c.args.terminals.now.setup at line.from line.to _ _ c.args.terminals.now.journal c.take_failed.new.self.journal _ _ fails c.in-Err.ensures.faults
    c.take_failed.ensures.journal
    (λ told is. let by = c.in-Err.ensures.script told is in takes_err at told _ by.0 by.1)
