use Rattle.std.proofs.Common.{◌≤◌, leb-true, rules}
use Rattle.script_wire.proofs.queue.is_last.Goals as goal

pub returns : goal.returns
returns c is k d low h =
    let last : c.in-Some.field-0.now.0 ≤ c.args.due = leb-true _ _ is in
    search rules
