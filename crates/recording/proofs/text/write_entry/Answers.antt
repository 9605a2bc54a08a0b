use Rattle.std.proofs.Common.{◌≡◌, ◌∙◌, [], ◌∷◌, ap, sym}
use Rattle.std.proofs.lemmas.List.{append-nil}
use Rattle.relay_core.specs.StationLog.{calls_by}
use Rattle.recording.specs.RecordText.{log_text}
use Rattle.recording.proofs.Texts.{log_text-none, log_text-one}
use Rattle.recording.proofs.text.write_entry.Goals as goal

pub returns-in-Some : goal.returns-in-Some
returns-in-Some c =
    let call = c.in-Some.call in
    let handed : call ∷ [] ≡ calls_by c.args.me c.args.entry.now = c.in-Some.ensures in
    rw (← handed) (rw (log_text-one call) c.write_call.ensures)

pub returns-in-None : goal.returns-in-None
returns-in-None c =
    let handed : [] ≡ calls_by c.args.me c.args.entry.now = c.in-None.ensures in
    let nothing : log_text (calls_by c.args.me c.args.entry.now) ≡ [] = ap log_text (sym handed) ∙ log_text-none in
    rw nothing (sym (append-nil c.args.text.now.items))
