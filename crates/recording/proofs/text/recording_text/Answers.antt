use Rattle.std.proofs.Common.{◌≡◌, ◌∙◌, ◌++◌, [], List, ℕ, ap}
use Rattle.row_reader.specs.PlainRows.{line_of}
use Rattle.relay_core.specs.StationLog.{StationLog}
use Rattle.recording.specs.RecordText.{log_text, me_row, settings_text}
use Rattle.recording.proofs.Texts.{record_text}
use Rattle.recording.proofs.text.recording_text.Goals as goal

pub returns : goal.returns
returns c =
    let f = c.args.s.now in
    let fields : c.fields.result ≡ f = c.fields.ensures.same in
    let none : c.new-text.result.items ≡ [] = c.new-text.ensures.items in
    let settings : c.write_settings.new.text.items ≡ settings_text f =
    c.in_ok-write_settings.ensures ∙ ap (λ (t : List ℕ). t ++ settings_text c.fields.result) none ∙ ap settings_text fields in
    let station : c.write_me.new.text.items ≡ settings_text f ++ line_of (me_row c.args.me) =
    c.in_ok-write_me.ensures ∙ ap (λ (t : List ℕ). t ++ line_of (me_row c.args.me)) settings in
    c.in_ok-write_log.ensures ∙ ap (λ (t : List ℕ). t ++ log_text (StationLog c.args.me c.args.journal.now)) station
    ∙ record_text f c.args.me c.args.journal.now
