use Rattle.std.proofs.Common.{◌≡◌, ◌∙◌, ◌++◌, List, ℕ, ap, arith, length, take}
use Rattle.std.proofs.Math.Seq.{take-length}
use Rattle.std.specs.List.{flat_map}
use Rattle.recording.specs.RecordText.{entry_text}
use Rattle.recording.proofs.Texts.{log_lines}
use Rattle.recording.proofs.text.write_log.Goals as goal

pub returns : goal.returns
returns c =
    let journal = c.args.journal.now in
    let all : c.loop-entry.entry-index ≡ length journal = omega arith in
    let whole : flat_map (entry_text c.args.me) (take c.loop-entry.entry-index journal) ≡ flat_map (entry_text c.args.me) journal =
    ap (flat_map (entry_text c.args.me)) (ap (λ n. take n journal) all ∙ take-length journal) in
    c.loop-entry.invariant ∙ ap (λ (t : List ℕ). c.args.text.now.items ++ t) (whole ∙ log_lines c.args.me journal)
