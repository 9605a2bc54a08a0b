use Rattle.std.proofs.Common.{◌≡◌, ◌∙◌, ◌++◌, List, ℕ, ap, arith, length, take}
use Rattle.std.proofs.Math.Seq.{take-length}
use Rattle.std.specs.List.{flat_map}
use Rattle.recording.specs.RecordText.{set_line}
use Rattle.recording.proofs.Texts.{settings_lines}
use Rattle.recording.proofs.setting_lines.write_settings.Goals as goal

pub returns : goal.returns
returns c =
    let all = c.keys-all.result.now in
    let ended : c.loop-key.key-index ≡ length all = omega arith in
    let whole : flat_map (set_line c.args.fields.now) (take c.loop-key.key-index all) ≡ flat_map (set_line c.args.fields.now) all =
    ap (flat_map (set_line c.args.fields.now)) (ap (λ n. take n all) ended ∙ take-length all) in
    c.loop-key.invariant ∙ ap (λ (t : List ℕ). c.args.text.now.items ++ t) (whole ∙ settings_lines c.args.fields.now all c.keys-all.ensures)
