use Rattle.std.proofs.Common.{◌≡◌, ◌++◌, take}
use Rattle.std.specs.List.{flat_map}
use Rattle.recording.specs.RecordText.{set_line}
use Rattle.recording.proofs.setting_lines.write_settings.Given as goal

-- the keys so far are written
abbrev pub invariant-loop-key : goal.invariant-loop-key
invariant-loop-key l = l.text.items ≡ l.fn.text.items ++ flat_map (set_line l.fields) (take l.key-index l.all)
