-- When a terminal is made.
use Rattle.std.proofs.Common.{◌≡◌, ℕ, Bool, true, false, if◌then◌else◌, Option, None, ap, ◌∙◌}
use Rattle.ld_base.specs.Settings.{setting_fault}
use Rattle.ld_base.specs.declared.fields.Fields.{Fields}
use Rattle.ld_base.specs.declared.settings.BadSetting.{BadSetting}
use Rattle.terminal_c.specs.Status.{by_fault, is_station, new_status}
use Rattle.terminal_c.specs.declared.handle.Handle.{Handle}
use Rattle.terminal_c.specs.declared.status.Status.{Status}
use Rattle.terminal_c.specs.declared.status.Status.TheVariants.{Done, Full, Station}

-- nothing stands against it
pub is_made : (h : Handle) (f : Fields) (me : ℕ) → h.full ≡ false → setting_fault f ≡ None → is_station f me ≡ true → new_status h f me ≡ Done
is_made h f me free accepted station =
    let seated : Bool → Status = λ b. if b then Done else Station in
    ap (λ (b : Bool). if b then Full else by_fault (setting_fault f) (seated (is_station f me))) free
    ∙ ap (λ (fault : Option BadSetting). by_fault fault (seated (is_station f me))) accepted
    ∙ ap seated station
