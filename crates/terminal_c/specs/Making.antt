-- Why no terminal is made.
use Rattle.std.specs.Prelude.{◌≡◌, ◌≢◌, ◌⊎◌, ℕ, Some}
use Rattle.ld_base.specs.Settings.{setting_fault}
use Rattle.ld_base.specs.declared.fields.Fields.{Fields}
use Rattle.terminal_c.specs.Status.{new_status}
use Rattle.terminal_c.specs.declared.handle.Handle.{Handle}
use Rattle.terminal_c.specs.declared.making.Failed.{Failed}
use Rattle.terminal_c.specs.declared.making.Failed.TheVariants as failed
use Rattle.terminal_c.specs.declared.status.Status.TheVariants.{Done, Settings, Memory}

-- the settings are refused, or there is another reason, or memory is refused where nothing else stands against it
abbrev pub FailsMaking : Handle → Fields → ℕ → Failed → Type 0
FailsMaking old f me (failed.Settings bad) = (new_status old f me ≡ Settings) × (setting_fault f ≡ Some bad)
FailsMaking old f me (failed.Other status) =
    (status ≢ Done) × (status ≢ Settings) × ((new_status old f me ≡ status) ⊎ ((status ≡ Memory) × (new_status old f me ≡ Done)))
