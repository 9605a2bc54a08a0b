-- What the terminal of a handle stands for.
use Rattle.std.specs.Prelude.{◌≡◌, ℕ, List, Some}
use Rattle.ld_base.specs.declared.fields.Fields.{Fields}
use Rattle.relay_core.specs.declared.call.Call.{Call}
use Rattle.relay_core.specs.StandsFor.{Kept, StandsFor}
use Rattle.terminal_c.specs.declared.flat.Settings.{Settings}
use Rattle.terminal_c.specs.declared.handle.Handle.{Handle}

-- the settings that C hands in
abbrev pub fields_of : Settings → Fields
fields_of s = record {
  stations = s.stations;
  channels = s.channels;
  spacing = s.spacing;
  cycle = s.cycle;
  drift = s.drift;
  slow = s.slow;
  age = s.age;
  limit = s.limit;
  silent = s.silent;
  count = s.count;
  pickup = s.pickup;
  rn = s.rn;
  rd = s.rd;
  p = s.p;
  q = s.q;
  worda = s.worda;
  wordb = s.wordb;
  misses = s.misses;
}

-- a handle holds the terminal of a station with these settings, and it stands for a log
pub record Stands (h : Handle) (f : Fields) (me : ℕ) (log : List Call) : Type 0 where
  pub terminal : Kept
  pub held : h.held.terminal ≡ Some terminal
  pub settings : terminal.settings ≡ f
  pub station : terminal.me ≡ me
  pub stands : StandsFor terminal log
