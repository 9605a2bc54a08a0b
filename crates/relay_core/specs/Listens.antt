-- When a listener stands for a line: all bits that it heard.
use Rattle.std.specs.Prelude.{◌≡◌, ℕ, List, ◌++◌, slice_get}
use Rattle.std.specs.Option.{option_to_list}
use Rattle.ld_base.specs.declared.fields.Fields.{Fields}
use Rattle.bit_sync.specs.StandsFor as receiver
use Rattle.relay_message.specs.Hunter as hunter
use Rattle.relay_message.specs.Messages.{added}
use Rattle.relay_message.specs.Reading.{relay_layout}
use Rattle.relay_core.specs.AlarmState.{last_yellow}
use Rattle.relay_core.specs.Line.{gots_on, has_lock, messages_on, payload_on, refusals_on, rules_of}
use Rattle.relay_core.specs.declared.listener.Listener.{Listener}
use Rattle.relay_core.specs.declared.listener.Told.{Told}

pub record Listens (f : Fields) (l : Listener) (line : List ℕ) : Type 0 where
  pub rules : l.receiver.rules ≡ rules_of f
  pub receiver : receiver.StandsFor l.receiver line
  pub inlet : l.inlet ≡ f.channels
  pub hunter : hunter.StandsFor relay_layout l.hunter (payload_on f line)
  pub locked : l.locked ≡ has_lock f line
  pub yellow : l.yellow ≡ last_yellow (gots_on f line)

-- what some bits more tell: the frame and the message that they complete, and the first refusal
pub record Tells (f : Fields) (line more : List ℕ) (told : Told) : Type 0 where
  pub frame : gots_on f (line ++ more) ≡ gots_on f line ++ option_to_list told.frame
  pub message : messages_on f (line ++ more) ≡ messages_on f line ++ option_to_list told.message
  pub refused : told.refused ≡ slice_get (added (refusals_on f) line more) 0
