-- When a talker stands for its slots.
use Rattle.std.specs.Prelude.{◌≡◌, ◌≤◌, ℕ, Bool, List, [], ◌∷◌, ◌++◌, All, Option, None, option_map, reverse, slice_get}
use Rattle.std.specs.Option.{ForSome, option_to_list}
use Rattle.ld_base.specs.Message.{Contents}
use Rattle.ld_base.specs.declared.fields.Fields.{Fields}
use Rattle.c3794_frame.specs.Numbers.{bits_of}
use Rattle.relay_message.specs.MessageOf.{spelled}
use Rattle.payload_map.specs.Messages.{CanBeSent, relay_slots}
use Rattle.payload_map.specs.Outlet as outlet
use Rattle.payload_map.specs.Sent.{Slot}
use Rattle.relay_core.specs.Line.{rules_of}
use Rattle.relay_core.specs.Sent.{begins, begun_in, frames_sent, number_behind}
use Rattle.relay_core.specs.declared.talker.Talker.{Talker}

pub record Talks (f : Fields) (t : Talker) (slots : List (Slot Contents)) : Type 0 where
  pub channels : 1 ≤ f.channels
  pub outlet : outlet.StandsFor t.outlet f.channels (rules_of f).words (relay_slots slots) None
  pub next : t.next ≡ number_behind (slice_get (reverse (begun_in slots)) 0)
  pub sendable : All (λ slot. ForSome slot.loaded CanBeSent) slots

-- what a message ready to begin becomes before the next slot: whether it begins, and then it is loaded
pub record Begins (f : Fields) (new : Talker) (slots : List (Slot Contents)) (ready begun : Option Contents) : Type 0 where
  pub channels : 1 ≤ f.channels
  pub is : begun ≡ begins f.channels slots ready
  pub sendable : ForSome begun CanBeSent
  pub earlier : All (λ slot. ForSome slot.loaded CanBeSent) slots
  pub outlet : outlet.StandsFor new.outlet f.channels (rules_of f).words (relay_slots slots) (option_map spelled begun)
  pub next : new.next ≡ number_behind (slice_get (reverse (begun_in slots ++ option_to_list begun)) 0)

-- the bytes of a frame, and the message that begins in it
pub record Spoken : Type 0 where
  pub bytes : List ℕ
  pub begun : Option Contents

-- one slot more, with a message ready to begin: whether it begins, and the bits of the frame
pub record Speaks (f : Fields) (new : Talker) (slots : List (Slot Contents)) (ready : Option Contents) (yellow : Bool) (spoken : Spoken) : Type 0 where
  pub begun : spoken.begun ≡ begins f.channels slots ready
  pub talks : Talks f new (slots ++ record { loaded = spoken.begun; yellow = yellow } ∷ [])
  pub bits : frames_sent f (slots ++ record { loaded = spoken.begun; yellow = yellow } ∷ []) ≡ frames_sent f slots ++ bits_of spoken.bytes ∷ []
