-- What an outlet keeps of its slots.
use Rattle.std.specs.Prelude.{◌≡◌, ℕ, ◌%◌, Bool, ◌==◌, List, length, [], Option, IsSome, unwrap_or}
use Rattle.ld_base.specs.Words.{HeaderWords}
use Rattle.payload_map.specs.Sent.{AreInTurn, Slot, unsent}

-- the count of channels, the header words, which of them is next, and the bytes that are left of a message
pub record Sender : Type 0 where
  pub channels : ℕ
  pub words : HeaderWords
  pub odd : Bool
  pub left : List ℕ

-- a sender on n channels with these header words, after these slots, which has this loaded for the next one
pub record StandsFor (sender : Sender) (n : ℕ) (header : HeaderWords) (slots : List (Slot (List ℕ))) (loaded : Option (List ℕ)) : Type 0 where
  pub channels : sender.channels ≡ n
  pub words : sender.words ≡ header
  pub odd : sender.odd ≡ (length slots % 2 == 1)
  pub left : sender.left ≡ unwrap_or loaded (unsent n slots)
  pub in_turn : AreInTurn n [] slots
  pub free : IsSome loaded → unsent n slots ≡ []
