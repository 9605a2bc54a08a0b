-- The slots of all peers of a terminal, and how their alarms turn behind them.
use Rattle.std.specs.Prelude.{◌≡◌, ℕ, ◌<◌, List, length, map, Option, slice_index_or}
use Rattle.std.specs.List.{flat_map}
use Rattle.sample_store.specs.declared.ring.Numbered.{Numbered}
use Rattle.relay_core.specs.Follows.{SendsSlot}
use Rattle.relay_core.specs.Turned.{told, turned}
use Rattle.relay_core.specs.declared.answers.Change.{Change}
use Rattle.relay_core.specs.declared.answers.Outgoing.{Outgoing}
use Rattle.relay_core.specs.declared.peer.Peer.{Peer}

-- each peer's slot
pub record AllSend (me time : ℕ) (newest : Option Numbered) (old new : List Peer) (outs : List Outgoing) : Type 0 where
  pub long : length new ≡ length old
  pub count : length outs ≡ length old
  pub each : (k : ℕ) (p q : Peer) (o : Outgoing) → k < length old → SendsSlot me time newest (slice_index_or old k p) (slice_index_or new k q) (slice_index_or outs k o)

-- each peer's slot, and then its alarms
pub record SendsAll (me since time : ℕ) (newest : Option Numbered) (old new : List Peer) (outs : List Outgoing) (changes : List Change) : Type 0 where
  pub left : List Peer
  pub sent : AllSend me time newest old left outs
  pub is_turned : new ≡ map (turned since time) left
  pub is_told : changes ≡ flat_map (told since time) left
