-- When a terminal stands for a log.
use Rattle.std.specs.Prelude.{◌≡◌, ◌≢◌, ℕ, ◌≤◌, max, List, map, All, Option, Some, None, option_map}
use Rattle.ld_base.specs.declared.fields.Fields.{Fields}
use Rattle.sample_store.specs.declared.ring.Numbered.{Numbered}
use Rattle.relay_core.specs.Decided.{Newest, Offers}
use Rattle.relay_core.specs.Decides.{Decides}
use Rattle.relay_core.specs.Follows.{Follows, Signals}
use Rattle.relay_core.specs.Log.{clock, peers, since}
use Rattle.relay_core.specs.declared.call.Call.{Call}
use Rattle.relay_core.specs.Turned.{IsCalmTrue}
use Rattle.relay_core.specs.declared.decider.Decider.{Decider}
use Rattle.relay_core.specs.declared.peer.Peer.{Peer}
use Rattle.relay_core.specs.declared.terminal.Span.{Span}
use Rattle.relay_core.specs.declared.terminal.Terminal.TheInside.{Inside}

-- what a terminal keeps: its settings and station, its time at the first call and at the last, the newest own sample, the decider,
-- and the peers
pub record Kept : Type 0 where
  pub settings : Fields
  pub me : ℕ
  pub span : Option Span
  pub newest : Option Numbered
  pub decider : Decider
  pub peers : List Peer

abbrev pub kept_of : Inside → Kept
kept_of t = record { settings = t.settings; me = t.me; span = t.span; newest = t.newest; decider = t.decider; peers = t.peers.items }

-- the time of the first call
abbrev pub since_of : Option Span → ℕ
since_of None = 0
since_of (Some span) = span.since

-- the time of the last one
abbrev pub now_of : Option Span → ℕ
now_of None = 0
now_of (Some span) = span.now

-- both with a stamp more
abbrev pub span_with : Option Span → ℕ → Span
span_with None stamp = record { since = stamp; now = stamp }
span_with (Some span) stamp = record { since = span.since; now = max span.now stamp }

-- its station is one of the line, it keeps the others as its peers in their order, what it keeps of their calm is true, and it
-- decided nothing after its time
pub record IsTerminal (t : Inside) : Type 0 where
  pub me : t.me ≤ t.settings.stations
  pub peers : map (λ p. p.station) t.peers.items ≡ peers t.settings t.me
  pub calm : All IsCalmTrue t.peers.items
  pub decider : (t.decider.store.fields ≡ t.settings) × (t.decider.store.me ≡ t.me)
  pub decided : t.decider.store.now ≤ now_of t.span

-- a station is one of a terminal's peers
pub record IsPeerOf (t : Kept) (peer : ℕ) : Type 0 where
  pub station : peer ≤ t.settings.stations
  pub other : peer ≢ t.me

pub record StandsFor (t : Kept) (log : List Call) : Type 0 where
  pub since : since_of t.span ≡ since log
  pub now : option_map (λ span. span.now) t.span ≡ clock log
  pub newest : t.newest ≡ Newest t.settings t.me log
  pub decides : Decides t.settings t.me t.decider (Offers t.settings t.me log)
  pub stations : map (λ p. p.station) t.peers ≡ peers t.settings t.me
  pub follow : All (Follows t.settings t.me log) t.peers
  pub signal : All (Signals t.settings t.me log) t.peers
