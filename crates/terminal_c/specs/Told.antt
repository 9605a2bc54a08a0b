-- What the structs that C gets tell of a terminal's answers, each part by the list of what there is to tell of it.
use Rattle.std.specs.Prelude.{◌≡◌, ℕ, pos, Bool, true, false, List, [], ◌∷◌, map, take, Option, None, Some}
use Rattle.ld_base.specs.Message.{Contents}
use Rattle.ld_base.specs.declared.message.Echo.{Echo}
use Rattle.c3794_frame.specs.Numbers.{bits_of}
use Rattle.c3794_frame.specs.declared.decoding.FrameFault.TheVariants as fault
use Rattle.bit_sync.specs.declared.told.Got.{Got}
use Rattle.bit_sync.specs.declared.told.Got.TheVariants.{Good, Bad}
use Rattle.relay_message.specs.declared.fault.MessageFault.{MessageFault}
use Rattle.relay_message.specs.declared.fault.MessageFault.TheVariants as message
use Rattle.pingpong.specs.Exchange.{Stamps}
use Rattle.offset_track.specs.declared.track.Taken.{Taken}
use Rattle.offset_track.specs.declared.track.Taken.TheVariants.{Kept, Slow}
use Rattle.sample_store.specs.declared.store.OwnTaken.{OwnTaken}
use Rattle.sample_store.specs.declared.store.OwnTaken.TheVariants.{Took, OffGrid, Again}
use Rattle.sample_store.specs.declared.store.Placed.{Placed}
use Rattle.sample_store.specs.declared.store.Placed.TheVariants as placed
use Rattle.relay_core.specs.Answers.{Outgo}
use Rattle.relay_core.specs.declared.answers.Change as core
use Rattle.relay_core.specs.declared.answers.Judged as core_judged
use Rattle.relay_core.specs.declared.answers.News.{News}
use Rattle.relay_core.specs.declared.answers.News.TheVariants as news
use Rattle.terminal_c.specs.Codes.{verdict_number, alarm_number}
use Rattle.terminal_c.specs.declared.flat.Own.{Own}
use Rattle.terminal_c.specs.declared.flat.Judged.{Judged}
use Rattle.terminal_c.specs.declared.flat.Change.{Change}
use Rattle.terminal_c.specs.declared.flat.Changes.{Changes}
use Rattle.terminal_c.specs.declared.flat.Message.{Message}
use Rattle.terminal_c.specs.declared.flat.Outgoing.{Outgoing}
use Rattle.terminal_c.specs.declared.flat.Slotted.{Slotted}
use Rattle.terminal_c.specs.declared.flat.Frame.{Frame}
use Rattle.terminal_c.specs.declared.flat.News.{News as FlatNews}
use Rattle.terminal_c.specs.declared.flat.Refused.{Refused}
use Rattle.terminal_c.specs.declared.flat.Exchange.{Exchange}
use Rattle.terminal_c.specs.declared.flat.Placed.{Placed as FlatPlaced}

-- what became of an own sample
abbrev pub own_of : OwnTaken → Own
own_of (Took n) = record { kind = 0; number = n }
own_of OffGrid = record { kind = 1; number = 0 }
own_of (Again n) = record { kind = 2; number = n }

-- no set is judged, or this one
abbrev pub TellsJudged : Judged → List core_judged.Judged → Type 0
TellsJudged told [] = told.given ≡ false
TellsJudged told (set ∷ sets) = told ≡ record { given = true; verdicts = map verdict_number set.verdicts; number = set.number }

-- an alarm that turned
abbrev pub change_of : core.Change → Change
change_of c = record { peer = c.peer; alarm = alarm_number c.turn.alarm; on = c.turn.on }

-- the first items, as many as are counted, are the alarms that turned
abbrev pub TellsChanges : Changes → List core.Change → Type 0
TellsChanges told changes = take told.count told.items ≡ map change_of changes

-- the echo that a message has, where it has one
abbrev pub echo_of : Bool → Echo → Option Echo
echo_of true echo = Some echo
echo_of false echo = None

-- what a message says
abbrev pub contents_of : Message → Contents
contents_of m = record {
  from = m.from;
  to = m.to;
  number = m.number;
  sent = m.sent;
  echo = echo_of m.has_echo (record { sent = m.echo_sent; came = m.echo_came });
  phases = record { a = m.a; b = m.b; c = m.c };
}

-- the message that begins in a frame, where one does
abbrev pub begun_of : Bool → Message → List Contents
begun_of true m = contents_of m ∷ []
begun_of false m = []

-- what goes to a peer
abbrev pub outgo_told : Outgoing → Outgo
outgo_told o = record { to = o.to; frames = bits_of o.bytes ∷ []; begun = begun_of o.begins o.message }

-- the first frames, as many as are counted, are what goes out
abbrev pub TellsFrames : Slotted → List Outgo → Type 0
TellsFrames told outgo = map outgo_told (take told.count told.frames) ≡ outgo

-- no frame ended, or this one
abbrev pub TellsFrame : Frame → List Got → Type 0
TellsFrame told [] = told.kind ≡ 0
TellsFrame told (Good f ∷ more) = (told.kind ≡ 1) × (told.odd ≡ f.odd) × (told.yellow ≡ f.yellow) × (told.payload ≡ f.payload)
TellsFrame told (Bad fault.Header ∷ more) = told.kind ≡ 2
TellsFrame told (Bad (fault.Pair at) ∷ more) = (told.kind ≡ 3) × (told.detail ≡ at)
TellsFrame told (Bad (fault.Count n) ∷ more) = (told.kind ≡ 4) × (told.detail ≡ n)

-- no message was complete, or this is what it is
abbrev pub TellsNews : FlatNews → List News → Type 0
TellsNews told [] = told.kind ≡ 0
TellsNews told (news.Nothing ∷ more) = told.kind ≡ 0
TellsNews told (news.Accepted m ∷ more) = (told.kind ≡ 1) × (contents_of told.message ≡ m)
TellsNews told (news.Repeat number last ∷ more) = (told.kind ≡ 2) × (told.number ≡ number) × (told.last ≡ last)
TellsNews told (news.Stranger address ∷ more) = (told.kind ≡ 3) × (told.address ≡ address)

-- no place was refused, or one for this fault
abbrev pub fault_of : Option MessageFault → Refused
fault_of None = record { kind = 0; detail = 0 }
fault_of (Some message.Marker) = record { kind = 1; detail = 0 }
fault_of (Some message.Check) = record { kind = 2; detail = 0 }
fault_of (Some (message.Address byte)) = record { kind = 3; detail = byte }
fault_of (Some (message.Flags byte)) = record { kind = 4; detail = byte }
fault_of (Some message.EchoFields) = record { kind = 5; detail = 0 }

-- no exchange was completed, or this became of it
abbrev pub taken_number : List Taken → ℕ
taken_number [] = 0
taken_number (Kept ∷ more) = 1
taken_number (Slow ∷ more) = 2

-- no exchange is told, or this one
abbrev pub TellsExchange : Exchange → List Stamps → Type 0
TellsExchange told [] = told.given ≡ false
TellsExchange told (e ∷ more) = (told.given ≡ true) × (told.a1 ≡ e.a1) × (told.b2 ≡ e.b2) × (told.b3 ≡ e.b3) × (told.a4 ≡ e.a4)

-- no values were placed, or this became of them
abbrev pub placed_of : List Placed → FlatPlaced
placed_of [] = record { number = pos 0; kind = 0 }
placed_of (placed.Stale n ∷ more) = record { number = n; kind = 1 }
placed_of (placed.Ahead n ∷ more) = record { number = n; kind = 2 }
placed_of (placed.Double n ∷ more) = record { number = pos n; kind = 3 }
placed_of (placed.Stored n ∷ more) = record { number = pos n; kind = 4 }
