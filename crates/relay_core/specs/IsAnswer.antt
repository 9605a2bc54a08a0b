-- What a terminal of station `me` answers to a call behind a log: one record for each kind of call, one field for each part of the answer.
use Rattle.std.specs.Prelude.{◌≡◌, ℕ, List, [], ◌∷◌, ◌++◌, map}
use Rattle.std.specs.Option.{option_to_list}
use Rattle.ld_base.specs.declared.fields.Fields.{Fields}
use Rattle.relay_message.specs.Messages.{added}
use Rattle.relay_core.specs.Answers.{changes_by, chosen_by, judged_by, news_by, news_in, outgo_by, outgo_of, own_at, placed_by, refused_by, taken_by}
use Rattle.relay_core.specs.Line.{Gots}
use Rattle.relay_core.specs.Log.{now, peers}
use Rattle.relay_core.specs.StandsFor.{IsPeerOf, Kept}
use Rattle.relay_core.specs.declared.answers.Answer.{Answer}
use Rattle.relay_core.specs.declared.answers.Answer.TheVariants as told
use Rattle.relay_core.specs.declared.answers.Heard.{Heard}
use Rattle.relay_core.specs.declared.answers.Sampled.{Sampled}
use Rattle.relay_core.specs.declared.answers.Slotted.{Slotted}
use Rattle.relay_core.specs.declared.call.Call.{Call}
use Rattle.relay_core.specs.declared.call.Call.TheVariants as made

-- to an own sample: what became of it, the set that it completed, and the alarms that changed
pub record IsSampled (f : Fields) (me : ℕ) (log : List Call) (call : Call) (answer : Sampled) : Type 0 where
  pub own : answer.own ≡ own_at f me log (now (log ++ call ∷ []))
  pub judged : judged_by f me log call ≡ option_to_list answer.judged
  pub changes : answer.changes.items ≡ changes_by f me log call

-- to a slot: a frame for each peer, in their order
pub record IsSlotted (f : Fields) (me : ℕ) (log : List Call) (call : Call) (answer : Slotted) : Type 0 where
  pub frames : map outgo_of answer.frames.items ≡ map (outgo_by f me log call) (peers f me)
  pub changes : answer.changes.items ≡ changes_by f me log call

-- to bits from a peer
pub record IsHeard (f : Fields) (me peer : ℕ) (log : List Call) (call : Call) (answer : Heard) : Type 0 where
  pub frame : added (Gots f peer) log (call ∷ []) ≡ option_to_list answer.frame
  pub news : news_by f me peer log call ≡ news_in answer.news
  pub refused : answer.refused ≡ refused_by f peer log call
  pub taken : taken_by f me peer log call ≡ option_to_list answer.taken
  pub chosen : chosen_by f me peer log call ≡ option_to_list answer.chosen
  pub placed : placed_by f me peer log call ≡ option_to_list answer.placed
  pub judged : judged_by f me log call ≡ option_to_list answer.judged
  pub changes : answer.changes.items ≡ changes_by f me log call

-- to any call, by an answer of the call's kind
abbrev pub IsAnswer : Fields → ℕ → List Call → Call → Answer → Type 0
IsAnswer f me log (made.Sample at values) (told.Sampled answer) = IsSampled f me log (made.Sample at values) answer
IsAnswer f me log (made.Slot at) (told.Slotted answer) = IsSlotted f me log (made.Slot at) answer
IsAnswer f me log (made.Bits at peer bits) (told.Heard answer) = IsHeard f me peer log (made.Bits at peer bits) answer
IsAnswer f me log (made.Fault at peer) (told.Faulted answer) = answer.items ≡ changes_by f me log (made.Fault at peer)
IsAnswer f me log call other = ⊥

-- where a call names a peer, it is one of the terminal's
abbrev pub NamesPeer : Kept → Call → Type 0
NamesPeer t (made.Sample at values) = Unit {0}
NamesPeer t (made.Slot at) = Unit {0}
NamesPeer t (made.Bits at peer bits) = IsPeerOf t peer
NamesPeer t (made.Fault at peer) = IsPeerOf t peer
