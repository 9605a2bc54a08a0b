-- What C is told of a call, by the log before it.
use Rattle.std.specs.Prelude.{◌≡◌, ℕ, List, [], ◌∷◌, ◌++◌, map}
use Rattle.ld_base.specs.declared.fields.Fields.{Fields}
use Rattle.relay_message.specs.Messages.{added}
use Rattle.relay_core.specs.Answers.{changes_by, chosen_by, judged_by, news_by, outgo_by, own_at, placed_by, refused_by, taken_by}
use Rattle.relay_core.specs.Line.{Gots}
use Rattle.relay_core.specs.Log.{now, peers}
use Rattle.relay_core.specs.declared.call.Call.{Call}
use Rattle.terminal_c.specs.Told.{fault_of, own_of, placed_of, taken_number, TellsChanges, TellsExchange, TellsFrame, TellsFrames, TellsJudged, TellsNews}
use Rattle.terminal_c.specs.declared.flat.Heard.{Heard}
use Rattle.terminal_c.specs.declared.flat.Sampled.{Sampled}
use Rattle.terminal_c.specs.declared.flat.Slotted.{Slotted}

-- what is told of an own sample
pub record TellsSample (f : Fields) (me : ℕ) (log : List Call) (call : Call) (told : Sampled) : Type 0 where
  pub own : told.own ≡ own_of (own_at f me log (now (log ++ call ∷ [])))
  pub judged : TellsJudged told.judged (judged_by f me log call)
  pub changes : TellsChanges told.changes (changes_by f me log call)

-- what is told of a slot
pub record TellsSlot (f : Fields) (me : ℕ) (log : List Call) (call : Call) (told : Slotted) : Type 0 where
  pub frames : TellsFrames told (map (outgo_by f me log call) (peers f me))
  pub changes : TellsChanges told.changes (changes_by f me log call)

-- what is told of bits from a peer
pub record TellsBits (f : Fields) (me : ℕ) (peer : ℕ) (log : List Call) (call : Call) (told : Heard) : Type 0 where
  pub frame : TellsFrame told.frame (added (Gots f peer) log (call ∷ []))
  pub news : TellsNews told.news (news_by f me peer log call)
  pub refused : told.refused ≡ fault_of (refused_by f peer log call)
  pub taken : told.taken ≡ taken_number (taken_by f me peer log call)
  pub chosen : TellsExchange told.chosen (chosen_by f me peer log call)
  pub placed : told.placed ≡ placed_of (placed_by f me peer log call)
  pub judged : TellsJudged told.judged (judged_by f me log call)
  pub changes : TellsChanges told.changes (changes_by f me log call)
