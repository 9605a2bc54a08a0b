-- How the alarms of a peer turn with a call.
use Rattle.std.proofs.Common.{◌≡◌, ℕ, Bool, List, [], ◌∷◌, ◌++◌, ◌≤◌, length, map, refl, ap, sym, ◌∙◌, arith}
use Rattle.std.specs.Prelude.{count_by}
use Rattle.std.specs.List.{filter}
use Rattle.std.proofs.lemmas.List.{length-map}
use Rattle.std.proofs.lemmas.List.Sums.{count_by-le-length, length-filter}
use Rattle.ld_base.specs.declared.fields.Fields.{Fields}
use Rattle.channel_alarm.specs.Alarms.{all, differs, is_on, standing, stands, turns}
use Rattle.channel_alarm.specs.declared.alarm.Alarm.{Alarm}
use Rattle.channel_alarm.specs.declared.alarm.Turn.{Turn}
use Rattle.relay_core.specs.AlarmState.{AlarmState, facts}
use Rattle.relay_core.specs.Answers.{changes_of}
use Rattle.relay_core.specs.Follows.{Follows, Signals}
use Rattle.relay_core.specs.Log.{now, since}
use Rattle.relay_core.specs.declared.call.Call.{Call}
use Rattle.relay_core.specs.Turned.{facts_kept, told, turned}
use Rattle.relay_core.specs.declared.answers.Change.{Change}
use Rattle.relay_core.specs.declared.peer.Peer.{Peer}

-- what is known by what is kept is what the log tells
facts-are : (f : Fields) (me first time : ℕ) (log : List Call) (p : Peer) → first ≡ since log → time ≡ now log → Follows f me log p
    → facts_kept first time p ≡ facts f me p.station log
facts-are f me first time log p is_first is_time follows =
    rw (is_first, is_time, follows.listens.locked, follows.listens.yellow, follows.last, follows.track.kept, follows.settings.0, follows.settings.1, follows.faulty) refl

-- with a call more the alarms go by what is known then
standing-push : (f : Fields) (me peer : ℕ) (log : List Call) (call : Call)
    → standing f.silent (AlarmState f me peer (log ++ call ∷ [])) ≡ standing f.silent (is_on f.silent (facts f me peer (log ++ call ∷ [])))
standing-push f me peer [] call = refl
standing-push f me peer (first ∷ log) call = refl

turns-push : (f : Fields) (me peer : ℕ) (log : List Call) (call : Call) (old : Alarm → Bool)
    → turns old (AlarmState f me peer (log ++ call ∷ [])) ≡ turns old (is_on f.silent (facts f me peer (log ++ call ∷ [])))
turns-push f me peer [] call old = refl
turns-push f me peer (first ∷ log) call old = refl

-- what alarms in a state tell is that state
turns-standing : (silent : ℕ) (old new : Alarm → Bool) → turns (stands (standing silent old)) new ≡ turns old new
turns-standing silent old new = refl

pub Signals-turned : (f : Fields) (me first time : ℕ) (log : List Call) (call : Call) (p : Peer) → first ≡ since (log ++ call ∷ []) → time ≡ now (log ++ call ∷ [])
    → Follows f me (log ++ call ∷ []) p → Signals f me log p → Signals f me (log ++ call ∷ []) (turned first time p)
Signals-turned f me first time log call p is_first is_time follows signals =
    ap (λ a. standing a.silent (is_on a.silent (facts_kept first time p))) signals
    ∙ ap (λ known. standing f.silent (is_on f.silent known)) (facts-are f me first time (log ++ call ∷ []) p is_first is_time follows)
    ∙ sym (standing-push f me p.station log call)

pub told-turned : (f : Fields) (me first time : ℕ) (log : List Call) (call : Call) (p : Peer) → first ≡ since (log ++ call ∷ []) → time ≡ now (log ++ call ∷ [])
    → Follows f me (log ++ call ∷ []) p → Signals f me log p → told first time p ≡ changes_of f me log call p.station
told-turned f me first time log call p is_first is_time follows signals =
    ap (λ a. map (λ turn. record { peer = p.station; turn = turn }) (turns (stands a) (is_on a.silent (facts_kept first time p)))) signals
    ∙ ap (λ known. map (λ turn. record { peer = p.station; turn = turn }) (turns (stands (standing f.silent (AlarmState f me p.station log))) (is_on f.silent known)))
    (facts-are f me first time (log ++ call ∷ []) p is_first is_time follows)
    ∙ ap (map (λ turn. record { peer = p.station; turn = turn })) (turns-standing f.silent (AlarmState f me p.station log) (is_on f.silent (facts f me p.station (log ++ call ∷ [])))
    ∙ sym (turns-push f me p.station log call (AlarmState f me p.station log)))

-- a peer has five alarms
pub told-few : (first time : ℕ) (p : Peer) → length (told first time p) ≤ 5
told-few first time p =
    let new : Alarm → Bool = is_on p.alarms.silent (facts_kept first time p) in
    let passes : Alarm → Bool = λ alarm. differs (stands p.alarms alarm) (new alarm) in
    let changes = length-map {B = Change} (turns (stands p.alarms) new) (λ turn. record { peer = p.station; turn = turn }) in
    let turned = length-map {B = Turn} (filter passes all) (λ alarm. record { alarm = alarm; on = new alarm }) in
    let passed = length-filter passes all in
    let few : count_by passes all ≤ 5 = count_by-le-length passes all in
    omega (arith, changes, turned, passed, few)
