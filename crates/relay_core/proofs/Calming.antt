-- What is known of a peer's alarms while they stay as they are.
use Rattle.std.proofs.Common.{◌≡◌, ℕ, ◌+◌, ◌-◌, ◌≤◌, Bool, true, false, cond, Some, refl, sym, subst, arith}
use Rattle.std.specs.Prelude.{is_some, nat_le, nat_lt}
use Rattle.std.proofs.lemmas.Bool.{and_parts, false_from_ne_true, leb-true}
use Rattle.offset_track.specs.InForce.{chosen}
use Rattle.offset_track.specs.Track.{Held}
use Rattle.channel_alarm.specs.Alarms.{Standing, is_on, standing}
use Rattle.relay_core.specs.Calm.{IsCalm, Known, holds, never}
use Rattle.relay_core.specs.Turned.{IsCalmTrue, facts_kept, known_of, turned}
use Rattle.relay_core.specs.declared.calm.Calm.{Calm}
use Rattle.relay_core.specs.declared.peer.Peer.{Peer}
use Rattle.relay_core.specs.declared.receipt.Receipt.{Receipt}

-- no stamp is calm
pub IsCalm-never : (known : Known) (alarms : Standing) → IsCalm known alarms never
IsCalm-never known alarms since stamp from until = absurd (omega (arith, from, until))

-- where the stamp is in the calm, the alarms are as what is known has them
steady : (since now : ℕ) (p : Peer) → IsCalmTrue p → holds p.calm now ≡ true
    → standing p.alarms.silent (is_on p.alarms.silent (facts_kept since now p)) ≡ p.alarms
steady since now p calm is =
    let tests = and_parts (nat_le p.calm.since now) (nat_le now p.calm.until) is in
    calm since now (leb-true p.calm.since now tests.0) (leb-true now p.calm.until tests.1)

-- a peer whose alarms are turned keeps what is true of its calm
pub IsCalmTrue-turned : (since now : ℕ) (p : Peer) → IsCalmTrue p → IsCalmTrue (turned since now p)
IsCalmTrue-turned since now p calm = go (holds p.calm now) refl
  where
    alarms : Standing
    alarms = standing p.alarms.silent (is_on p.alarms.silent (facts_kept since now p))

    go : (b : Bool) → holds p.calm now ≡ b → IsCalm (known_of p) alarms (cond b p.calm never)
    go true is = subst (λ a. IsCalm (known_of p) a p.calm) (sym (steady since now p calm is)) calm
    go false is = IsCalm-never (known_of p) alarms

-- what is known where a message was accepted, an exchange is in force until a stamp, and no alarm turns at once
pub record IsQuiet (locked yellow : Bool) (track : Held) (alarms : Standing) (now until : ℕ) : Type 0 where
  pub lasts : (stamp : ℕ) → now ≤ stamp → stamp ≤ until → is_some (chosen (λ e. e) track.age stamp track.newest_first) ≡ true
  pub steady : standing alarms.silent (is_on alarms.silent (record { locked = locked; yellow = yellow; quiet = 0; aligned = true; faulty = false })) ≡ alarms

-- then the alarms stay so until that stamp or until the peer is silent, whichever is first
pub IsCalm-quiet : (locked yellow : Bool) (r : Receipt) (track : Held) (alarms : Standing) (calm : Calm) (until : ℕ)
    → calm.until ≤ until → calm.until ≤ r.at + alarms.silent → IsQuiet locked yellow track alarms calm.since until
    → IsCalm (record { locked = locked; yellow = yellow; faulty = false; last = Some r; track = track }) alarms calm
IsCalm-quiet locked yellow r track alarms calm until aligned heard is since stamp from to =
    let on : is_some (chosen (λ e. e) track.age stamp track.newest_first) ≡ true = is.lasts stamp from (omega (arith, to, aligned)) in
    let quiet : nat_lt alarms.silent (stamp - r.at) ≡ false = false_from_ne_true _ (λ e. omega (arith, leb-true _ _ e, to, heard)) in
    let heard_now : nat_lt alarms.silent 0 ≡ false = false_from_ne_true _ (λ e. omega (arith, leb-true _ _ e)) in
    rw (on, quiet) (rw heard_now at is.steady)
