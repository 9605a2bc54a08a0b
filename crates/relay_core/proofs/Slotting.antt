-- A terminal with a slot more.
use Rattle.std.proofs.Common.{◌≡◌, ◌≢◌, ℕ, ◌<◌, Bool, true, false, not, ◌&&◌, eqb, All, List, [], ◌∷◌, ◌++◌, Option, None, get_or, length, map, reverse, refl, ap, sym, subst, ◌∙◌, append-nil, arith}
use Rattle.std.specs.Prelude.{nat_le, slice_get}
use Rattle.ld_base.specs.declared.fields.Fields.{Fields}
use Rattle.channel_alarm.specs.Alarms.{standing}
use Rattle.sample_store.specs.Offers.{Taken}
use Rattle.sample_store.specs.declared.ring.Numbered.{Numbered}
use Rattle.relay_core.specs.AlarmState.{AlarmState}
use Rattle.relay_core.specs.Answers.{outgo_by, outgo_of}
use Rattle.relay_core.specs.Decided.{Newest, Offers, offered_by}
use Rattle.relay_core.specs.Decides.{Decides}
use Rattle.relay_core.specs.Follows.{Signals}
use Rattle.relay_core.specs.Log.{is_peer, peers}
use Rattle.relay_core.specs.declared.call.Call.{Call}
use Rattle.relay_core.specs.declared.call.Call.TheVariants as made
use Rattle.relay_core.specs.Sends.{AllSend}
use Rattle.relay_core.specs.StandsFor.{Kept, StandsFor, span_with}
use Rattle.relay_core.specs.Turned.{IsCalmTrue}
use Rattle.relay_core.specs.declared.answers.Outgoing.{Outgoing}
use Rattle.relay_core.specs.declared.peer.Peer.{Peer}
use Rattle.relay_core.specs.declared.terminal.Span.{Span}
use Rattle.relay_core.proofs.Lists.{All-passed, All-images, map-alike, map-mapped}
use Rattle.relay_core.proofs.Standing.{IsServed, Offers-push, span-served}

-- a call that offers nothing changes nothing of the samples and sets
pub Offers-same : (f : Fields) (me : ℕ) (log : List Call) (call : Call) → offered_by f me log call ≡ [] → Offers f me (log ++ call ∷ []) ≡ Offers f me log
Offers-same f me log call none = Offers-push f me log call ∙ ap (λ more. Offers f me log ++ more) none ∙ append-nil (Offers f me log)

pub Newest-same : (f : Fields) (me : ℕ) (log : List Call) (call : Call) → Offers f me (log ++ call ∷ []) ≡ Offers f me log → Newest f me (log ++ call ∷ []) ≡ Newest f me log
Newest-same f me log call same = ap (λ offers. slice_get (reverse (Taken f.spacing offers)) 0) same

-- alarms that are as they were signal what they did
pub Signals-kept : (f : Fields) (me : ℕ) (log : List Call) (old new : Peer) → new.station ≡ old.station → new.alarms ≡ old.alarms → Signals f me log old → Signals f me log new
Signals-kept f me log old new station alarms signals = alarms ∙ signals ∙ ap (λ peer. standing f.silent (AlarmState f me peer log)) (sym station)

-- no station is its own peer
pub peers-others : (f : Fields) (me : ℕ) (ps : List Peer) → map (λ p. p.station) ps ≡ peers f me → All (λ p. p.station ≢ me) ps
peers-others f me ps stations k d inside =
    other (nat_le (get_or ps k d).station f.stations) (eqb (get_or ps k d).station me) refl
    (All-images (λ s. is_peer f me s ≡ true) (λ p. p.station) ps (subst (All (λ s. is_peer f me s ≡ true)) (sym stations) (All-passed (is_peer f me) (1 ∷ 2 ∷ 3 ∷ []))) k d inside)
  where
    other : (there same : Bool) → eqb (get_or ps k d).station me ≡ same → (there && not same) ≡ true → (get_or ps k d).station ≢ me
    other there true is passes = absurd (grind arith)
    other there false is passes = λ same. absurd (grind (arith, is, same))

nothing : Outgoing
nothing = record { to = 0; bytes = []; begun = None }

pub stations-sent : (me time : ℕ) (newest : Option Numbered) (old new : List Peer) (outs : List Outgoing) → AllSend me time newest old new outs
    → map (λ p. p.station) new ≡ map (λ p. p.station) old
stations-sent me time newest old new outs send = map-alike (λ p. p.station) (λ p. p.station) new old send.long (λ k d e inside. (send.each k e d nothing inside).station)

-- and what is true of their calm stays so
pub calm-sent : (me time : ℕ) (newest : Option Numbered) (old new : List Peer) (outs : List Outgoing) → AllSend me time newest old new outs
    → All IsCalmTrue old → All IsCalmTrue new
calm-sent me time newest old new outs send calm k d inside =
    let within : k < length old = omega (arith, inside, send.long) in
    (send.each k d d nothing within).calm (calm k d within)

pub Served-sends : (t : Kept) (log : List Call) (at : ℕ) (span : Span) (new : List Peer) (outs : List Outgoing)
    → StandsFor t log → span ≡ span_with t.span at → AllSend t.me span.now t.newest t.peers new outs
    → IsServed t log (made.Slot at) span t.newest t.decider new
Served-sends t log at span new outs stands is_span send =
    let f = t.settings in
    let call = made.Slot at in
    let offers = Offers-same f t.me log call refl in
    let time = (span-served t log call span stands is_span).time in
    record {
      stands = stands;
      is_span = is_span;
      is_newest = stands.newest ∙ sym (Newest-same f t.me log call offers);
      decides = subst (Decides f t.me t.decider) (sym offers) stands.decides;
      stations = stations-sent t.me span.now t.newest t.peers new outs send ∙ stands.stations;
      follow = λ k d inside.
          (send.each k d d nothing (omega (arith, inside, send.long))).follows f log at (stands.follow k d (omega (arith, inside, send.long))) stands.newest time;
      signal = λ k d inside.
          let sent = send.each k d d nothing (omega (arith, inside, send.long)) in
          Signals-kept f t.me log (get_or t.peers k d) (get_or new k d) sent.station sent.alarms (stands.signal k d (omega (arith, inside, send.long)));
    }

pub outgo-sends : (t : Kept) (log : List Call) (at : ℕ) (span : Span) (new : List Peer) (outs : List Outgoing)
    → StandsFor t log → span ≡ span_with t.span at → AllSend t.me span.now t.newest t.peers new outs
    → map outgo_of outs ≡ map (outgo_by t.settings t.me log (made.Slot at)) (peers t.settings t.me)
outgo-sends t log at span new outs stands is_span send =
    let f = t.settings in
    let time = (span-served t log (made.Slot at) span stands is_span).time in
    map-alike outgo_of (λ p. outgo_by f t.me log (made.Slot at) p.station) outs t.peers send.count
    (λ k d e inside. (send.each k e e d inside).sends f log at (stands.follow k e inside) stands.newest time)
    ∙ sym (map-mapped (outgo_by f t.me log (made.Slot at)) (λ p. p.station) t.peers)
    ∙ ap (map (outgo_by f t.me log (made.Slot at))) stands.stations
