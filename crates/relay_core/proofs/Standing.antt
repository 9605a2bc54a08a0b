-- A terminal after a call stands for its log with that call.
use Rattle.std.proofs.Common.{◌≡◌, ℕ, max, ◌≤◌, List, [], ◌∷◌, ◌++◌, All, Option, None, Some, get_or, length, map, drop, refl, ap, sym, subst, ◌∙◌, arith}
use Rattle.std.specs.Prelude.{option_map}
use Rattle.std.specs.List.{flat_map}
use Rattle.std.proofs.lemmas.List.Elements.{All-map}
use Rattle.ld_base.specs.declared.fields.Fields.{Fields}
use Rattle.sample_store.specs.Along.{along_from}
use Rattle.sample_store.specs.JudgedSet.{JudgedSet}
use Rattle.sample_store.specs.Offers.{Offer}
use Rattle.sample_store.specs.declared.ring.Numbered.{Numbered}
use Rattle.sample_store.proofs.Alongs.{along-push}
use Rattle.relay_core.specs.Answers.{changes_by, changes_of, judged_by, judgement, judgements}
use Rattle.relay_core.specs.Decided.{Newest, Offers, offered_by}
use Rattle.relay_core.specs.Decides.{Decides}
use Rattle.relay_core.specs.Follows.{Follows, Signals}
use Rattle.relay_core.specs.Log.{clock, now, peers, since, stamp_of}
use Rattle.relay_core.specs.declared.call.Call.{Call}
use Rattle.relay_core.specs.StandsFor.{Kept, StandsFor, now_of, since_of, span_with}
use Rattle.relay_core.specs.Turned.{IsCalmTrue, told, turned}
use Rattle.relay_core.specs.declared.decider.Decider.{Decider}
use Rattle.relay_core.specs.declared.peer.Peer.{Peer}
use Rattle.relay_core.specs.declared.terminal.Span.{Span}
use Rattle.relay_core.proofs.Alarming.{Signals-turned, told-turned}
use Rattle.relay_core.proofs.Calls.{clock-push, now-push}
use Rattle.relay_core.proofs.Calming.{IsCalmTrue-turned}
use Rattle.relay_core.proofs.Lists.{flat_map-mapped, flat_map-same, map-mapped}

-- the terminal's time at the first call and at this one
pub record IsSpan (span : Span) (log : List Call) (call : Call) : Type 0 where
  pub first : span.since ≡ since (log ++ call ∷ [])
  pub time : span.now ≡ now (log ++ call ∷ [])

span-from : (span : Option Span) (log : List Call) (call : Call) → since_of span ≡ since log → option_map (λ span. span.now) span ≡ clock log
    → IsSpan (span_with span (stamp_of call)) log call
span-from None [] call first time = record { first = refl; time = omega arith }
span-from None (x ∷ log) call first time = absurd (cc)
span-from (Some span) [] call first time = absurd (cc)
span-from (Some span) (x ∷ log) call first time =
    let is : span.now ≡ now (x ∷ log) = cc in
    record { first = first; time = ap (λ t. max t (stamp_of call)) is ∙ sym (now-push (x ∷ log) call) }

pub span-push : (t : Kept) (log : List Call) (call : Call) → StandsFor t log → IsSpan (span_with t.span (stamp_of call)) log call
span-push t log call stands = span-from t.span log call stands.since stands.now

-- what was decided by a terminal's time was decided by a later one
pub decided-later : (before : Option Span) (stamp decided : ℕ) (span : Span) → span ≡ span_with before stamp → decided ≤ now_of before → decided ≤ span.now
decided-later None stamp decided span is early = omega (arith, early, ap (λ s. s.now) is)
decided-later (Some last) stamp decided span is early = omega (arith, early, ap (λ s. s.now) is)

-- what a call offers is offered behind all before it
pub Offers-push : (f : Fields) (me : ℕ) (log : List Call) (call : Call) → Offers f me (log ++ call ∷ []) ≡ Offers f me log ++ offered_by f me log call
Offers-push f me log call = along-push (λ before offers call. offered_by f me before call) log call

-- and what is judged with the call is what is judged with that
pub judged_by-offers : (f : Fields) (me : ℕ) (log : List Call) (call : Call) (more : List Offer) → Offers f me (log ++ call ∷ []) ≡ Offers f me log ++ more
    → judged_by f me log call ≡ judgements f (JudgedSet f me) (Offers f me log) more
judged_by-offers f me log call more is =
    ap (λ offers. map (judgement f (JudgedSet f me offers)) (drop (length (JudgedSet f me (Offers f me log))) (JudgedSet f me offers))) is

-- what is known before the alarms are turned: the terminal before the call, its time with the call, and what it keeps then
pub record IsServed (t : Kept) (log : List Call) (call : Call) (span : Span) (newest : Option Numbered) (decider : Decider) (ps : List Peer) : Type 0 where
  pub stands : StandsFor t log
  pub is_span : span ≡ span_with t.span (stamp_of call)
  pub is_newest : newest ≡ Newest t.settings t.me (log ++ call ∷ [])
  pub decides : Decides t.settings t.me decider (Offers t.settings t.me (log ++ call ∷ []))
  pub stations : map (λ p. p.station) ps ≡ peers t.settings t.me
  pub follow : All (Follows t.settings t.me (log ++ call ∷ [])) ps
  pub signal : All (Signals t.settings t.me log) ps

pub span-served : (t : Kept) (log : List Call) (call : Call) (span : Span) → StandsFor t log → span ≡ span_with t.span (stamp_of call) → IsSpan span log call
span-served t log call span stands is = subst (λ s. IsSpan s log call) (sym is) (span-push t log call stands)

-- the alarms are no part of what follows
follows-turned : (f : Fields) (me : ℕ) (log : List Call) (first time : ℕ) (p : Peer) → Follows f me log p → Follows f me log (turned first time p)
follows-turned f me log first time p follows = record {
  settings = follows.settings;
  listens = follows.listens;
  talks = follows.talks;
  track = follows.track;
  last = follows.last;
  faulty = follows.faulty;
}

-- turning alarms keeps the peers and their order
pub stations-turned : (first time : ℕ) (ps qs : List Peer) (stations : List ℕ) → qs ≡ map (turned first time) ps → map (λ p. p.station) ps ≡ stations
    → map (λ p. p.station) qs ≡ stations
stations-turned first time ps qs stations is same = ap (map (λ p. p.station)) is ∙ map-mapped (λ p. p.station) (turned first time) ps ∙ same

-- and what is true of their calm
pub calm-turned : (first time : ℕ) (ps qs : List Peer) → qs ≡ map (turned first time) ps → All IsCalmTrue ps → All IsCalmTrue qs
calm-turned first time ps qs is calm =
    subst (All IsCalmTrue) (sym is) (All-map IsCalmTrue (turned first time) ps (λ k d inside. IsCalmTrue-turned first time (get_or ps k d) (calm k d inside)))

pub StandsFor-turned : (t : Kept) (log : List Call) (call : Call) (span : Span) (newest : Option Numbered) (decider : Decider) (ps qs : List Peer)
    → IsServed t log call span newest decider ps → qs ≡ map (turned span.since span.now) ps
    → StandsFor (record { settings = t.settings; me = t.me; span = Some span; newest = newest; decider = decider; peers = qs }) (log ++ call ∷ [])
StandsFor-turned t log call span newest decider ps qs served is =
    let f = t.settings in
    let at = span-served t log call span served.stands served.is_span in
    record {
      since = at.first;
      now = ap (λ time. Some time) at.time ∙ sym (clock-push log call);
      newest = served.is_newest;
      decides = served.decides;
      stations = stations-turned span.since span.now ps qs (peers f t.me) is served.stations;
      follow =
          subst (All (Follows f t.me (log ++ call ∷ []))) (sym is)
          (All-map (Follows f t.me (log ++ call ∷ [])) (turned span.since span.now) ps
          (λ k d inside. follows-turned f t.me (log ++ call ∷ []) span.since span.now (get_or ps k d) (served.follow k d inside)));
      signal =
          subst (All (Signals f t.me (log ++ call ∷ []))) (sym is)
          (All-map (Signals f t.me (log ++ call ∷ [])) (turned span.since span.now) ps
          (λ k d inside. Signals-turned f t.me span.since span.now log call (get_or ps k d) at.first at.time (served.follow k d inside) (served.signal k d inside)));
    }

pub changes-turned : (t : Kept) (log : List Call) (call : Call) (span : Span) (newest : Option Numbered) (decider : Decider) (ps : List Peer)
    → IsServed t log call span newest decider ps
    → flat_map (told span.since span.now) ps ≡ changes_by t.settings t.me log call
changes-turned t log call span newest decider ps served =
    let at = span-served t log call span served.stands served.is_span in
    flat_map-same (told span.since span.now) (λ p. changes_of t.settings t.me log call p.station) ps
    (λ k d inside. told-turned t.settings t.me span.since span.now log call (get_or ps k d) at.first at.time (served.follow k d inside) (served.signal k d inside))
    ∙ sym (flat_map-mapped (changes_of t.settings t.me log call) (λ p. p.station) ps)
    ∙ ap (flat_map (changes_of t.settings t.me log call)) served.stations

-- before the first call
pub StandsFor-new : (f : Fields) (me : ℕ) (decider : Decider) (ps : List Peer) → Decides f me decider [] → map (λ p. p.station) ps ≡ peers f me
    → All (Follows f me []) ps → All (Signals f me []) ps
    → StandsFor (record { settings = f; me = me; span = None; newest = None; decider = decider; peers = ps }) []
unfolding along_from
StandsFor-new f me decider ps decides stations follow signal =
    record { since = refl; now = refl; newest = refl; decides = decides; stations = stations; follow = follow; signal = signal }
