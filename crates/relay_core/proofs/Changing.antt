-- A terminal with a call more that is about one peer.
use Rattle.std.proofs.Common.{◌≡◌, ◌≢◌, ℕ, ◌<◌, Bool, true, false, cond, eqb, List, [], ◌∷◌, ◌++◌, All, Some, get_or, length, map, set, refl, ap, sym, subst, ◌∙◌, arith}
use Rattle.std.specs.Prelude.{option_map, slice_get}
use Rattle.std.proofs.Math.Seq.{map-set_same}
use Rattle.std.proofs.lemmas.Bool.{eqb-true}
use Rattle.std.proofs.lemmas.List.{length-map}
use Rattle.std.proofs.lemmas.Option.{slice_get-get_or, slice_get-map, slice_get_within}
use Rattle.ld_base.specs.declared.fields.Fields.{Fields}
use Rattle.relay_core.specs.AlarmState.{is_faulty}
use Rattle.relay_core.specs.Follows.{Follows, Signals}
use Rattle.relay_core.specs.Log.{is_peer, peers}
use Rattle.relay_core.specs.declared.call.Call.{Call}
use Rattle.relay_core.specs.declared.call.Call.TheVariants as made
use Rattle.relay_core.specs.Turned.{IsCalmTrue}
use Rattle.relay_core.specs.declared.peer.Peer.{Peer}
use Rattle.relay_core.proofs.Following.{Follows-elsewhere, IsElsewhere}
use Rattle.relay_core.proofs.Lists.{All-set, Rise-filter, Rise-place}
use Rattle.relay_core.proofs.Slotting.{Signals-kept}

-- the peer at a place, which a call is about
pub record IsAt (f : Fields) (me : ℕ) (ps : List Peer) (place peer : ℕ) (x : Peer) : Type 0 where
  pub inside : place < length ps
  pub stations : map (λ p. p.station) ps ≡ peers f me
  pub here : slice_get (peers f me) place ≡ Some peer
  pub is : x ≡ get_or ps place x

pub IsAt-place : (f : Fields) (me : ℕ) (ps : List Peer) (place peer : ℕ) (x : Peer) → map (λ p. p.station) ps ≡ peers f me
    → slice_get (peers f me) place ≡ Some peer → x ≡ get_or ps place x → IsAt f me ps place peer x
IsAt-place f me ps place peer x stations here is =
    let found : slice_get (map (λ p. p.station) ps) place ≡ Some peer = ap (λ xs. slice_get xs place) stations ∙ here in
    let within = slice_get_within (map (λ p. p.station) ps) place peer found in
    record { inside = omega (arith, within, length-map ps (λ p. p.station)); stations = stations; here = here; is = is }

-- its station is that peer
pub station-at : (f : Fields) (me : ℕ) (ps : List Peer) (place peer : ℕ) (x : Peer) → IsAt f me ps place peer x → x.station ≡ peer
station-at f me ps place peer x at =
    let got : slice_get ps place ≡ Some (get_or ps place x) = slice_get-get_or ps place x at.inside in
    let stations = slice_get-map (λ p. p.station) ps place in
    let found : Some (get_or ps place x).station ≡ Some peer = sym (stations ∙ ap (option_map (λ p. p.station)) got) ∙ ap (λ xs. slice_get xs place) at.stations ∙ at.here in
    let peer_is : (get_or ps place x).station ≡ peer = cc in
    ap (λ p. p.station) at.is ∙ peer_is

-- and no other's is
others-away : (f : Fields) (me : ℕ) (ps : List Peer) (place peer : ℕ) (x : Peer) (k : ℕ) (d : Peer) → IsAt f me ps place peer x → k < length ps → k ≢ place
    → (get_or ps k d).station ≢ peer
others-away f me ps place peer x k d at inside away same =
    let got : slice_get ps k ≡ Some (get_or ps k d) = slice_get-get_or ps k d inside in
    let found : slice_get (peers f me) k ≡ Some peer =
    ap (λ xs. slice_get xs k) (sym at.stations) ∙ slice_get-map (λ p. p.station) ps k ∙ ap (option_map (λ p. p.station)) got ∙ ap (λ s. Some s) same in
    away (Rise-place 0 k place peer (peers f me) (Rise-filter (is_peer f me) 0 (1 ∷ 2 ∷ 3 ∷ []) (omega arith, (omega arith, (omega arith, tt)))) found at.here)

-- where a call is elsewhere for every other station, and the peer follows it, all peers do
pub Follow-set : (f : Fields) (me : ℕ) (log : List Call) (call : Call) (ps : List Peer) (place peer : ℕ) (x y : Peer) → IsAt f me ps place peer x
    → ((station : ℕ) → station ≢ peer → IsElsewhere f me log call station) → All (Follows f me log) ps → Follows f me (log ++ call ∷ []) y
    → All (Follows f me (log ++ call ∷ [])) (set ps place y)
Follow-set f me log call ps place peer x y at elsewhere all new =
    All-set (Follows f me log) (Follows f me (log ++ call ∷ [])) ps place y all
    (λ k d inside away follows. Follows-elsewhere f me log call (get_or ps k d) (elsewhere (get_or ps k d).station (others-away f me ps place peer x k d at inside away)) follows) new

pub Signal-set : (f : Fields) (me : ℕ) (log : List Call) (ps : List Peer) (place peer : ℕ) (x y : Peer) → IsAt f me ps place peer x
    → y.station ≡ x.station → y.alarms ≡ x.alarms → All (Signals f me log) ps → All (Signals f me log) (set ps place y)
Signal-set f me log ps place peer x y at station alarms all =
    All-set (Signals f me log) (Signals f me log) ps place y all (λ k d inside away signals. signals)
    (Signals-kept f me log x y station alarms (subst (Signals f me log) (sym at.is) (all place x at.inside)))

-- where what is true of their calm was so, and is of the peer, it is of all
pub calm-set : (ps : List Peer) (place : ℕ) (y : Peer) → All IsCalmTrue ps → IsCalmTrue y → All IsCalmTrue (set ps place y)
calm-set ps place y all new = All-set IsCalmTrue IsCalmTrue ps place y all (λ k d inside away calm. calm) new

pub stations-set : (f : Fields) (me : ℕ) (ps : List Peer) (place peer : ℕ) (x y : Peer) → IsAt f me ps place peer x → y.station ≡ x.station
    → map (λ p. p.station) (set ps place y) ≡ map (λ p. p.station) ps
stations-set f me ps place peer x y at station =
    map-set_same (λ p. p.station) ps place y x (station ∙ ap (λ p. p.station) at.is)

-- bits and failed calls are elsewhere for every other station
another : {A : Type 0} (station other : ℕ) (here there : A) → other ≢ station → cond (eqb station other) here there ≡ there
another station other here there away = go (eqb station other) refl
  where
    go : (b : Bool) → eqb station other ≡ b → cond b here there ≡ there
    go true is = absurd (away (sym (eqb-true station other is)))
    go false is = refl

pub hears-elsewhere : (f : Fields) (me : ℕ) (log : List Call) (at peer : ℕ) (bits : List ℕ) (station : ℕ) → station ≢ peer
    → IsElsewhere f me log (made.Bits at peer bits) station
hears-elsewhere f me log at peer bits station away = record {
  bits = another peer station bits [] away;
  slots = refl;
  faulty = another peer station false (is_faulty station log) away;
}

pub faults-elsewhere : (f : Fields) (me : ℕ) (log : List Call) (at peer station : ℕ) → station ≢ peer → IsElsewhere f me log (made.Fault at peer) station
faults-elsewhere f me log at peer station away = record {
  bits = refl;
  slots = refl;
  faulty = another peer station true (is_faulty station log) away;
}
