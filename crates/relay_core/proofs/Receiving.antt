-- A terminal with bits of a peer more.
use Rattle.std.proofs.Common.{◌≡◌, ℕ, List, [], ◌∷◌, ◌++◌, Option, None, Some, map, reverse, set, refl, ap, sym, subst, ◌∙◌, append-nil}
use Rattle.std.specs.Prelude.{option_map, slice_get}
use Rattle.std.specs.Option.{option_to_list}
use Rattle.ld_base.specs.declared.fields.Fields.{Fields}
use Rattle.pingpong.specs.Exchange.{Stamps}
use Rattle.offset_track.specs.Track as track
use Rattle.sample_store.specs.Offers.{Offer, Taken, taken_by}
use Rattle.sample_store.proofs.Alongs.{along-push}
use Rattle.relay_core.specs.Answers.{chosen_by}
use Rattle.relay_core.specs.Decided.{Offers}
use Rattle.relay_core.specs.Decides.{Decides}
use Rattle.relay_core.specs.Follows.{Brings, Brought, Follows, values_in}
use Rattle.relay_core.specs.Log.{now}
use Rattle.relay_core.specs.declared.call.Call.{Call}
use Rattle.relay_core.specs.declared.call.Call.TheVariants as made
use Rattle.relay_core.specs.StandsFor.{Kept, StandsFor, span_with}
use Rattle.relay_core.specs.declared.answers.News.{News}
use Rattle.relay_core.specs.declared.answers.News.TheVariants as news
use Rattle.relay_core.specs.declared.decider.Decider.{Decider}
use Rattle.relay_core.specs.declared.peer.Peer.{Peer}
use Rattle.relay_core.specs.declared.terminal.Span.{Span}
use Rattle.relay_core.proofs.Changing.{Follow-set, IsAt, Signal-set, faults-elsewhere, hears-elsewhere, station-at, stations-set}
use Rattle.relay_core.proofs.Slotting.{Newest-same, Offers-same}
use Rattle.relay_core.proofs.Standing.{IsServed, Offers-push, span-served}

-- a peer's values are no own samples
Taken-values : (spacing : ℕ) (offers : List Offer) (peer : ℕ) (n : News) (fresh : Option track.Chosen)
    → Taken spacing (offers ++ values_in peer n fresh) ≡ Taken spacing offers
Taken-values spacing offers peer news.Nothing fresh = ap (Taken spacing) (append-nil offers)
Taken-values spacing offers peer (news.Repeat number last) fresh = ap (Taken spacing) (append-nil offers)
Taken-values spacing offers peer (news.Stranger address) fresh = ap (Taken spacing) (append-nil offers)
Taken-values spacing offers peer (news.Accepted m) None = ap (Taken spacing) (append-nil offers)
Taken-values spacing offers peer (news.Accepted m) (Some chosen) =
    along-push (λ before taken offer. taken_by spacing taken offer) offers _ ∙ append-nil (Taken spacing offers)

pub Offers-hears : (f : Fields) (me at peer : ℕ) (log : List Call) (bits : List ℕ) (b : Brought) → Brings f me log peer (made.Bits at peer bits) b
    → Offers f me (log ++ made.Bits at peer bits ∷ []) ≡ Offers f me log ++ values_in peer b.news b.fresh
Offers-hears f me at peer log bits b brings = Offers-push f me log (made.Bits at peer bits) ∙ ap (λ more. Offers f me log ++ more) brings.values

-- the exchange that was chosen
pub chosen-brought : (f : Fields) (me : ℕ) (log : List Call) (peer : ℕ) (call : Call) (b : Brought) → Brings f me log peer call b
    → chosen_by f me peer log call ≡ option_to_list (option_map (λ chosen. chosen.exchange) b.fresh)
chosen-brought f me log peer call b brings =
    sym (unmapped (now (log ++ call ∷ [])) (chosen_by f me peer log call)) ∙ ap (map (λ chosen. chosen.exchange)) brings.fresh ∙ exchanges b.fresh
  where
    unmapped : (at : ℕ) (es : List Stamps) → map (λ (chosen : track.Chosen). chosen.exchange) (map (λ e. record { exchange = e; at = at }) es) ≡ es
    unmapped at [] = refl
    unmapped at (e ∷ es) = ap (λ xs. e ∷ xs) (unmapped at es)

    exchanges : (fresh : Option track.Chosen) → map (λ (chosen : track.Chosen). chosen.exchange) (option_to_list fresh)
        ≡ option_to_list (option_map (λ (chosen : track.Chosen). chosen.exchange) fresh)
    exchanges None = refl
    exchanges (Some chosen) = refl

-- what a peer's own answer to bits says of the terminal's log
pub record IsReceived (t : Kept) (log : List Call) (at peer : ℕ) (bits : List ℕ) (span : Span) (place : ℕ) (x y : Peer) (b : Brought) : Type 0 where
  pub stands : StandsFor t log
  pub is_span : span ≡ span_with t.span at
  pub is_at : IsAt t.settings t.me t.peers place peer x
  pub follows : Follows t.settings t.me (log ++ made.Bits at peer bits ∷ []) y
  pub brings : Brings t.settings t.me log peer (made.Bits at peer bits) b

pub Received : (t : Kept) (log : List Call) (at peer : ℕ) (bits : List ℕ) (span : Span) (place : ℕ) (x y : Peer) (b : Brought)
    → StandsFor t log → span ≡ span_with t.span at → IsAt t.settings t.me t.peers place peer x
    → ((f : Fields) (calls : List Call) (at : ℕ) → Follows f t.me calls x → span.now ≡ now (calls ++ made.Bits at x.station bits ∷ [])
    → Follows f t.me (calls ++ made.Bits at x.station bits ∷ []) y)
    → ((f : Fields) (calls : List Call) (at : ℕ) → Follows f t.me calls x → span.now ≡ now (calls ++ made.Bits at x.station bits ∷ [])
    → Brings f t.me calls x.station (made.Bits at x.station bits) b)
    → IsReceived t log at peer bits span place x y b
Received t log at peer bits span place x y b stands is_span is_at follows brings =
    let f = t.settings in
    let station = station-at f t.me t.peers place peer x is_at in
    let old = subst (Follows f t.me log) (sym is_at.is) (stands.follow place x is_at.inside) in
    let time = (span-served t log (made.Bits at x.station bits) span stands is_span).time in
    record {
      stands = stands;
      is_span = is_span;
      is_at = is_at;
      follows = subst (λ s. Follows f t.me (log ++ made.Bits at s bits ∷ []) y) station (follows f log at old time);
      brings = subst (λ s. Brings f t.me log s (made.Bits at s bits) b) station (brings f log at old time);
    }

pub Served-hears : (t : Kept) (log : List Call) (at peer : ℕ) (bits : List ℕ) (span : Span) (decider : Decider) (place : ℕ) (x y : Peer) (b : Brought)
    → IsReceived t log at peer bits span place x y b → Decides t.settings t.me decider (Offers t.settings t.me log ++ values_in peer b.news b.fresh)
    → y.station ≡ x.station → y.alarms ≡ x.alarms
    → IsServed t log (made.Bits at peer bits) span t.newest decider (set t.peers place y)
Served-hears t log at peer bits span decider place x y b received decides station alarms =
    let f = t.settings in
    let call = made.Bits at peer bits in
    let offers = Offers-hears f t.me at peer log bits b received.brings in
    record {
      stands = received.stands;
      is_span = received.is_span;
      is_newest =
          received.stands.newest
          ∙ sym (ap (λ os. slice_get (reverse (Taken f.spacing os)) 0) offers ∙ ap (λ taken. slice_get (reverse taken) 0) (Taken-values f.spacing (Offers f t.me log) peer b.news b.fresh));
      decides = subst (Decides f t.me decider) (sym offers) decides;
      stations = stations-set f t.me t.peers place peer x y received.is_at station ∙ received.stands.stations;
      follow = Follow-set f t.me log call t.peers place peer x y received.is_at (hears-elsewhere f t.me log at peer bits) received.stands.follow received.follows;
      signal = Signal-set f t.me log t.peers place peer x y received.is_at station alarms received.stands.signal;
    }

-- and with a failed call on a wire of a peer
pub Served-faults : (t : Kept) (log : List Call) (at peer : ℕ) (span : Span) (place : ℕ) (x y : Peer)
    → StandsFor t log → span ≡ span_with t.span at → IsAt t.settings t.me t.peers place peer x
    → Follows t.settings t.me (log ++ made.Fault at peer ∷ []) y → y.station ≡ x.station → y.alarms ≡ x.alarms
    → IsServed t log (made.Fault at peer) span t.newest t.decider (set t.peers place y)
Served-faults t log at peer span place x y stands is_span is_at follows station alarms =
    let f = t.settings in
    let call = made.Fault at peer in
    let offers = Offers-same f t.me log call refl in
    record {
      stands = stands;
      is_span = is_span;
      is_newest = stands.newest ∙ sym (Newest-same f t.me log call offers);
      decides = subst (Decides f t.me t.decider) (sym offers) stands.decides;
      stations = stations-set f t.me t.peers place peer x y is_at station ∙ stands.stations;
      follow = Follow-set f t.me log call t.peers place peer x y is_at (faults-elsewhere f t.me log at peer) stands.follow follows;
      signal = Signal-set f t.me log t.peers place peer x y is_at station alarms stands.signal;
    }
