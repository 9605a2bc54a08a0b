-- How what is kept of a peer follows the log with one call more.
use Rattle.std.proofs.Common.{◌≡◌, ℕ, Bool, true, false, cond, eqb, List, [], ◌∷◌, ◌++◌, Option, None, Some, map, drop, length, refl, ap, sym, subst, ◌∙◌, append-nil, T}
use Rattle.std.specs.Prelude.{filter_map, option_map, slice_get}
use Rattle.std.specs.List.{flat_map}
use Rattle.std.specs.Option.{option_to_list}
use Rattle.std.proofs.Math.Dec.{eqb_refl}
use Rattle.ld_base.specs.declared.fields.Fields.{Fields}
use Rattle.pingpong.specs.Exchange.{Stamps, exchange_of}
use Rattle.offset_track.specs.InForce.{InForce}
use Rattle.offset_track.specs.Track as track
use Rattle.relay_message.specs.Messages.{added}
use Rattle.sample_store.specs.Along.{along_from}
use Rattle.relay_core.specs.Accepted.{Accepted, Exchanges, InForceWith, last_of}
use Rattle.relay_core.specs.AlarmState.{faulty_after, is_faulty}
use Rattle.relay_core.specs.Answers.{chosen_by, news_in, news_of, taken_of}
use Rattle.relay_core.specs.Decided.{values_of}
use Rattle.relay_core.specs.Follows.{Brings, Brought, Follows, chosen_in, exchanges_in, fresh_in, last_after, receipts_in, values_in}
use Rattle.relay_core.specs.Line.{Gots, Line, Messages, Refusals, bits_from, gots_on, messages_on, refusals_on}
use Rattle.relay_core.specs.Listens.{Listens, Tells}
use Rattle.relay_core.specs.Log.{now}
use Rattle.relay_core.specs.declared.call.Call.{Call}
use Rattle.relay_core.specs.declared.call.Call.TheVariants as made
use Rattle.relay_core.specs.Sent.{Slots, slot_by}
use Rattle.relay_core.specs.Talks.{Talks}
use Rattle.relay_core.specs.declared.answers.News.{News}
use Rattle.relay_core.specs.declared.answers.News.TheVariants as news
use Rattle.relay_core.specs.declared.calm.Calm.{Calm}
use Rattle.relay_core.specs.declared.listener.Listener.{Listener}
use Rattle.relay_core.specs.declared.listener.Told.{Told}
use Rattle.relay_core.specs.declared.peer.Peer.{Peer}
use Rattle.relay_core.specs.declared.receipt.Receipt.{Receipt}
use Rattle.relay_core.proofs.Accepting.{Accepted-same, Exchanges-push}
use Rattle.relay_core.proofs.Calls.{Line-push, Slots-push, added-is, is_faulty-push}
use Rattle.relay_core.proofs.Hearing.{Accepted-news, exchanges-receipts, last_of-receipts}

-- a station is itself
own : {A : Type 0} (station : ℕ) (here there : A) → cond (eqb station station) here there ≡ here
own {A = A} station here there = go (eqb station station) (eqb_refl station)
  where
    go : (b : Bool) → T b → cond b here there ≡ here
    go true is = refl
    go false is = absurd is

-- a call that isn't about a peer: it brings no bits of the line, sends nothing, and no wire failed
pub record IsElsewhere (f : Fields) (me : ℕ) (log : List Call) (call : Call) (peer : ℕ) : Type 0 where
  pub bits : bits_from peer call ≡ []
  pub slots : slot_by f me peer log (Slots f me peer log) call ≡ []
  pub faulty : faulty_after peer (is_faulty peer log) call ≡ is_faulty peer log

pub Line-same : (peer : ℕ) (log : List Call) (call : Call) → bits_from peer call ≡ [] → Line peer (log ++ call ∷ []) ≡ Line peer log
Line-same peer log call none = Line-push peer log call ∙ ap (λ bits. Line peer log ++ bits) none ∙ append-nil (Line peer log)

Slots-same : (f : Fields) (me peer : ℕ) (log : List Call) (call : Call) → slot_by f me peer log (Slots f me peer log) call ≡ []
    → Slots f me peer (log ++ call ∷ []) ≡ Slots f me peer log
Slots-same f me peer log call none = Slots-push f me peer log call ∙ ap (λ slots. Slots f me peer log ++ slots) none ∙ append-nil (Slots f me peer log)

pub Exchanges-same : (f : Fields) (me peer : ℕ) (log : List Call) (call : Call) → Accepted f me peer (log ++ call ∷ []) ≡ Accepted f me peer log
    → Exchanges f me peer (log ++ call ∷ []) ≡ Exchanges f me peer log
Exchanges-same f me peer log call same = ap (filter_map (λ r. exchange_of r.message r.at)) same

pub Follows-elsewhere : (f : Fields) (me : ℕ) (log : List Call) (call : Call) (p : Peer) → IsElsewhere f me log call p.station
    → Follows f me log p → Follows f me (log ++ call ∷ []) p
Follows-elsewhere f me log call p away follows =
    let line = Line-same p.station log call away.bits in
    let accepted = Accepted-same f me p.station log call line in
    record {
      settings = follows.settings;
      listens = subst (Listens f p.listener) (sym line) follows.listens;
      talks = subst (Talks f p.talker) (sym (Slots-same f me p.station log call away.slots)) follows.talks;
      track = subst (track.StandsFor p.track) (sym (Exchanges-same f me p.station log call accepted)) follows.track;
      last = follows.last ∙ ap last_of (sym accepted);
      faulty = follows.faulty ∙ sym (is_faulty-push p.station log call ∙ away.faulty);
    }

-- before the first call
pub Follows-new : (f : Fields) (me : ℕ) (p : Peer) → (p.track.slow ≡ f.slow) × (p.track.age ≡ f.age) → Listens f p.listener [] → Talks f p.talker []
    → track.StandsFor p.track [] → p.last ≡ None → p.faulty ≡ false → Follows f me [] p
unfolding along_from
Follows-new f me p settings listens talks stands last faulty =
    record { settings = settings; listens = listens; talks = talks; track = stands; last = last; faulty = faulty }

-- a failed call on a wire of the peer
pub Follows-faults : (f : Fields) (me at : ℕ) (log : List Call) (p : Peer) (calm : Calm) → Follows f me log p
    → Follows f me (log ++ made.Fault at p.station ∷ [])
    (record { station = p.station; listener = p.listener; talker = p.talker; track = p.track; last = p.last; faulty = true; alarms = p.alarms; calm = calm })
Follows-faults f me at log p calm follows =
    let call = made.Fault at p.station in
    let line = Line-same p.station log call refl in
    let accepted = Accepted-same f me p.station log call line in
    record {
      settings = follows.settings;
      listens = subst (Listens f p.listener) (sym line) follows.listens;
      talks = subst (Talks f p.talker) (sym (Slots-same f me p.station log call refl)) follows.talks;
      track = subst (track.StandsFor p.track) (sym (Exchanges-same f me p.station log call accepted)) follows.track;
      last = follows.last ∙ ap last_of (sym accepted);
      faulty = sym (is_faulty-push p.station log call ∙ own p.station true (is_faulty p.station log));
    }

-- bits of a peer's line
own_bits : (peer at : ℕ) (bits : List ℕ) → bits_from peer (made.Bits at peer bits) ≡ bits
own_bits peer at bits = own peer bits []

Line-hears : (peer at : ℕ) (log : List Call) (bits : List ℕ) → Line peer (log ++ made.Bits at peer bits ∷ []) ≡ Line peer log ++ bits
Line-hears peer at log bits = Line-push peer log (made.Bits at peer bits) ∙ ap (λ more. Line peer log ++ more) (own_bits peer at bits)

-- what is known where a peer's bits were heard
pub record AreHeard (f : Fields) (me at time : ℕ) (log : List Call) (p : Peer) (bits : List ℕ) (told : Told) (n : News) : Type 0 where
  pub is_time : time ≡ now (log ++ made.Bits at p.station bits ∷ [])
  pub follows : Follows f me log p
  pub tells : Tells f (Line p.station log) bits told
  pub says : map (news_of me p.station p.last) (option_to_list told.message) ≡ news_in n

messages : (f : Fields) (me at time : ℕ) (log : List Call) (p : Peer) (bits : List ℕ) (told : Told) (n : News) → AreHeard f me at time log p bits told n
    → added (Messages f p.station) log (made.Bits at p.station bits ∷ []) ≡ option_to_list told.message
messages f me at time log p bits told n heard =
    added-is (Messages f p.station) log (made.Bits at p.station bits ∷ []) (option_to_list told.message)
    (ap (messages_on f) (Line-hears p.station at log bits) ∙ heard.tells.message)

accepted : (f : Fields) (me at time : ℕ) (log : List Call) (p : Peer) (bits : List ℕ) (told : Told) (n : News) → AreHeard f me at time log p bits told n
    → Accepted f me p.station (log ++ made.Bits at p.station bits ∷ []) ≡ Accepted f me p.station log ++ receipts_in time n
accepted f me at time log p bits told n heard =
    Accepted-news f me p.station log (made.Bits at p.station bits) told.message n (messages f me at time log p bits told n heard)
    (ap (λ last. map (news_of me p.station last) (option_to_list told.message)) (sym heard.follows.last) ∙ heard.says)
    ∙ ap (λ t. Accepted f me p.station log ++ receipts_in t n) (sym heard.is_time)

exchanges : (f : Fields) (me at time : ℕ) (log : List Call) (p : Peer) (bits : List ℕ) (told : Told) (n : News) → AreHeard f me at time log p bits told n
    → Exchanges f me p.station (log ++ made.Bits at p.station bits ∷ []) ≡ Exchanges f me p.station log ++ exchanges_in time n
exchanges f me at time log p bits told n heard =
    let call = made.Bits at p.station bits in
    Exchanges-push f me p.station log call (receipts_in time n) (accepted f me at time log p bits told n heard)
    ∙ ap (λ es. Exchanges f me p.station log ++ es) (exchanges-receipts time n)

pub Follows-hears : (f : Fields) (me at time : ℕ) (log : List Call) (p : Peer) (bits : List ℕ) (told : Told) (n : News) (listener : Listener) (kept : track.Held) (last : Option Receipt) (calm : Calm)
    → AreHeard f me at time log p bits told n → Listens f listener (Line p.station log ++ bits)
    → (kept.slow ≡ p.track.slow) × (kept.age ≡ p.track.age)
    → track.StandsFor kept (Exchanges f me p.station log ++ exchanges_in time n)
    → last ≡ last_after p.last time n
    → Follows f me (log ++ made.Bits at p.station bits ∷ [])
    (record { station = p.station; listener = listener; talker = p.talker; track = kept; last = last; faulty = false; alarms = p.alarms; calm = calm })
Follows-hears f me at time log p bits told n listener kept last calm heard listens settings stands is_last =
    let call = made.Bits at p.station bits in
    record {
      settings = (settings.0 ∙ heard.follows.settings.0, settings.1 ∙ heard.follows.settings.1);
      listens = subst (Listens f listener) (sym (Line-hears p.station at log bits)) listens;
      talks = subst (Talks f p.talker) (sym (Slots-same f me p.station log call refl)) heard.follows.talks;
      track = subst (track.StandsFor kept) (sym (exchanges f me at time log p bits told n heard)) stands;
      last =
          is_last
          ∙ ap (λ before. last_after before time n) heard.follows.last
          ∙ sym (ap last_of (accepted f me at time log p bits told n heard) ∙ last_of-receipts (Accepted f me p.station log) time n);
      faulty = sym (is_faulty-push p.station log call ∙ own p.station false (is_faulty p.station log));
    }

-- what is chosen with news, and which values are offered then
choices : (n : News) (at : ℕ) (chosen : Option Stamps)
    → flat_map (λ r. option_to_list chosen) (receipts_in at n) ≡ option_to_list (chosen_in n chosen)
choices news.Nothing at chosen = refl
choices (news.Repeat number last) at chosen = refl
choices (news.Stranger address) at chosen = refl
choices (news.Accepted m) at chosen = append-nil (option_to_list chosen)

at_time : (at : ℕ) (chosen : Option Stamps)
    → map {B = track.Chosen} (λ e. record { exchange = e; at = at }) (option_to_list chosen) ≡ option_to_list (option_map {U = track.Chosen} (λ e. record { exchange = e; at = at }) chosen)
at_time at None = refl
at_time at (Some e) = refl

values : (peer at : ℕ) (n : News) (chosen : Option Stamps)
    → flat_map (λ r. map (values_of peer r) (option_to_list chosen)) (receipts_in at n) ≡ values_in peer n (option_map (λ e. record { exchange = e; at = at }) (chosen_in n chosen))
values peer at news.Nothing chosen = refl
values peer at (news.Repeat number last) chosen = refl
values peer at (news.Stranger address) chosen = refl
values peer at (news.Accepted m) None = refl
values peer at (news.Accepted m) (Some e) = refl

-- what bits of a peer bring, by the frame and the refusal that are told, the news, and what became of its exchange
pub Brings-hears : (f : Fields) (me at time : ℕ) (log : List Call) (p : Peer) (bits : List ℕ) (told : Told) (n : News) (b : Brought)
    → AreHeard f me at time log p bits told n → b.frame ≡ told.frame → b.news ≡ n → b.refused ≡ told.refused
    → map (taken_of p.track.slow) (exchanges_in time n) ≡ option_to_list b.taken
    → b.fresh ≡ fresh_in p.track.slow p.track.age (Exchanges f me p.station log ++ exchanges_in time n) time n
    → Brings f me log p.station (made.Bits at p.station bits) b
Brings-hears f me at time log p bits told n b heard frame is refused taken fresh =
    let peer = p.station in
    let call = made.Bits at peer bits in
    let line = Line-hears peer at log bits in
    let receipts = added-is (Accepted f me peer) log (call ∷ []) (receipts_in time n) (accepted f me at time log p bits told n heard) in
    let offered = exchanges f me at time log p bits told n heard in
    let chosen = InForceWith f me peer (log ++ call ∷ []) in
    let is_fresh : b.fresh ≡ option_map (λ e. record { exchange = e; at = time }) (chosen_in n chosen) =
    fresh ∙ ap (λ es. fresh_in p.track.slow p.track.age es time n) (sym offered)
    ∙ ap (λ slow. fresh_in slow p.track.age (Exchanges f me peer (log ++ call ∷ [])) time n) heard.follows.settings.0
    ∙ ap (λ age. fresh_in f.slow age (Exchanges f me peer (log ++ call ∷ [])) time n) heard.follows.settings.1
    ∙ ap (λ t. option_map (λ e. record { exchange = e; at = time }) (chosen_in n (InForce (λ e. e) f.slow f.age t (Exchanges f me peer (log ++ call ∷ []))))) heard.is_time in
    record {
      frame = added-is (Gots f peer) log (call ∷ []) (option_to_list told.frame) (ap (gots_on f) line ∙ heard.tells.frame) ∙ ap option_to_list (sym frame);
      news =
          ap (map (news_of me peer (last_of (Accepted f me peer log)))) (messages f me at time log p bits told n heard)
          ∙ ap (λ last. map (news_of me peer last) (option_to_list told.message)) (sym heard.follows.last)
          ∙ heard.says ∙ ap news_in (sym is);
      refused =
          refused ∙ heard.tells.refused
          ∙ ap (λ l. slice_get (drop (length (Refusals f peer log)) (refusals_on f l)) 0) (sym line);
      taken =
          ap (map (taken_of f.slow)) (added-is (Exchanges f me peer) log (call ∷ []) (exchanges_in time n) offered)
          ∙ ap (λ slow. map (taken_of slow) (exchanges_in time n)) (sym heard.follows.settings.0)
          ∙ taken;
      fresh =
          ap (λ t. map {B = track.Chosen} (λ e. record { exchange = e; at = t }) (chosen_by f me peer log call)) (sym heard.is_time)
          ∙ ap (λ rs. map {B = track.Chosen} (λ e. record { exchange = e; at = time }) (flat_map (λ r. option_to_list chosen) rs)) receipts
          ∙ ap (map {B = track.Chosen} (λ e. record { exchange = e; at = time })) (choices n time chosen)
          ∙ at_time time (chosen_in n chosen)
          ∙ ap option_to_list (sym is_fresh);
      values =
          ap (flat_map (λ r. map (values_of peer r) (option_to_list chosen))) receipts
          ∙ values peer time n chosen
          ∙ ap (values_in peer n) (sym is_fresh)
          ∙ ap (λ n. values_in peer n b.fresh) (sym is);
    }
