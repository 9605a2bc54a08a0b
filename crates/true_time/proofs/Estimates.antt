-- The estimate law and the age of exchanges.
use Rattle.std.specs.Prelude.{◌==◌, option_map}
use Rattle.std.proofs.Common.{◌≡◌, ℕ, suc, ◌+◌, ◌-◌, ◌*◌, ◌<◌, ◌≤◌, cond, List, [], ◌∷◌, ◌++◌, Some, take, refl, ap, sym, subst, ◌∙◌, arith}
use Rattle.std.proofs.lemmas.Bool.{and_parts, eq-eqb, leb-true}
use Rattle.std.proofs.Math.Nat.{div-mul-le_self, lt-div-mul-add}
use Rattle.ld_base.specs.Message.{Contents}
use Rattle.ld_base.specs.declared.fields.Fields.{Fields}
use Rattle.pingpong.specs.Bounded.{stamps}
use Rattle.pingpong.specs.Exchange.{Stamps, exchange_of}
use Rattle.pingpong.specs.Journal.{passage, read_at}
use Rattle.pingpong.specs.Reading.{Reading, WithinDrift, stamp}
use Rattle.pingpong.specs.declared.journal.Entry.{Entry}
use Rattle.pingpong.specs.declared.journal.What.{What}
use Rattle.pingpong.specs.declared.journal.What.TheVariants.{Came, SendFailed, Slot, TakeFailed, Took}
use Rattle.pingpong.proofs.Bounds.{Bounded-passage}
use Rattle.pingpong.proofs.Journals.{Follows-in, IsPassage-in}
use Rattle.relay_core.specs.Log.{now}
use Rattle.relay_core.specs.declared.call.Call.{Call}
use Rattle.relay_core.specs.declared.call.Call.TheVariants as made
use Rattle.relay_core.specs.Sent.{echo_of}
use Rattle.relay_core.specs.declared.receipt.Receipt.{Receipt}
use Rattle.line_journal.specs.Crossings.{Crossings}
use Rattle.line_journal.specs.Report.{bound_of, error_of, station_of}
use Rattle.relay_core.specs.StationLog.{StationLog, calls_of, stamp_at}
use Rattle.line_journal.specs.declared.crossing.Legs.{Legs}
use Rattle.line_journal.proofs.Entries.{StationLog-push}
use Rattle.true_time.specs.Estimates.{AreHonest, EstimatesAreBounded, ExchangesAreYoung}
use Rattle.true_time.specs.Places.{Began, IsAt, WasAccepted}
use Rattle.true_time.proofs.Accepted.{accepted-at}
use Rattle.true_time.proofs.Alongs.{take-one}
use Rattle.true_time.proofs.Begun.{began-is}
use Rattle.true_time.proofs.Crossings.{honest-known, in-force-came, in-force-candidate, known-honest}
use Rattle.true_time.proofs.Places.{IsHanded, now-at}
use Rattle.true_time.proofs.Premises.{Stands, of-three}
use Rattle.true_time.proofs.Receipts.{echo-is}

-- the drift and the rest of a tick
share-of : (k p t : ℕ) → k + p ≡ 1000000 → k * t + p * t ≡ 1000000 * t
share-of k p t whole = let all : (k + p) * t ≡ 1000000 * t = ap (λ n. n * t) whole in omega (arith, all)

pub share : (p t : ℕ) → p ≤ 1000000 → (1000000 - p) * t + p * t ≡ 1000000 * t
share p t small = share-of (1000000 - p) p t (omega (arith, small))

-- two readings of a clock whose stamps are so far apart at the most
pub stamps-apart : (drift ticks : ℕ) (earlier later : Reading) → drift ≤ 1000000 → WithinDrift drift earlier later → stamp later ≤ stamp earlier + ticks
    → (1000000 - drift) * (later.time - earlier.time) < 1000000 * (ticks + 1)
stamps-apart drift ticks earlier later small within near =
    let split = share drift (later.time - earlier.time) small in
    let least : stamp earlier * 1000000 ≤ earlier.phase = div-mul-le_self earlier.phase 1000000 in
    let most : later.phase < stamp later * 1000000 + 1000000 = lt-div-mul-add (omega arith) in
    omega (arith, split, least, most, near, within.least)

-- an entry of a station hands it a call
own-call : (me : ℕ) (entry : Entry) → station_of entry.what ≡ me → (call : Call) × IsHanded me entry call
own-call me entry own = go entry.what refl
  where
    here : (station : ℕ) (call : Call) → station ≡ me → cond (station == me) (call ∷ []) [] ≡ call ∷ []
    here station call same = ap (λ b. cond b (call ∷ []) []) (eq-eqb station me same)

    go : (what : What) → entry.what ≡ what → (call : Call) × IsHanded me entry call
    go (Took station values) is =
        (made.Sample (stamp_at me entry) values, record { calls = ap (calls_of me (stamp_at me entry)) is ∙ here station _ (ap station_of (sym is) ∙ own); stamp = refl })
    go (Slot station first second) is =
        (made.Slot (stamp_at me entry), record { calls = ap (calls_of me (stamp_at me entry)) is ∙ here station _ (ap station_of (sym is) ∙ own); stamp = refl })
    go (Came station peer bits) is =
        (made.Bits (stamp_at me entry) peer bits, record { calls = ap (calls_of me (stamp_at me entry)) is ∙ here station _ (ap station_of (sym is) ∙ own); stamp = refl })
    go (SendFailed station peer) is =
        (made.Fault (stamp_at me entry) peer, record { calls = ap (calls_of me (stamp_at me entry)) is ∙ here station _ (ap station_of (sym is) ∙ own); stamp = refl })
    go (TakeFailed station peer) is =
        (made.Fault (stamp_at me entry) peer, record { calls = ap (calls_of me (stamp_at me entry)) is ∙ here station _ (ap station_of (sym is) ∙ own); stamp = refl })

module _ (f : Fields) (journal : List Entry) (stands : Stands f journal) where
  small : f.drift ≤ 1000000
  small = omega (arith, stands.drift)

  -- the time of a station's log with an entry of its own is the stamp of that entry
  pub log-time : (me place : ℕ) (entry : Entry) (call : Call) → (1 ≤ me) × (me ≤ 3) → IsAt journal place entry → IsHanded me entry call
      → now (StationLog me (take (suc place) journal)) ≡ stamp_at me entry
  log-time me place entry call station is_at handed =
      ap (λ entries. now (StationLog me entries)) (take-one journal place entry is_at)
      ∙ ap now (StationLog-push me (take place journal) entry ∙ ap (λ calls. StationLog me (take place journal) ++ calls) handed.calls)
      ∙ now-at f.drift journal small stands.in_turn me place entry call station is_at handed

  -- a message that began has the stamp of its slot
  pub sent-at : (from to place : ℕ) (entry : Entry) (m : Contents) → (1 ≤ from) × (from ≤ 3) → Began f from to journal place entry m → m.sent ≡ stamp_at from entry
  sent-at from to place entry m station began =
      let (call, handed, is) = began-is f from to (take place journal) entry m began.begun in
      ap (λ x. x.sent) is.is ∙ now-at f.drift journal small stands.in_turn from place entry call station began.is_at handed

  -- the stamps of an exchange whose messages are honest are those of the clocks
  stamps-are : (me peer back_at : ℕ) (back : Entry) (second : Receipt) (e : Stamps) (legs : Legs) → (1 ≤ me) × (me ≤ 3) → (1 ≤ peer) × (peer ≤ 3) → WasAccepted f me peer journal back_at back second
      → exchange_of second.message second.at ≡ Some e → (honest : AreHonest f me peer journal back_at back second legs) → e ≡ stamps (passage me peer honest.sent honest.came honest.turned back)
  stamps-are me peer back_at back second e legs own other accepted exchange honest =
      let echo : second.message.echo ≡ Some (record { sent = honest.first.message.sent; came = honest.first.at }) =
      echo-is f peer me journal honest.turned_at honest.turned second.message honest.second_began ∙ ap echo_of honest.last in
      let whole : Some e ≡ Some (record { a1 = honest.first.message.sent; b2 = honest.first.at; b3 = second.message.sent; a4 = second.at }) =
      sym exchange ∙ ap (option_map (λ x. record { a1 = x.sent; b2 = x.came; b3 = second.message.sent; a4 = second.at })) echo in
      let a1 : honest.first.message.sent ≡ stamp (read_at me honest.sent) = sent-at me peer honest.sent_at honest.sent honest.first.message own honest.first_began in
      let b2 : honest.first.at ≡ stamp (read_at peer honest.came) = (accepted-at f.drift f journal small stands.in_turn peer me honest.came_at honest.came honest.first other honest.first_came).came in
      let b3 : second.message.sent ≡ stamp (read_at peer honest.turned) = sent-at peer me honest.turned_at honest.turned second.message other honest.second_began in
      let a4 : second.at ≡ stamp (read_at me back) = (accepted-at f.drift f journal small stands.in_turn me peer back_at back second own accepted).came in
      same-stamps e _ _ _ _ _ _ _ _ whole a1 b2 b3 a4
    where
      same-stamps : (e : Stamps) (a b c d i j k l : ℕ) → Some e ≡ Some (record { a1 = a; b2 = b; b3 = c; a4 = d }) → a ≡ i → b ≡ j → c ≡ k → d ≡ l → e ≡ record { a1 = i; b2 = j; b3 = k; a4 = l }
      same-stamps e a b c d i j k l whole a1 b2 b3 a4 = cc

  -- the bound of an exchange whose messages are honest, at any later entry
  bounded-at : (me peer back_at place : ℕ) (back entry : Entry) (second : Receipt) (e : Stamps) (legs : Legs) → (1 ≤ me) × (me ≤ 3) → (1 ≤ peer) × (peer ≤ 3) → back_at ≤ place → IsAt journal place entry
      → WasAccepted f me peer journal back_at back second → exchange_of second.message second.at ≡ Some e → AreHonest f me peer journal back_at back second legs
      → error_of me peer entry e ≤ bound_of f.drift entry.time legs
  bounded-at me peer back_at place back entry second e legs own other by_then is_at accepted exchange honest =
      let p = passage me peer honest.sent honest.came honest.turned back in
      let passed = IsPassage-in f.drift journal honest.sent honest.came honest.turned back entry stands.in_turn (record {
        place_sent = honest.sent_at;
        place_came = honest.came_at;
        place_turned = honest.turned_at;
        place_back = back_at;
        place_now = place;
        there = omega (arith, honest.there);
        held = omega (arith, honest.held);
        home = omega (arith, honest.home);
        since = by_then;
        is_sent = honest.first_began.is_at;
        is_came = honest.first_came.is_at;
        is_turned = honest.second_began.is_at;
        is_back = accepted.is_at;
        is_now = is_at;
      }) me peer own other in
      subst (λ x. error_of me peer entry x ≤ bound_of f.drift entry.time legs) (sym (stamps-are me peer back_at back second e legs own other accepted exchange honest))
      (subst (λ l. error_of me peer entry (stamps p) ≤ bound_of f.drift entry.time l) (sym honest.times) (Bounded-passage f.drift p (read_at me entry) (read_at peer entry) passed))

  pub traced : EstimatesAreBounded f journal
  traced me peer place entry crossing pair is =
      let by = in-force-came f me peer journal (suc place) crossing is.in_force in
      let own = of-three f journal me stands pair.one_there in
      let other = of-three f journal peer stands pair.other_there in
      record {
        from = record { back_at = by.place; back = by.entry; second = by.second; by_then = omega (arith, by.early); accepted = by.accepted; exchange = by.exchange };
        known = λ legs. (
          (λ some. known-honest f me peer journal by.place by.entry by.second legs (sym by.legs ∙ some)),
          (λ honest. by.legs ∙ honest-known f me peer journal by.place by.entry by.second legs honest),
        );
        stamps_are = λ legs honest. stamps-are me peer by.place by.entry by.second crossing.exchange legs own other by.accepted by.exchange honest;
        bounded = λ legs some.
            bounded-at me peer by.place place by.entry entry by.second crossing.exchange legs own other (omega (arith, by.early)) is.is_at by.accepted by.exchange
            (known-honest f me peer journal by.place by.entry by.second legs (sym by.legs ∙ some));
      }

  pub young : ExchangesAreYoung f journal
  young me peer place entry crossing legs pair is own some =
      let by = in-force-came f me peer journal (suc place) crossing is.in_force in
      let station = of-three f journal me stands pair.one_there in
      let honest = known-honest f me peer journal by.place by.entry by.second legs (sym by.legs ∙ some) in
      let (call, handed) = own-call me entry own in
      let time = log-time me place entry call station is.is_at handed in
      let candidate = in-force-candidate (λ crossing. crossing.exchange) f.slow f.age (now (StationLog me (take (suc place) journal))) (Crossings f me peer (take (suc place) journal)) crossing is.in_force in
      let late : now (StationLog me (take (suc place) journal)) ≤ crossing.exchange.a1 + f.age = leb-true _ _ (and_parts _ _ candidate).1 in
      let began : crossing.exchange.a1 ≡ stamp_at me honest.sent =
      ap (λ e. e.a1) (stamps-are me peer by.place by.entry by.second crossing.exchange legs station (of-three f journal peer stands pair.other_there) by.accepted by.exchange honest) in
      let near : stamp_at me entry ≤ stamp_at me honest.sent + f.age = omega (arith, time, late, began) in
      let follows = Follows-in f.drift journal honest.sent_at place honest.sent entry stands.in_turn (omega (arith, honest.there, honest.held, honest.home, by.early)) honest.first_began.is_at is.is_at in
      subst (λ l. (1000000 - f.drift) * (entry.time - l.sent) < 1000000 * (f.age + 1)) (sym honest.times)
      (stamps-apart f.drift f.age (read_at me honest.sent) (read_at me entry) small (follows.clocks me station.0 station.1) near)
