-- An honest journal: each accepted message began at an earlier entry, so both messages of each exchange are known.
use Rattle.std.specs.Prelude.{Contains, count_by, is_none, option_map}
use Rattle.std.specs.Option.{option_and_then}
use Rattle.std.proofs.Common.{◌≡◌, ℕ, suc, ◌<◌, Bool, true, false, cond, ◌==◌, List, [], ◌∷◌, length, Option, None, Some, take, refl, ap, sym, subst, ◌∙◌, arith}
use Rattle.std.proofs.lemmas.Bool.{eqb-true}
use Rattle.std.proofs.Math.Seq.{take-length}
use Rattle.std.proofs.lemmas.List.Sums.{sum_by-cons}
use Rattle.std.proofs.lemmas.Option.{slice_get_within}
use Rattle.ld_base.specs.declared.fields.Fields.{Fields}
use Rattle.pingpong.specs.declared.journal.Entry.{Entry}
use Rattle.pingpong.specs.declared.journal.What.{What}
use Rattle.pingpong.specs.declared.journal.What.TheVariants.{Came, SendFailed, Slot, TakeFailed, Took}
use Rattle.relay_core.specs.Accepted.{Accepted}
use Rattle.relay_core.specs.Decided.{accepted_by}
use Rattle.relay_core.specs.Line.{bits_from}
use Rattle.relay_core.specs.declared.call.Call.{Call}
use Rattle.relay_core.specs.declared.call.Call.TheVariants as made
use Rattle.relay_core.specs.Sent.{echo_of}
use Rattle.relay_core.specs.declared.receipt.Receipt.{Receipt}
use Rattle.relay_core.proofs.Calls.{added-is}
use Rattle.sample_store.specs.Along.{along}
use Rattle.sample_store.proofs.Alongs.{along-push}
use Rattle.line_journal.specs.Crossings.{Arrivals, Forged, accepted_with, arrivals_of, legs_from, slot_time}
use Rattle.relay_core.specs.StationLog.{StationLog, calls_of, stamp_at}
use Rattle.line_journal.specs.declared.crossing.Arrival.{Arrival}
use Rattle.line_journal.specs.declared.crossing.Legs.{Legs}
use Rattle.line_journal.proofs.LineLists.{accepted-silent}
use Rattle.true_time.specs.Places.{Began, WasAccepted}
use Rattle.true_time.specs.TrueTime.{AllAreTraced}
use Rattle.true_time.proofs.Accepted.{accepted-handed}
use Rattle.true_time.proofs.Alongs.{along-grows, contains-later}
use Rattle.true_time.proofs.Beginnings.{began-found, began-slot, beginning_of, slot-began}
use Rattle.true_time.proofs.Crossings.{CameBy, in-force-came}
use Rattle.true_time.proofs.Elements.{in-front, maps-in, none-in}
use Rattle.true_time.proofs.Elements.InFront.{in_first, in_rest}
use Rattle.true_time.proofs.Lasts.{AreLast, are-last, arrival_of}
use Rattle.true_time.proofs.Lasts.AreLast.{neither, both}
use Rattle.true_time.proofs.Places.{IsHanded}
use Rattle.true_time.proofs.Receipts.{echo-is}

-- where none is counted, none passes
none-counted : {A : Type 0} (test : A → Bool) (xs : List A) (x : A) → count_by test xs ≡ 0 → Contains xs x → test x ≡ false
none-counted test [] x none has = absurd (none-in x has)
none-counted {A = A} test (y ∷ xs) x none has = go (test y) refl (none-counted test xs x)
  where
    go : (b : Bool) → test y ≡ b → (count_by test xs ≡ 0 → Contains xs x → test x ≡ false) → test x ≡ false
    go true hit rest = absurd (let all = sum_by-cons (λ z. cond (test z) 1 0) y xs in let one = ap {B = ℕ} (λ b. cond b 1 0) hit in omega (arith, none, all, one))
    go false missed rest = elim (in-front y xs x has) [
      | in_first same ↦ ap test (sym same) ∙ missed
      | in_rest further ↦ rest (let all = sum_by-cons (λ z. cond (test z) 1 0) y xs in let zero_more = ap {B = ℕ} (λ b. cond b 1 0) missed in omega (arith, none, all, zero_more)) further
    ]

-- a message is accepted with bits of its line alone
accepted-came-with : (f : Fields) (me peer : ℕ) (before : List Entry) (entry : Entry) (r : Receipt) → Contains (accepted_with f me peer before entry) r
    → (bits : List ℕ) × (entry.what ≡ Came me peer bits)
accepted-came-with f me peer before entry r has =
    let (call, handed, by) = accepted-handed f me peer before entry r has in
    go entry.what refl call handed by
  where
    silent : (call : Call) → bits_from peer call ≡ [] → Contains (accepted_by f me peer (StationLog me before) call) r → ⊥
    silent call none by = none-in r (subst (λ rs. Contains rs r) (accepted-silent f me peer (StationLog me before) call none) by)

    -- the call of an entry of the station
    one-of : (b : Bool) (call other : Call) → cond b (other ∷ []) [] ≡ call ∷ [] → other ≡ call
    one-of true call other is = cc
    one-of false call other is = absurd (cc)

    test-of : (b : Bool) (call other : Call) → cond b (other ∷ []) [] ≡ call ∷ [] → b ≡ true
    test-of true call other is = refl
    test-of false call other is = absurd (cc)

    came-from : (b : Bool) (bits : List ℕ) → (cond b bits [] ≡ [] → ⊥) → b ≡ true
    came-from true bits some = refl
    came-from false bits some = absurd (some refl)

    go : (what : What) → entry.what ≡ what → (call : Call) → IsHanded me entry call → Contains (accepted_by f me peer (StationLog me before) call) r
        → (bits : List ℕ) × (entry.what ≡ Came me peer bits)
    go (Took station values) is call handed by =
        let one = one-of (station == me) call (made.Sample (stamp_at me entry) values) (sym (ap (calls_of me (stamp_at me entry)) is) ∙ handed.calls) in
        absurd (silent call (ap (bits_from peer) (sym one)) by)
    go (Slot station one other) is call handed by =
        let same = one-of (station == me) call (made.Slot (stamp_at me entry)) (sym (ap (calls_of me (stamp_at me entry)) is) ∙ handed.calls) in
        absurd (silent call (ap (bits_from peer) (sym same)) by)
    go (SendFailed station to) is call handed by =
        let one = one-of (station == me) call (made.Fault (stamp_at me entry) to) (sym (ap (calls_of me (stamp_at me entry)) is) ∙ handed.calls) in
        absurd (silent call (ap (bits_from peer) (sym one)) by)
    go (TakeFailed station from) is call handed by =
        let one = one-of (station == me) call (made.Fault (stamp_at me entry) from) (sym (ap (calls_of me (stamp_at me entry)) is) ∙ handed.calls) in
        absurd (silent call (ap (bits_from peer) (sym one)) by)
    go (Came station from bits) is call handed by =
        let calls = sym (ap (calls_of me (stamp_at me entry)) is) ∙ handed.calls in
        let one = one-of (station == me) call (made.Bits (stamp_at me entry) from bits) calls in
        let here = eqb-true station me (test-of (station == me) call (made.Bits (stamp_at me entry) from bits) calls) in
        let there = eqb-true from peer (came-from (from == peer) bits (λ none. silent call (ap (bits_from peer) (sym one) ∙ none) by)) in
        (bits, is ∙ ap (λ s. Came s from bits) here ∙ ap (λ s. Came me s bits) there)

module _ (f : Fields) (journal : List Entry) (honest : Forged f journal ≡ 0) where
  abbrev all_arrivals : List Entry → List Arrival
  all_arrivals entries = along (λ before so_far entry. arrivals_of f before entry entry.what) entries

  none-forged : count_by (λ arrival. is_none arrival.began) (all_arrivals journal) ≡ 0
  none-forged = omega (arith, honest)

  -- a message that is accepted began at an earlier entry on its line
  pub honestly : (me peer place : ℕ) (entry : Entry) (r : Receipt) → WasAccepted f me peer journal place entry r
      → (sent_at : ℕ) × (sent : Entry) × (sent_at < place) × Began f peer me journal sent_at sent r.message
  honestly me peer place entry r was =
      go (slot_time f peer me (take place journal) r.message) refl
    where
      what : (bits : List ℕ) × (entry.what ≡ Came me peer bits)
      what = accepted-came-with f me peer (take place journal) entry r was.accepted

      arrives : Contains (all_arrivals journal) (arrival_of f me peer journal place entry r)
      arrives =
          let inside = slice_get_within journal place entry was.is_at in
          let brought = maps-in (arrival_of f me peer journal place entry) (accepted_with f me peer (take place journal) entry) r was.accepted in
          let here = subst (λ w. Contains (arrivals_of f (take place journal) entry w) (arrival_of f me peer journal place entry r)) (sym what.1) brought in
          let more = added-is all_arrivals (take place journal) (entry ∷ []) _ (along-push (λ before so_far entry. arrivals_of f before entry entry.what) (take place journal) entry) in
          subst (λ entries. Contains (all_arrivals entries) (arrival_of f me peer journal place entry r)) (take-length journal)
          (contains-later all_arrivals (along-grows (λ before so_far entry. arrivals_of f before entry entry.what)) journal place (length journal) entry _ inside was.is_at
          (subst (λ xs. Contains xs (arrival_of f me peer journal place entry r)) (sym more) here))

      go : (slot : Option ℕ) → slot_time f peer me (take place journal) r.message ≡ slot → (sent_at : ℕ) × (sent : Entry) × (sent_at < place) × Began f peer me journal sent_at sent r.message
      go None none =
          absurd (let passes = none-counted (λ arrival. is_none arrival.began) (all_arrivals journal) (arrival_of f me peer journal place entry r) none-forged arrives in
          let is : is_none {T = ℕ} None ≡ false = sym (ap is_none none) ∙ passes in cc)
      go (Some t) some =
          let (sent_at, sent, early, began, time) = slot-began f peer me journal place r.message t some in
          (sent_at, sent, early, began)

  pub all-traced : AllAreTraced f journal
  all-traced me peer place entry crossing pair is =
      let by = in-force-came f me peer journal (suc place) crossing is.in_force in
      let (turned_at, turned, home, began) = honestly me peer by.place by.entry by.second by.accepted in
      let found = began-found f peer me journal by.place turned_at turned by.second.message home began in
      let (legs, known) = go by turned_at turned began (are-last f peer me journal turned_at) in
      (legs, by.legs ∙ ap (legs_from by.entry.time) found ∙ known)
    where
      go : (by : CameBy f me peer journal (suc place) crossing) (turned_at : ℕ) (turned : Entry) → Began f peer me journal turned_at turned by.second.message
          → AreLast f peer me journal turned_at (Arrivals f peer me (take turned_at journal)) (Accepted f peer me (StationLog peer (take turned_at journal)))
          → (legs : Legs) × (legs_from by.entry.time (Some (beginning_of f peer me journal turned_at turned by.second.message)) ≡ Some legs)
      go by turned_at turned began (neither nothing none) =
          absurd (let echo = echo-is f peer me journal turned_at turned by.second.message began ∙ ap echo_of none in
          let nothing = sym by.exchange ∙ ap (option_map (λ echo. record { a1 = echo.sent; b2 = echo.came; b3 = by.second.message.sent; a4 = by.second.at })) echo in cc)
      go by turned_at turned began (both came_at came first held was arrival last) =
          let (sent_at, sent, there, first_began) = honestly peer me came_at came first was in
          let slot = began-slot f me peer journal came_at sent_at sent first.message there first_began in (
            record { sent = sent.time; came = came.time; turned = turned.time; back = by.entry.time },
            ap (λ heard. option_and_then (λ heard. option_map (λ sent. record { sent = sent; came = heard.came; turned = turned.time; back = by.entry.time }) heard.began) heard) arrival
                ∙ ap (λ slot. option_map (λ sent. record { sent = sent; came = came.time; turned = turned.time; back = by.entry.time }) slot) slot,
          )
