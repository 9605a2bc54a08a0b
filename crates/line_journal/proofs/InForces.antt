-- The exchange in force with its legs is the newest kept one with its stamps.
use Rattle.std.specs.Prelude.{int_le, ◌==◌, filter, filter_map, find, option_map}
use Rattle.std.specs.List.{flat_map, list_all}
use Rattle.std.specs.Option.{option_and_then, option_to_list}
use Rattle.std.proofs.Common.{◌≡◌, ℕ, Bool, true, false, cond, List, [], ◌∷◌, ◌++◌, map, Option, None, Some, inl, inr, refl, ap, sym, subst, ◌∙◌, append_assoc, append-nil}
use Rattle.std.proofs.lemmas.Bool.{and_parts, cases_Bool, eq-eqb, eqb-true}
use Rattle.std.proofs.lemmas.List.{map-append}
use Rattle.ld_base.specs.declared.fields.Fields.{Fields}
use Rattle.offset_track.specs.InForce.{InForce, is_candidate, kept}
use Rattle.offset_track.proofs.Choices.{find-filter_passes}
use Rattle.offset_track.proofs.Maps.{InForce-map}
use Rattle.pingpong.specs.Exchange.{Stamps, exchange_of, round_trip}
use Rattle.pingpong.specs.declared.journal.Entry.{Entry}
use Rattle.pingpong.specs.declared.journal.What.{What}
use Rattle.pingpong.specs.declared.journal.What.TheVariants.{Came, SendFailed, Slot, TakeFailed, Took}
use Rattle.relay_core.specs.Accepted.{Accepted, Completed, Exchanges, InForceWith, accepted_among, accepted_of, completed_by}
use Rattle.relay_core.specs.Decided.{accepted_by}
use Rattle.relay_core.specs.Log.{now}
use Rattle.relay_core.specs.declared.call.Call.{Call}
use Rattle.relay_core.specs.declared.receipt.Receipt.{Receipt}
use Rattle.relay_core.proofs.Accepting.{Exchanges-push}
use Rattle.relay_core.proofs.Calls.{Completed-push, added-is}
use Rattle.sample_store.specs.Along.{along, along_from}
use Rattle.sample_store.proofs.Alongs.{along-both, along-push}
use Rattle.line_journal.specs.Crossings.{Crossings, accepted_with, crossing_by}
use Rattle.line_journal.specs.LineHistory.{is_same_exchange}
use Rattle.line_journal.specs.Report.{crossing_in_force}
use Rattle.relay_core.specs.StationLog.{StationLog, calls_by, calls_of, stamp_at}
use Rattle.line_journal.specs.declared.crossing.Crossing.{Crossing}
use Rattle.line_journal.proofs.Entries.{StationLog-push}

-- stamps that are the same are one
same-stamps : {a b c d a' b' c' d' : ℕ} → a ≡ a' → b ≡ b' → c ≡ c' → d ≡ d'
    → ◌≡◌ {A = Stamps} (record { a1 = a; b2 = b; b3 = c; a4 = d }) (record { a1 = a'; b2 = b'; b3 = c'; a4 = d' })
same-stamps a1 b2 b3 a4 = cc

is_same_exchange-true : (one other : Stamps) → is_same_exchange one other ≡ true → one ≡ other
is_same_exchange-true one other same =
    let last = and_parts _ _ same in
    let third = and_parts _ _ last.0 in
    let second = and_parts _ _ third.0 in
    same-stamps (eqb-true one.a1 other.a1 second.0) (eqb-true one.b2 other.b2 second.1) (eqb-true one.b3 other.b3 third.1) (eqb-true one.a4 other.a4 last.1)

is_same_exchange-self : (e : Stamps) → is_same_exchange e e ≡ true
is_same_exchange-self e = rw (eq-eqb e.a1 e.a1 refl, eq-eqb e.b2 e.b2 refl, eq-eqb e.b3 e.b3 refl, eq-eqb e.a4 e.a4 refl) refl

-- stamps of which one passes a test and the other fails it differ
differ : (test : Stamps → Bool) (one other : Stamps) → test one ≡ false → test other ≡ true → is_same_exchange one other ≡ false
differ test one other fails passes = elim (cases_Bool (is_same_exchange one other)) [
  | inl same ↦ absurd (let is : one ≡ other = is_same_exchange-true one other same in let both = ap test is in cc)
  | inr apart ↦ apart
]

-- what is found by its stamps among those that pass by them is the first with these stamps
found-same : (test passes : Stamps → Bool) (xs : List Crossing) (c : Crossing)
    → find (λ x. test x.exchange) (filter (λ x. passes x.exchange) xs) ≡ Some c → test c.exchange ≡ true → passes c.exchange ≡ true
    → find (λ x. is_same_exchange x.exchange c.exchange) xs ≡ Some c
found-same test passes [] c found is_test is_passes = absurd (cc)
found-same test passes (x ∷ xs) c found is_test is_passes = elim (cases_Bool (passes x.exchange)) [
  | inl pass ↦
      let here = rw pass at found in
      elim (cases_Bool (test x.exchange)) [
        | inl hit ↦
            let is : x ≡ c = (let same = rw hit at here in cc) in
            subst (λ y. find (λ z. is_same_exchange z.exchange y.exchange) (x ∷ xs) ≡ Some y) is (rw (is_same_exchange-self x.exchange) refl)
        | inr miss ↦ rw (differ test x.exchange c.exchange miss is_test) (found-same test passes xs c (rw miss at here) is_test is_passes)
      ]
  | inr fail ↦ rw (differ passes x.exchange c.exchange fail is_passes) (found-same test passes xs c (rw fail at found) is_test is_passes)
]

-- what is found passes
pub find-passes : {A : Type 0} (test : A → Bool) (xs : List A) (x : A) → find test xs ≡ Some x → test x ≡ true
find-passes test [] x found = absurd (cc)
find-passes test (y ∷ xs) x found = elim (cases_Bool (test y)) [
  | inl hit ↦ (let is : y ≡ x = (let same = rw hit at found in cc) in subst (λ z. test z ≡ true) is hit)
  | inr miss ↦ find-passes test xs x (rw miss at found)
]

-- all that the first elements of a list add stands in front
record Grows {A B : Type 0} (adds : List A → List B → A → List B) (xs ys : List A) : Type 0 where
  more : List B
  are : along adds (xs ++ ys) ≡ along adds xs ++ more

along-grows : {A B : Type 0} (adds : List A → List B → A → List B) (ys xs : List A) → Grows adds xs ys
along-grows adds [] xs = record { more = []; are = ap (along adds) (append-nil xs) ∙ sym (append-nil (along adds xs)) }
along-grows adds (y ∷ ys) xs =
    let rest = along-grows adds ys (xs ++ y ∷ []) in
    record {
      more = adds xs (along adds xs) y ++ rest.more;
      are = ap (along adds) (sym (append_assoc xs (y ∷ []) ys)) ∙ rest.are ∙ ap (λ bs. bs ++ rest.more) (along-push adds xs y)
          ∙ append_assoc (along adds xs) (adds xs (along adds xs) y) rest.more;
    }

-- what is accepted with a call comes behind all that was before
Accepted-added : (f : Fields) (me peer : ℕ) (log : List Call) (call : Call)
    → Accepted f me peer (log ++ call ∷ []) ≡ Accepted f me peer log ++ accepted_by f me peer log call
Accepted-added f me peer log call =
    let grow = along-grows (λ before accepted r. accepted_of me peer accepted r) (completed_by f peer log call) (Completed f peer log) in
    let are = ap (accepted_among me peer) (Completed-push f peer log call) ∙ grow.are in
    are ∙ ap (λ rs. Accepted f me peer log ++ rs) (sym (added-is (Accepted f me peer) log (call ∷ []) grow.more are))

-- an entry is none or one call of a station
calls-if : (b : Bool) (call : Call) → (n : Option Call) × (cond b (call ∷ []) [] ≡ option_to_list n)
calls-if true call = (Some call, refl)
calls-if false call = (None, refl)

calls-few : (me at : ℕ) (what : What) → (n : Option Call) × (calls_of me at what ≡ option_to_list n)
calls-few me at (Took station values) = calls-if (station == me) _
calls-few me at (Slot station first second) = calls-if (station == me) _
calls-few me at (Came station peer bits) = calls-if (station == me) _
calls-few me at (SendFailed station peer) = calls-if (station == me) _
calls-few me at (TakeFailed station peer) = calls-if (station == me) _

-- the exchanges of some receipts
exchanges-of : (f : Fields) (me peer : ℕ) (before : List Entry) (entry : Entry) (rs : List Receipt)
    → map (λ c. c.exchange) (flat_map (crossing_by f me peer before entry) rs) ≡ filter_map (λ r. exchange_of r.message r.at) rs
exchanges-of f me peer before entry [] = refl
exchanges-of f me peer before entry (r ∷ rs) = go (exchange_of r.message r.at) refl (exchanges-of f me peer before entry rs)
  where
    go : (e : Option Stamps) → exchange_of r.message r.at ≡ e
        → map (λ c. c.exchange) (flat_map (crossing_by f me peer before entry) rs) ≡ filter_map (λ r. exchange_of r.message r.at) rs
        → map (λ c. c.exchange) (flat_map (crossing_by f me peer before entry) (r ∷ rs)) ≡ filter_map (λ r. exchange_of r.message r.at) (r ∷ rs)
    go None is rest = rw is rest
    go (Some e) is rest = rw is (ap (λ es. e ∷ es) rest)

exchanges-more : (f : Fields) (me peer : ℕ) (before : List Entry) (entry : Entry) (n : Option Call) → calls_by me entry ≡ option_to_list n
    → Exchanges f me peer (StationLog me (before ++ entry ∷ []))
    ≡ Exchanges f me peer (StationLog me before) ++ filter_map (λ r. exchange_of r.message r.at) (accepted_with f me peer before entry)
exchanges-more f me peer before entry None is =
    ap (Exchanges f me peer) (StationLog-push me before entry ∙ ap (λ calls. StationLog me before ++ calls) is ∙ append-nil (StationLog me before))
    ∙ sym (ap (λ calls. Exchanges f me peer (StationLog me before) ++ filter_map (λ r. exchange_of r.message r.at) (flat_map (accepted_by f me peer (StationLog me before)) calls)) is
    ∙ append-nil (Exchanges f me peer (StationLog me before)))
exchanges-more f me peer before entry (Some call) is =
    ap (Exchanges f me peer) (StationLog-push me before entry ∙ ap (λ calls. StationLog me before ++ calls) is)
    ∙ Exchanges-push f me peer (StationLog me before) call (accepted_by f me peer (StationLog me before) call) (Accepted-added f me peer (StationLog me before) call)
    ∙ ap (λ rs. Exchanges f me peer (StationLog me before) ++ filter_map (λ r. exchange_of r.message r.at) rs)
    (sym (ap (flat_map (accepted_by f me peer (StationLog me before))) is ∙ append-nil (accepted_by f me peer (StationLog me before) call)))

-- the exchanges of the crossings are those of the station's log
exchanges-are : (f : Fields) (me peer : ℕ) (journal : List Entry) → map (λ c. c.exchange) (Crossings f me peer journal) ≡ Exchanges f me peer (StationLog me journal)
unfolding along_from
exchanges-are f me peer journal =
    along-both (λ before so_far entry. flat_map (crossing_by f me peer before entry) (accepted_with f me peer before entry))
    (λ before so_far entry. flat_map (crossing_by f me peer before entry) (accepted_with f me peer before entry))
    (λ before crossings same. map (λ c. c.exchange) crossings ≡ Exchanges f me peer (StationLog me before)) refl
    (λ before crossings same entry are.
    let few = calls-few me (stamp_at me entry) entry.what in
    map-append (λ c. c.exchange) crossings (flat_map (crossing_by f me peer before entry) (accepted_with f me peer before entry))
    ∙ ap (λ es. es ++ map (λ c. c.exchange) (flat_map (crossing_by f me peer before entry) (accepted_with f me peer before entry))) are
    ∙ ap (λ es. Exchanges f me peer (StationLog me before) ++ es) (exchanges-of f me peer before entry (accepted_with f me peer before entry))
    ∙ sym (exchanges-more f me peer before entry few.0 few.1))
    journal

-- the stamps of the crossing in force are in force
crossing-stamps : (f : Fields) (me peer : ℕ) (journal : List Entry)
    → option_map (λ c. c.exchange) (crossing_in_force f me peer journal) ≡ InForceWith f me peer (StationLog me journal)
crossing-stamps f me peer journal =
    let log = StationLog me journal in
    InForce-map (λ (c : Crossing). c.exchange) (λ e. e) f.slow f.age (now log) (Crossings f me peer journal)
    ∙ ap (InForce (λ e. e) f.slow f.age (now log)) (exchanges-are f me peer journal)

-- so it is found by them among those kept
pub crossing-found : (f : Fields) (me peer : ℕ) (journal : List Entry) (newest_first : List Crossing) (chosen : Option Stamps)
    → newest_first ≡ kept (λ crossing. crossing.exchange) f.slow (Crossings f me peer journal) → chosen ≡ InForceWith f me peer (StationLog me journal)
    → crossing_in_force f me peer journal
    ≡ option_map (λ e. record { exchange = e; legs = option_and_then (λ c. c.legs) (find (λ c. is_same_exchange c.exchange e) newest_first) }) chosen
crossing-found f me peer journal newest_first chosen are is = go chosen (crossing_in_force f me peer journal) refl (crossing-stamps f me peer journal ∙ sym is)
  where
    go : (chosen : Option Stamps) (c : Option Crossing) → crossing_in_force f me peer journal ≡ c → option_map (λ c. c.exchange) (crossing_in_force f me peer journal) ≡ chosen
        → crossing_in_force f me peer journal
        ≡ option_map (λ e. record { exchange = e; legs = option_and_then (λ c. c.legs) (find (λ c. is_same_exchange c.exchange e) newest_first) }) chosen
    go None None found stamps = found
    go (Some e) None found stamps = absurd (let none = ap (option_map (λ c. c.exchange)) found in cc)
    go None (Some c) found stamps = absurd (let some = ap (option_map (λ c. c.exchange)) found in cc)
    go (Some e) (Some c) found stamps =
        let newest = kept (λ crossing. crossing.exchange) f.slow (Crossings f me peer journal) in
        let passes : Stamps → Bool = is_candidate f.age (now (StationLog me journal)) in
        let test : Stamps → Bool = λ s. list_all (λ y. int_le (round_trip s) (round_trip y.exchange)) (filter (λ x. passes x.exchange) newest) in
        let is_test = find-passes (λ (x : Crossing). test x.exchange) (filter (λ x. passes x.exchange) newest) c found in
        let is_passes = find-filter_passes (λ (x : Crossing). passes x.exchange) (λ x. test x.exchange) newest c found in
        let here = ap (find (λ x. is_same_exchange x.exchange c.exchange)) are ∙ found-same test passes newest c found is_test is_passes in
        let same : c.exchange ≡ e = (let both = sym (ap (option_map (λ c. c.exchange)) found) ∙ stamps in cc) in
        found
        ∙ ap (λ legs. Some (record { exchange = c.exchange; legs = legs })) (sym (ap (option_and_then (λ c. c.legs)) here))
        ∙ ap (λ e. Some (record { exchange = e; legs = option_and_then (λ c. c.legs) (find (λ c. is_same_exchange c.exchange e) newest_first) })) same
