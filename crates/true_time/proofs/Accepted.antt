-- A message that is accepted with an entry: at the stamp of that entry, from the peer, with a number above those before.
use Rattle.std.specs.Prelude.{AllPairs, Contains, nat_le}
use Rattle.std.specs.List.{flat_map}
use Rattle.std.proofs.Common.{◌≡◌, ℕ, suc, ◌+◌, ◌<◌, ◌≤◌, max, Bool, true, false, cond, ◌&&◌, List, [], ◌∷◌, ◌++◌, All, map, take, inl, inr, refl, ap, sym, subst, ◌∙◌, append_assoc, append-nil, arith}
use Rattle.std.proofs.lemmas.Bool.{cases_lt, leb-true}
use Rattle.std.proofs.lemmas.List.Elements.{All-append, All-cons, All-contains, All-nil}
use Rattle.std.proofs.lemmas.List.Quantifiers.{all_pairs_push}
use Rattle.ld_base.specs.Message.{Contents}
use Rattle.ld_base.specs.declared.fields.Fields.{Fields}
use Rattle.pingpong.specs.Journal.{IsJournal}
use Rattle.pingpong.specs.declared.journal.Entry.{Entry}
use Rattle.relay_message.specs.Messages.{added}
use Rattle.relay_core.specs.Accepted.{Accepted, Completed, accepted_among, accepted_of, completed_by, is_addressed, next_number}
use Rattle.relay_core.specs.Decided.{accepted_by}
use Rattle.relay_core.specs.Line.{Messages}
use Rattle.relay_core.specs.Log.{now}
use Rattle.relay_core.specs.declared.call.Call.{Call}
use Rattle.relay_core.specs.declared.receipt.Receipt.{Receipt}
use Rattle.relay_core.proofs.Accepting.{next_number-push}
use Rattle.relay_core.proofs.Calls.{Completed-push, added-is}
use Rattle.sample_store.proofs.Alongs.{along-both, along-push}
use Rattle.sample_store.specs.Along.{along}
use Rattle.line_journal.specs.Crossings.{accepted_with}
use Rattle.relay_core.specs.StationLog.{StationLog, calls_by, stamp_at}
use Rattle.true_time.specs.Places.{WasAccepted, added_with}
use Rattle.true_time.proofs.Alongs.{grown}
use Rattle.true_time.proofs.Elements.{in-turn, none-in}
use Rattle.true_time.proofs.Places.{Accepted-grows, Handed, IsHanded, accepted_with-is, comes-later, handed, now-at}
use Rattle.true_time.proofs.Places.Handed.{quiet, handing}

-- what more elements of a list add is of the kind that each of them adds
rest-all : {A B : Type 0} (adds : List A → List B → A → List B) (P : A → Type 0) (Q : B → Type 0) (each : (before : List A) (added : List B) (x : A) → P x → All Q (adds before added x))
    → (more xs : List A) → All P more → (rest : List B) × (along adds (xs ++ more) ≡ along adds xs ++ rest) × All Q rest
rest-all adds P Q each [] xs all = ([], ap (along adds) (append-nil xs) ∙ sym (append-nil (along adds xs)), All-nil Q)
rest-all adds P Q each (y ∷ more) xs all =
    let (rest, are, they) = rest-all adds P Q each more (xs ++ y ∷ []) (λ k d inside. all (suc k) d (omega (arith, inside))) in (
      adds xs (along adds xs) y ++ rest,
      ap (along adds) (sym (append_assoc xs (y ∷ []) more)) ∙ are ∙ ap (λ bs. bs ++ rest) (along-push adds xs y) ∙ append_assoc (along adds xs) (adds xs (along adds xs) y) rest,
      All-append Q (adds xs (along adds xs) y) rest (each xs (along adds xs) y (all 0 y (omega arith))) they,
    )

-- a message of the peer that came at a time
pub record IsFrom (me peer at : ℕ) (r : Receipt) : Type 0 where
  pub came : r.at ≡ at
  pub addressed : is_addressed peer me r.message ≡ true

accepted-from : (me peer at : ℕ) (accepted : List Receipt) (r : Receipt) → r.at ≡ at → All (IsFrom me peer at) (accepted_of me peer accepted r)
accepted-from me peer at accepted r came = go (is_addressed peer me r.message) (nat_le (next_number accepted) r.message.number) refl
  where
    go : (addressed above : Bool) → is_addressed peer me r.message ≡ addressed → All (IsFrom me peer at) (cond (addressed && above) (r ∷ []) [])
    go true true is = All-cons (IsFrom me peer at) r [] (record { came = came; addressed = is }) (All-nil (IsFrom me peer at))
    go true false is = All-nil (IsFrom me peer at)
    go false above is = All-nil (IsFrom me peer at)

pub accepted-all : (f : Fields) (me peer : ℕ) (log : List Call) (call : Call) → All (IsFrom me peer (now (log ++ call ∷ []))) (accepted_by f me peer log call)
accepted-all f me peer log call =
    let at : ℕ = now (log ++ call ∷ []) in
    let came : All (λ r. r.at ≡ at) (completed_by f peer log call) = came-all at (added (Messages f peer) log (call ∷ [])) in
    let (rest, are, they) = rest-all (λ before accepted r. accepted_of me peer accepted r) (λ r. r.at ≡ at) (IsFrom me peer at) (λ before accepted r is. accepted-from me peer at accepted r is)
    (completed_by f peer log call) (Completed f peer log) came in
    subst (All (IsFrom me peer at)) (sym (added-is (Accepted f me peer) log (call ∷ []) rest (ap (accepted_among me peer) (Completed-push f peer log call) ∙ are))) they
  where
    came-all : (at : ℕ) (ms : List Contents) → All (λ (r : Receipt). r.at ≡ at) (map (λ m. record { message = m; at = at }) ms)
    came-all at [] = All-nil (λ (r : Receipt). r.at ≡ at)
    came-all at (m ∷ ms) = All-cons (λ (r : Receipt). r.at ≡ at) (record { message = m; at = at }) (map (λ m. record { message = m; at = at }) ms) refl (came-all at ms)

-- what is accepted with an entry is accepted with its call
pub accepted-handed : (f : Fields) (me peer : ℕ) (before : List Entry) (entry : Entry) (r : Receipt) → Contains (accepted_with f me peer before entry) r
    → (call : Call) × IsHanded me entry call × Contains (accepted_by f me peer (StationLog me before) call) r
accepted-handed f me peer before entry r has = go (handed me entry)
  where
    go : Handed me entry → (call : Call) × IsHanded me entry call × Contains (accepted_by f me peer (StationLog me before) call) r
    go (quiet nothing) = absurd (none-in r (subst (λ calls. Contains (flat_map (accepted_by f me peer (StationLog me before)) calls) r) nothing has))
    go (handing call is) = (
      call,
      is,
      subst (λ rs. Contains rs r) (append-nil (accepted_by f me peer (StationLog me before) call))
          (subst (λ calls. Contains (flat_map (accepted_by f me peer (StationLog me before)) calls) r) is.calls has),
    )

-- so its stamp is that of the entry
pub accepted-at : (drift : ℕ) (f : Fields) (journal : List Entry) → drift ≤ 1000000 → IsJournal drift journal → (me peer place : ℕ) (entry : Entry) (r : Receipt) → (1 ≤ me) × (me ≤ 3)
    → WasAccepted f me peer journal place entry r → IsFrom me peer (stamp_at me entry) r
accepted-at drift f journal small in_turn me peer place entry r station was =
    let (call, handed, has) = accepted-handed f me peer (take place journal) entry r was.accepted in
    let from = All-contains (IsFrom me peer (now (StationLog me (take place journal) ++ call ∷ []))) (accepted_by f me peer (StationLog me (take place journal)) call) r
    (accepted-all f me peer (StationLog me (take place journal)) call) has in
    record { came = from.came ∙ now-at drift journal small in_turn me place entry call station was.is_at handed; addressed = from.addressed }

-- numbers of accepted messages rise
abbrev pub AreRisingReceipts : List Receipt → Type 0
AreRisingReceipts = AllPairs (λ earlier later. earlier.message.number < later.message.number)

record AreUp (rs : List Receipt) : Type 0 where
  pairs : AreRisingReceipts rs
  below : All (λ r. r.message.number < next_number rs) rs

up-more : (me peer : ℕ) (rs : List Receipt) (r : Receipt) → AreUp rs → AreUp (rs ++ accepted_of me peer rs r)
up-more me peer rs r up = go (is_addressed peer me r.message) (nat_le (next_number rs) r.message.number) refl
  where
    push : next_number rs ≤ r.message.number → AreUp (rs ++ r ∷ [])
    push above =
        let next = next_number-push rs r in
        record {
          pairs = all_pairs_push (λ earlier later. earlier.message.number < later.message.number) rs r up.pairs (λ k d inside. omega (arith, above, up.below k d inside));
          below = subst (λ n. All (λ x. x.message.number < n) (rs ++ r ∷ [])) (sym next)
              (All-append (λ x. x.message.number < max (next_number rs) (r.message.number + 1)) rs (r ∷ []) (λ k d inside. omega (arith, up.below k d inside))
              (All-cons (λ x. x.message.number < max (next_number rs) (r.message.number + 1)) r [] (omega arith) (All-nil (λ x. x.message.number < max (next_number rs) (r.message.number + 1)))));
        }

    go : (addressed above : Bool) → nat_le (next_number rs) r.message.number ≡ above → AreUp (rs ++ cond (addressed && above) (r ∷ []) [])
    go true true is = push (leb-true (next_number rs) r.message.number is)
    go true false is = subst AreUp (sym (append-nil rs)) up
    go false above is = subst AreUp (sym (append-nil rs)) up

pub Accepted-rise : (f : Fields) (me peer : ℕ) (log : List Call) → AreRisingReceipts (Accepted f me peer log)
Accepted-rise f me peer log =
    (along-both (λ before accepted r. accepted_of me peer accepted r) (λ before accepted r. accepted_of me peer accepted r) (λ before rs same. AreUp rs)
    (record { pairs = λ i j d below inside. absurd (omega (arith, inside)); below = All-nil (λ r. r.message.number < 0) })
    (λ before rs same r up. up-more me peer rs r up) (Completed f peer log)).pairs

-- so a message is accepted once
never-twice : (f : Fields) (me peer : ℕ) (journal : List Entry) (i j : ℕ) (one other : Entry) (r : Receipt) → i < j → WasAccepted f me peer journal i one r
    → WasAccepted f me peer journal j other r → ⊥
never-twice f me peer journal i j one other r before was again =
    let with = λ (place : ℕ) (entry : Entry) (is : WasAccepted f me peer journal place entry r).
    subst (λ rs. Contains rs r) (accepted_with-is f me peer (take place journal) entry) is.accepted in
    let earlier = comes-later (Accepted f me peer) (Accepted-grows f me peer) me journal i j one r before was.is_at (with i one was) in
    let all = grown (Accepted f me peer) (Accepted-grows f me peer) (StationLog me (take j journal)) (calls_by me other) in
    let less = in-turn (λ earlier later. earlier.message.number < later.message.number) (Accepted f me peer (StationLog me (take j journal)))
    (added_with (Accepted f me peer) me (take j journal) other) r r
    (subst AreRisingReceipts all (Accepted-rise f me peer (StationLog me (take j journal) ++ calls_by me other))) earlier (with j other again) in
    omega (arith, less)

pub accepted-once : (f : Fields) (me peer : ℕ) (journal : List Entry) (i j : ℕ) (one other : Entry) (r : Receipt) → WasAccepted f me peer journal i one r
    → WasAccepted f me peer journal j other r → i ≡ j
accepted-once f me peer journal i j one other r was again = elim (cases_lt i j) [
  | inl before ↦ absurd (never-twice f me peer journal i j one other r before was again)
  | inr behind ↦ elim (cases_lt j i) [
    | inl after ↦ absurd (never-twice f me peer journal j i other one r after again was)
    | inr same ↦ omega (arith, behind, same)
  ]
]
