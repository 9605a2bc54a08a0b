-- The newest arrival on a line is that of the message accepted last.
use Rattle.std.specs.Prelude.{Contains, reverse, slice_get}
use Rattle.std.proofs.Common.{◌≡◌, ℕ, zero, suc, ◌<◌, List, [], ◌∷◌, ◌++◌, map, Option, None, Some, take, refl, ap, sym, subst, ◌∙◌, append_assoc, append-nil, arith}
use Rattle.std.proofs.lemmas.List.{map-append}
use Rattle.std.proofs.lemmas.List.Elements.{Contains-append_right}
use Rattle.ld_base.specs.declared.fields.Fields.{Fields}
use Rattle.pingpong.specs.declared.journal.Entry.{Entry}
use Rattle.relay_core.specs.Accepted.{Accepted, last_of}
use Rattle.relay_core.specs.declared.receipt.Receipt.{Receipt}
use Rattle.sample_store.specs.Along.{along_from}
use Rattle.line_journal.specs.Crossings.{Arrivals, accepted_with, slot_time}
use Rattle.relay_core.specs.StationLog.{StationLog, calls_by}
use Rattle.line_journal.specs.declared.crossing.Arrival.{Arrival}
use Rattle.line_journal.proofs.Entries.{StationLog-push}
use Rattle.line_journal.proofs.LineLists.{Arrivals-push}
use Rattle.true_time.specs.Places.{IsAt, WasAccepted}
use Rattle.true_time.proofs.Alongs.{grown, take-one, take-past}
use Rattle.true_time.proofs.Elements.{HasLast, first-in, has-last, last-of_more}
use Rattle.true_time.proofs.Elements.HasLast.{is_empty, ends_in}
use Rattle.true_time.proofs.Places.{Accepted-grows, accepted_with-is}

-- when station `me` accepted a message of a peer with an entry, and when that began
abbrev pub arrival_of : Fields → ℕ → ℕ → List Entry → ℕ → Entry → Receipt → Arrival
arrival_of f me peer journal place entry r = record { came = entry.time; began = slot_time f peer me (take place journal) r.message }

-- nothing arrived, or the last arrival is that of the last message accepted
pub data AreLast (f : Fields) (me peer : ℕ) (journal : List Entry) (n : ℕ) (arrivals : List Arrival) (accepted : List Receipt) : Type 0 where
  neither : slice_get (reverse arrivals) 0 ≡ None → last_of accepted ≡ None → AreLast f me peer journal n arrivals accepted
  both : (place : ℕ) (entry : Entry) (r : Receipt) → place < n → WasAccepted f me peer journal place entry r
      → slice_get (reverse arrivals) 0 ≡ Some (arrival_of f me peer journal place entry r) → last_of accepted ≡ Some r → AreLast f me peer journal n arrivals accepted

later-on : (f : Fields) (me peer : ℕ) (journal : List Entry) (n : ℕ) (arrivals : List Arrival) (accepted : List Receipt) → AreLast f me peer journal n arrivals accepted
    → AreLast f me peer journal (suc n) arrivals accepted
later-on f me peer journal n arrivals accepted (neither nothing none) = neither nothing none
later-on f me peer journal n arrivals accepted (both place entry r early was arrival last) = both place entry r (omega (arith, early)) was arrival last

Accepted-push : (f : Fields) (me peer : ℕ) (before : List Entry) (entry : Entry)
    → Accepted f me peer (StationLog me (before ++ entry ∷ [])) ≡ Accepted f me peer (StationLog me before) ++ accepted_with f me peer before entry
Accepted-push f me peer before entry =
    ap (Accepted f me peer) (StationLog-push me before entry) ∙ grown (Accepted f me peer) (Accepted-grows f me peer) (StationLog me before) (calls_by me entry)
    ∙ ap (λ rs. Accepted f me peer (StationLog me before) ++ rs) (sym (accepted_with-is f me peer before entry))

-- one entry more, which brings some messages or none
entry-more : (f : Fields) (me peer : ℕ) (journal : List Entry) (n : ℕ) (entry : Entry) (arrivals : List Arrival) (accepted rs : List Receipt) → IsAt journal n entry
    → accepted_with f me peer (take n journal) entry ≡ rs → HasLast rs → AreLast f me peer journal n arrivals accepted
    → AreLast f me peer journal (suc n) (arrivals ++ map (arrival_of f me peer journal n entry) rs) (accepted ++ rs)
entry-more f me peer journal n entry arrivals accepted rs is_at are (is_empty none) before =
    let same : AreLast f me peer journal (suc n) (arrivals ++ []) (accepted ++ []) =
    subst (λ xs. AreLast f me peer journal (suc n) xs (accepted ++ [])) (sym (append-nil arrivals))
    (subst (λ xs. AreLast f me peer journal (suc n) arrivals xs) (sym (append-nil accepted)) (later-on f me peer journal n arrivals accepted before)) in
    subst (λ rs. AreLast f me peer journal (suc n) (arrivals ++ map (arrival_of f me peer journal n entry) rs) (accepted ++ rs)) (sym none) same
entry-more f me peer journal n entry arrivals accepted rs is_at are (ends_in others r is) before =
    let was : WasAccepted f me peer journal n entry r = record { is_at = is_at; accepted = subst (λ xs. Contains xs r) (sym (are ∙ is)) (Contains-append_right others (r ∷ []) r (first-in r [])) } in
    let newest : slice_get (reverse (arrivals ++ map (arrival_of f me peer journal n entry) (others ++ r ∷ []))) 0 ≡ Some (arrival_of f me peer journal n entry r) =
    ap (λ xs. slice_get (reverse (arrivals ++ xs)) 0) (map-append (arrival_of f me peer journal n entry) others (r ∷ []))
    ∙ ap (λ xs. slice_get (reverse xs) 0) (sym (append_assoc arrivals (map (arrival_of f me peer journal n entry) others) (arrival_of f me peer journal n entry r ∷ [])))
    ∙ last-of_more (arrivals ++ map (arrival_of f me peer journal n entry) others) (arrival_of f me peer journal n entry r) in
    let last_one : last_of (accepted ++ (others ++ r ∷ [])) ≡ Some r =
    ap last_of (sym (append_assoc accepted others (r ∷ []))) ∙ last-of_more (accepted ++ others) r in
    subst (λ rs. AreLast f me peer journal (suc n) (arrivals ++ map (arrival_of f me peer journal n entry) rs) (accepted ++ rs)) (sym is)
    (both n entry r (omega arith) was newest last_one)

pub are-last : (f : Fields) (me peer : ℕ) (journal : List Entry) (n : ℕ) → AreLast f me peer journal n (Arrivals f me peer (take n journal)) (Accepted f me peer (StationLog me (take n journal)))
unfolding along_from
are-last f me peer journal zero = neither refl refl
are-last f me peer journal (suc n) = go (slice_get journal n) refl (are-last f me peer journal n)
  where
    go : (found : Option Entry) → slice_get journal n ≡ found → AreLast f me peer journal n (Arrivals f me peer (take n journal)) (Accepted f me peer (StationLog me (take n journal)))
        → AreLast f me peer journal (suc n) (Arrivals f me peer (take (suc n) journal)) (Accepted f me peer (StationLog me (take (suc n) journal)))
    go None is before =
        subst (λ entries. AreLast f me peer journal (suc n) (Arrivals f me peer entries) (Accepted f me peer (StationLog me entries))) (sym (take-past journal n is))
        (later-on f me peer journal n _ _ before)
    go (Some entry) is before =
        let with = entry-more f me peer journal n entry (Arrivals f me peer (take n journal)) (Accepted f me peer (StationLog me (take n journal)))
        (accepted_with f me peer (take n journal) entry) is refl (has-last (accepted_with f me peer (take n journal) entry)) before in
        subst (λ entries. AreLast f me peer journal (suc n) (Arrivals f me peer entries) (Accepted f me peer (StationLog me entries))) (sym (take-one journal n entry is))
        (subst (λ xs. AreLast f me peer journal (suc n) xs (Accepted f me peer (StationLog me (take n journal ++ entry ∷ [])))) (sym (Arrivals-push f me peer (take n journal) entry))
        (subst (λ xs. AreLast f me peer journal (suc n) (Arrivals f me peer (take n journal) ++ map (arrival_of f me peer journal n entry) (accepted_with f me peer (take n journal) entry)) xs)
        (sym (Accepted-push f me peer (take n journal) entry)) with))
