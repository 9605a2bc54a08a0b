-- What a call brings to a terminal: an own sample, values of a peer, and a set to judge.
use Rattle.std.specs.Prelude.{Contains, map}
use Rattle.std.specs.Option.{option_to_list}
use Rattle.std.proofs.Common.{◌≡◌, ℕ, ◌+◌, ◌*◌, ◌<◌, ◌≤◌, ◌⊎◌, pos, List, [], ◌∷◌, ◌++◌, Some, drop, length, inl, inr, refl, ap, sym, subst, ◌∙◌, append_assoc, arith}
use Rattle.std.proofs.lemmas.List.Elements.{All-contains}
use Rattle.ld_base.specs.declared.fields.Fields.{Fields}
use Rattle.ld_base.specs.declared.phases.Phases.{Phases}
use Rattle.ld_base.specs.declared.phases.SampleSet.{SampleSet}
use Rattle.offset_track.specs.Track.{Chosen}
use Rattle.pingpong.specs.Exchange.{Stamps, estimate2}
use Rattle.relay_message.specs.Messages.{added}
use Rattle.sample_store.specs.Aligned.{Aligned}
use Rattle.sample_store.specs.Along.{along}
use Rattle.sample_store.specs.JudgedSet.{judged_at, next_set, put_by}
use Rattle.sample_store.specs.JudgedSet as judged
use Rattle.sample_store.specs.Offers.{Offer, Own, Value, Placed, Taken, placed_by, taken_by}
use Rattle.sample_store.specs.declared.ring.Numbered.{Numbered}
use Rattle.sample_store.proofs.Alongs.{along-push}
use Rattle.relay_core.specs.Accepted.{InForceWith}
use Rattle.relay_core.specs.Decided.{JudgedSets, Offers, accepted_by, offered_by, values_of}
use Rattle.relay_core.specs.Log.{now}
use Rattle.relay_core.specs.declared.call.Call.{Call}
use Rattle.relay_core.specs.declared.call.Call.TheVariants as made
use Rattle.relay_core.specs.declared.receipt.Receipt.{Receipt}
use Rattle.waveform_reader.specs.Sound.{IsStation}
use Rattle.line_journal.specs.Stations.{ArePair}
use Rattle.true_time.specs.Places.{PlacedIn, TakenIn, part_of, value_of}
use Rattle.true_time.proofs.Accepted.{IsFrom, accepted-all}
use Rattle.true_time.proofs.Additions.{AddedBy, added-by, added-stays, element-in}
use Rattle.true_time.proofs.Elements.{in-flat_map, in-mapped, none-in, one-in, option-in}
use Rattle.true_time.proofs.Offered.{IsPlacedBy, IsTakenAt, IsWhole, judged-whole, own-part, peers-part, placed-by, taken-by}

Offers-push : (f : Fields) (me : ℕ) (log : List Call) (call : Call) → Offers f me (log ++ call ∷ []) ≡ Offers f me log ++ offered_by f me log call
Offers-push f me log call = along-push (λ before offers call. offered_by f me before call) log call

-- what a call adds to something that is made of the offers comes from one of its own
offer-of : {A : Type 0} (adds : List Offer → List A → Offer → List A) (f : Fields) (me : ℕ) (log : List Call) (call : Call) (x : A)
    → Contains (added (λ calls. along adds (Offers f me calls)) log (call ∷ [])) x → AddedBy adds (Offers f me log) (offered_by f me log call) x
offer-of adds f me log call x has =
    added-by adds (Offers f me log) (offered_by f me log call) x
    (subst (λ offers. Contains (drop (length (along adds (Offers f me log))) (along adds offers)) x) (Offers-push f me log call) has)

-- an own sample is offered at the terminal's time
record IsOwnOffer (log : List Call) (call : Call) (offer : Offer) : Type 0 where
  at : ℕ
  values : Phases
  call_is : call ≡ made.Sample at values
  is : offer ≡ Own (now (log ++ call ∷ [])) values

-- and the values of a message that is accepted with a call, by the exchange in force then
record IsPeersOffer (f : Fields) (me : ℕ) (log : List Call) (call : Call) (offer : Offer) : Type 0 where
  peer : ℕ
  receipt : Receipt
  exchange : Stamps
  accepted : Contains (accepted_by f me peer log call) receipt
  in_force : InForceWith f me peer (log ++ call ∷ []) ≡ Some exchange
  is : offer ≡ values_of peer receipt exchange

offered : (f : Fields) (me : ℕ) (log : List Call) (call : Call) (offer : Offer) → Contains (offered_by f me log call) offer
    → IsOwnOffer log call offer ⊎ IsPeersOffer f me log call offer
offered f me log (made.Sample at values) offer has =
    inl (record { at = at; values = values; call_is = refl; is = sym (one-in (Own (now (log ++ made.Sample at values ∷ [])) values) offer has) })
offered f me log (made.Slot at) offer has = absurd (none-in offer has)
offered f me log (made.Fault at peer) offer has = absurd (none-in offer has)
offered f me log (made.Bits at peer bits) offer has =
    let chosen = InForceWith f me peer (log ++ made.Bits at peer bits ∷ []) in
    let (receipt, accepted, brings) = in-flat_map (λ r. map (values_of peer r) (option_to_list chosen)) (accepted_by f me peer log (made.Bits at peer bits)) offer has in
    let (exchange, in_force, is) = in-mapped (values_of peer receipt) (option_to_list chosen) offer brings in
    inr (record { peer = peer; receipt = receipt; exchange = exchange; accepted = accepted; in_force = option-in chosen exchange in_force; is = sym is })

-- each at the terminal's time
offer-time : (f : Fields) (me : ℕ) (log : List Call) (call : Call) (offer : Offer) → IsOwnOffer log call offer ⊎ IsPeersOffer f me log call offer
    → judged.stamp_of offer ≡ now (log ++ call ∷ [])
offer-time f me log call offer (inl own) = ap judged.stamp_of own.is
offer-time f me log call offer (inr value) =
    let from = All-contains (IsFrom me value.peer (now (log ++ call ∷ []))) (accepted_by f me value.peer log call) value.receipt (accepted-all f me value.peer log call) value.accepted in
    ap judged.stamp_of value.is ∙ from.came

-- an own sample that is taken with a call, at its number's multiple of the spacing or a tick later
pub record IsTakenWith (f : Fields) (log : List Call) (call : Call) (sample : Numbered) : Type 0 where
  pub at : ℕ
  pub call_is : call ≡ made.Sample at sample.values
  pub since : sample.number * f.spacing ≤ now (log ++ call ∷ [])
  pub until : now (log ++ call ∷ []) ≤ sample.number * f.spacing + 1

own-taken : (f : Fields) (log : List Call) (call : Call) (offer : Offer) (sample : Numbered) → IsTakenAt f.spacing offer sample → IsOwnOffer log call offer
    → IsTakenWith f log call sample
own-taken f log call offer sample taken own =
    let same : Own taken.at sample.values ≡ Own (now (log ++ call ∷ [])) own.values = sym taken.offered ∙ own.is in
    let time : taken.at ≡ now (log ++ call ∷ []) = cc in
    let values : own.values ≡ sample.values = cc in
    record {
      at = own.at;
      call_is = own.call_is ∙ ap (made.Sample own.at) values;
      since = subst (λ t. sample.number * f.spacing ≤ t) time taken.since;
      until = subst (λ t. t ≤ sample.number * f.spacing + 1) time taken.until;
    }

value-taken : (f : Fields) (me : ℕ) (log : List Call) (call : Call) (offer : Offer) (sample : Numbered) → IsTakenAt f.spacing offer sample → IsPeersOffer f me log call offer → ⊥
value-taken f me log call offer sample taken value = let same = sym taken.offered ∙ value.is in cc

pub taken-with : (f : Fields) (me : ℕ) (log : List Call) (call : Call) (sample : Numbered) → Contains (added (TakenIn f me) log (call ∷ [])) sample → IsTakenWith f log call sample
taken-with f me log call sample has =
    let by = offer-of (λ before taken offer. taken_by f.spacing taken offer) f me log call sample has in
    let taken = taken-by f.spacing (Taken f.spacing (Offers f me log ++ by.first)) by.element sample by.brought in
    let inside = element-in (λ before taken offer. taken_by f.spacing taken offer) (Offers f me log) (offered_by f me log call) sample by in
    elim (offered f me log call by.element inside) [
      | inl own ↦ own-taken f log call by.element sample taken own
      | inr value ↦ absurd (value-taken f me log call by.element sample taken value)
    ]

-- a peer's value that is placed with a call: of a message that is accepted with it, by the exchange in force then
pub record IsPlacedWith (f : Fields) (me peer : ℕ) (log : List Call) (call : Call) (value : Numbered) : Type 0 where
  pub receipt : Receipt
  pub exchange : Stamps
  pub accepted : Contains (accepted_by f me peer log call) receipt
  pub in_force : InForceWith f me peer (log ++ call ∷ []) ≡ Some exchange
  pub aligned : Aligned f.spacing receipt.message.number (estimate2 exchange) ≡ pos value.number
  pub values : receipt.message.phases ≡ value.values

own-placed : (f : Fields) (peer : ℕ) (log : List Call) (call : Call) (offer : Offer) (value : Numbered) → IsPlacedBy f.spacing peer offer value → IsOwnOffer log call offer → ⊥
own-placed f peer log call offer value placed own = let same = sym placed.offered ∙ own.is in cc

value-placed : (f : Fields) (me peer : ℕ) (log : List Call) (call : Call) (offer : Offer) (value : Numbered) → IsPlacedBy f.spacing peer offer value
    → IsPeersOffer f me log call offer → IsPlacedWith f me peer log call value
value-placed f me peer log call offer value placed theirs =
    let same : Value placed.fresh peer placed.number value.values ≡ values_of theirs.peer theirs.receipt theirs.exchange = sym placed.offered ∙ theirs.is in
    let who : theirs.peer ≡ peer = cc in
    let fresh : record { exchange = theirs.exchange; at = theirs.receipt.at } ≡ placed.fresh = cc in
    let number : theirs.receipt.message.number ≡ placed.number = cc in
    let phases : theirs.receipt.message.phases ≡ value.values = cc in
    record {
      receipt = theirs.receipt;
      exchange = theirs.exchange;
      accepted = subst (λ p. Contains (accepted_by f me p log call) theirs.receipt) who theirs.accepted;
      in_force = subst (λ p. InForceWith f me p (log ++ call ∷ []) ≡ Some theirs.exchange) who theirs.in_force;
      aligned =
          ap (λ n. Aligned f.spacing n (estimate2 theirs.exchange)) number
          ∙ ap (λ (c : Chosen). Aligned f.spacing placed.number (estimate2 c.exchange)) fresh
          ∙ placed.aligned;
      values = phases;
    }

pub placed-with : (f : Fields) (me peer : ℕ) (log : List Call) (call : Call) (value : Numbered) → Contains (added (PlacedIn f me peer) log (call ∷ [])) value
    → IsPlacedWith f me peer log call value
placed-with f me peer log call value has =
    let by = offer-of (λ before placed offer. placed_by f.spacing f.limit peer placed offer) f me log call value has in
    let placed = placed-by f.spacing f.limit peer (Placed f.spacing f.limit peer (Offers f me log ++ by.first)) by.element value by.brought in
    let inside = element-in (λ before placed offer. placed_by f.spacing f.limit peer placed offer) (Offers f me log) (offered_by f me log call) value by in
    elim (offered f me log call by.element inside) [
      | inl own ↦ absurd (own-placed f peer log call by.element value placed own)
      | inr theirs ↦ value-placed f me peer log call by.element value placed theirs
    ]

-- a set that is judged with a call is younger than the limit, and all its parts stand under its number by then
pub record IsJudgedWith (f : Fields) (me : ℕ) (log : List Call) (call : Call) (set : SampleSet) : Type 0 where
  pub young : now (log ++ call ∷ []) < set.number * f.spacing + f.limit
  pub own : Contains (TakenIn f me (log ++ call ∷ [])) (part_of set me)
  pub peers : (peer : ℕ) → ArePair f.stations me peer → Contains (PlacedIn f me peer (log ++ call ∷ [])) (part_of set peer)

pub judged-with : (f : Fields) (me : ℕ) (log : List Call) (call : Call) (set : SampleSet) → f.stations ≤ 3 → IsStation f.stations me
    → Contains (added (JudgedSets f me) log (call ∷ [])) set → IsJudgedWith f me log call set
judged-with f me log call set few station has = record {
  young = subst (λ t. t < set.number * f.spacing + f.limit) (offer-time f me log call by.element (offered f me log call by.element inside)) whole.young;
  own = subst (λ offers. Contains (Taken f.spacing offers) (part_of set me)) all
      (added-stays (λ before taken offer. taken_by f.spacing taken offer) then by.rest (part_of set me)
      (own-part f me then set.number (value_of set me) station.1 (whole.parts me station.0 (omega (arith, few, station.1)))));
  peers = λ peer pair. subst (λ offers. Contains (Placed f.spacing f.limit peer offers) (part_of set peer)) all
      (added-stays (λ before placed offer. placed_by f.spacing f.limit peer placed offer) then by.rest (part_of set peer)
      (peers-part f me peer then set.number (value_of set peer) pair.other_there.1 (λ same. pair.differ (sym same))
      (whole.parts peer pair.other_there.0 (omega (arith, few, pair.other_there.1)))));
}
  where
    adds : List Offer → List SampleSet → Offer → List SampleSet
    adds before sets offer = judged_at f me (before ++ offer ∷ []) (judged.stamp_of offer) (next_set sets) (put_by f before offer)

    by : AddedBy adds (Offers f me log) (offered_by f me log call) set
    by = offer-of adds f me log call set has

    inside : Contains (offered_by f me log call) by.element
    inside = element-in adds (Offers f me log) (offered_by f me log call) set by

    then : List Offer
    then = (Offers f me log ++ by.first) ++ by.element ∷ []

    all : then ++ by.rest ≡ Offers f me (log ++ call ∷ [])
    all =
        append_assoc (Offers f me log ++ by.first) (by.element ∷ []) by.rest
        ∙ append_assoc (Offers f me log) by.first (by.element ∷ by.rest)
        ∙ ap (λ offers. Offers f me log ++ offers) (sym by.are)
        ∙ sym (Offers-push f me log call)

    whole : IsWhole f me then (judged.stamp_of by.element) set
    whole =
        judged-whole f me then (judged.stamp_of by.element) (next_set (along adds (Offers f me log ++ by.first))) (put_by f (Offers f me log ++ by.first) by.element) set by.brought
