-- A decider with some more calls of its store.
use Rattle.std.specs.Prelude.{ℤ, map}
use Rattle.std.proofs.Common.{◌≡◌, ℕ, ◌+◌, ◌≤◌, List, [], ◌∷◌, ◌++◌, None, length, drop, reverse, slice_get, ap, sym, ◌∙◌, subst, append_assoc, arith}
use Rattle.std.proofs.Math.Dec.{ltb}
use Rattle.std.proofs.lemmas.Bool.{cond-true, lt-ltb}
use Rattle.ld_base.specs.declared.fields.Fields.{Fields}
use Rattle.ld_base.specs.declared.phases.SampleSet.{SampleSet}
use Rattle.sample_store.specs.Aligned.{Aligned}
use Rattle.sample_store.specs.Answers.{own_answer, place_answer}
use Rattle.sample_store.specs.Calls.{Call, Offered, Given, offers_of, question, as_a_terminal}
use Rattle.sample_store.specs.JudgedSet.{JudgedSet, put_by, stamp_of}
use Rattle.sample_store.specs.Offers.{Offer, Placed, Taken, next_number, numbered}
use Rattle.sample_store.specs.Stock as store
use Rattle.sample_store.proofs.Alongs.{along-push}
use Rattle.sample_store.proofs.JudgedSets.{Given-as_a_terminal, offers_of-as_a_terminal}
use Rattle.sample_store.proofs.Owns.{Given-offered}
use Rattle.trip_logic.specs.Cause.{cause}
use Rattle.trip_logic.specs.Progress as trip
use Rattle.relay_core.specs.Answers.{judgement, judgements}
use Rattle.relay_core.specs.Decides.{Decides, Judges}
use Rattle.relay_core.specs.declared.answers.Judged.{Judged}
use Rattle.relay_core.specs.declared.decider.Decider.{Decider}

-- the store stands for some calls more, and the trip rule for the sets with those that they gave
pub Judges-more : (f : Fields) (me : ℕ) (old new : Decider) (calls more : List Call) (sets : List SampleSet)
    → (new.store.fields ≡ old.store.fields) × (new.store.me ≡ old.store.me) → new.trip.settings ≡ old.trip.settings
    → store.StandsFor new.store (calls ++ more) → Given f me (calls ++ more) ≡ sets → trip.StandsFor new.trip sets
    → Judges f me old calls → Judges f me new (calls ++ more)
Judges-more f me old new calls more sets same settings stands given judged judges = record {
  fields = (same.0 ∙ judges.fields.0, settings ∙ judges.fields.1);
  station = same.1 ∙ judges.station;
  store = stands;
  trip = subst (λ sets. trip.StandsFor new.trip sets) (sym given) judged;
}

-- an offer more is the offer itself, and the question for the set of the value that it put
as_a_terminal-push : (f : Fields) (offers : List Offer) (offer : Offer)
    → as_a_terminal f (offers ++ offer ∷ []) ≡ (as_a_terminal f offers ++ Offered offer ∷ []) ++ question (stamp_of offer) (put_by f offers offer)
as_a_terminal-push f offers offer =
    along-push (λ before calls offer. Offered offer ∷ question (stamp_of offer) (put_by f before offer)) offers offer
    ∙ sym (append_assoc (as_a_terminal f offers) (Offered offer ∷ []) (question (stamp_of offer) (put_by f offers offer)))

-- so what is judged with the offer is what is judged with the question
judgements-offered : (f : Fields) (me : ℕ) (offers : List Offer) (offer : Offer) (asked : List Call)
    → asked ≡ question (stamp_of offer) (put_by f offers offer)
    → judgements f (JudgedSet f me) offers (offer ∷ []) ≡ judgements f (Given f me) (as_a_terminal f offers ++ Offered offer ∷ []) asked
judgements-offered f me offers offer asked same =
    let calls : List Call = as_a_terminal f offers ++ Offered offer ∷ [] in
    let before : JudgedSet f me offers ≡ Given f me calls = sym (Given-offered f me (as_a_terminal f offers) offer ∙ Given-as_a_terminal f me offers) in
    let after : JudgedSet f me (offers ++ offer ∷ []) ≡ Given f me (calls ++ asked) =
    sym (Given-as_a_terminal f me (offers ++ offer ∷ [])) ∙ ap (Given f me) (as_a_terminal-push f offers offer ∙ ap (λ more. calls ++ more) (sym same)) in
    ap (λ sets. map (judgement f sets) (drop (length (JudgedSet f me offers)) sets)) after
    ∙ ap (λ sets. map (judgement f (Given f me (calls ++ asked))) (drop (length sets) (Given f me (calls ++ asked)))) before

-- what is judged with an offer more, and what the decider stands for then
pub record DecidesMore (f : Fields) (me : ℕ) (new : Decider) (offers : List Offer) (offer : Offer) (judged : List Judged) : Type 0 where
  pub judged_are : judgements f (JudgedSet f me) offers (offer ∷ []) ≡ judged
  pub decides : Decides f me new (offers ++ offer ∷ [])

-- the store takes the offer, and then what was asked is judged
pub DecidesMore-offered : (f : Fields) (me : ℕ) (old taking new : Decider) (offers : List Offer) (offer : Offer) (asked : List Call) (judged : List Judged)
    → (taking.store.fields ≡ old.store.fields) × (taking.store.me ≡ old.store.me) → taking.trip ≡ old.trip
    → store.StandsFor taking.store (as_a_terminal f offers ++ Offered offer ∷ [])
    → asked ≡ question (stamp_of offer) (put_by f offers offer)
    → ((calls : List Call) → Judges f me taking calls → judgements f (Given f me) calls asked ≡ judged)
    → ((calls : List Call) → Judges f me taking calls → Judges f me new (calls ++ asked))
    → Decides f me old offers → DecidesMore f me new offers offer judged
DecidesMore-offered f me old taking new offers offer asked judged same trip_same stands same_asked are_judged judges decides =
    let calls = as_a_terminal f offers in
    let trip_stands = subst (λ rule. trip.StandsFor rule (Given f me calls)) (sym trip_same) decides.trip in
    let taken = Judges-more f me old taking calls (Offered offer ∷ []) (Given f me calls) same (ap (λ rule. rule.settings) trip_same) stands
    (Given-offered f me calls offer) trip_stands decides in
    record {
      judged_are = judgements-offered f me offers offer asked same_asked ∙ are_judged (calls ++ Offered offer ∷ []) taken;
      decides =
          subst (Judges f me new) (ap (λ more. (calls ++ Offered offer ∷ []) ++ more) same_asked ∙ sym (as_a_terminal-push f offers offer))
          (judges (calls ++ Offered offer ∷ []) taken);
    }

-- what a store answers to an own sample, over all offers
pub own_answer-over_all : (f : Fields) (me : ℕ) (d : Decider) (offers : List Offer) (now : ℕ) → Decides f me d offers
    → own_answer d.store.fields.spacing d.store.own_next now ≡ own_answer f.spacing (next_number (Taken f.spacing offers)) now
own_answer-over_all f me d offers now decides =
    ap (λ next. own_answer d.store.fields.spacing next now) decides.store.own_next
    ∙ ap (λ (g : Fields). own_answer g.spacing (next_number (Taken g.spacing (offers_of (as_a_terminal f offers)))) now) decides.fields.0
    ∙ ap (λ xs. own_answer f.spacing (next_number (Taken f.spacing xs)) now) (offers_of-as_a_terminal f offers)

-- and to a peer's value
pub place_answer-over_all : (f : Fields) (me : ℕ) (d : Decider) (offers : List Offer) (peer now : ℕ) (number : ℕ) (estimate2 : ℤ) → Decides f me d offers
    → place_answer d.store.fields.spacing d.store.fields.limit now
    (λ n. numbered n (Placed d.store.fields.spacing d.store.fields.limit peer (offers_of (as_a_terminal f offers)))) (Aligned d.store.fields.spacing number estimate2)
    ≡ place_answer f.spacing f.limit now (λ n. numbered n (Placed f.spacing f.limit peer offers)) (Aligned f.spacing number estimate2)
place_answer-over_all f me d offers peer now number estimate2 decides =
    ap (λ (g : Fields). place_answer g.spacing g.limit now (λ n. numbered n (Placed g.spacing g.limit peer (offers_of (as_a_terminal f offers)))) (Aligned g.spacing number estimate2))
    decides.fields.0
    ∙ ap (λ xs. place_answer f.spacing f.limit now (λ n. numbered n (Placed f.spacing f.limit peer xs)) (Aligned f.spacing number estimate2))
    (offers_of-as_a_terminal f offers)

-- the last set judged may have led to a trip
pub cause-last : (f : Fields) (judged : List SampleSet) → 1 ≤ f.count → cause f judged 0 ≡ slice_get (reverse judged) 0
cause-last f judged some = cond-true (ltb 0 (f.cycle + f.count)) (slice_get (reverse judged) 0) None (lt-ltb 0 (f.cycle + f.count) (omega (arith, some)))
