-- The sets that a terminal is given are the judged sets.
use Rattle.std.proofs.Common.{◌≡◌, ℕ, List, [], ◌∷◌, ◌++◌, Option, Some, None, refl, ap, sym, ◌∙◌, append_assoc, append-nil}
use Rattle.ld_base.specs.declared.fields.Fields.{Fields}
use Rattle.ld_base.specs.declared.phases.SampleSet.{SampleSet}
use Rattle.sample_store.specs.Along.{along_from}
use Rattle.sample_store.specs.Calls.{Call, Offered, Asked, offers_of, given_by, Given, question, as_a_terminal}
use Rattle.sample_store.specs.JudgedSet.{JudgedSet, judged_at, put_by, stamp_of, next_set, given_of, set_of}
use Rattle.sample_store.specs.Offers.{Offer}
use Rattle.sample_store.proofs.Alongs.{along-push, along-both}

pub offers_of-append : (calls more : List Call) → offers_of (calls ++ more) ≡ offers_of calls ++ offers_of more
offers_of-append [] more = refl
offers_of-append (Offered offer ∷ calls) more = ap (λ offers. offer ∷ offers) (offers_of-append calls more)
offers_of-append (Asked now n ∷ calls) more = offers_of-append calls more

pub Given-push : (f : Fields) (me : ℕ) (calls : List Call) (call : Call)
    → Given f me (calls ++ call ∷ []) ≡ Given f me calls ++ given_by f me calls (Given f me calls) call
Given-push f me calls call = along-push (given_by f me) calls call

-- the calls so far are those of these offers, and have given these sets
record AreCalls (f : Fields) (me : ℕ) (offers : List Offer) (calls : List Call) (sets : List SampleSet) : Type 0 where
  pub offers_are : offers_of calls ≡ offers
  pub given_are : Given f me calls ≡ sets

AreCalls-more : (f : Fields) (me : ℕ) (offers : List Offer) (calls : List Call) (sets : List SampleSet) (offer : Offer) (put : Option ℕ)
    → AreCalls f me offers calls sets
    → AreCalls f me (offers ++ offer ∷ []) (calls ++ (Offered offer ∷ question (stamp_of offer) put))
    (sets ++ judged_at f me (offers ++ offer ∷ []) (stamp_of offer) (next_set sets) put)
AreCalls-more f me offers calls sets offer None are = record {
  offers_are = offers_of-append calls (Offered offer ∷ []) ∙ ap (λ xs. xs ++ offer ∷ []) are.offers_are;
  given_are = Given-push f me calls (Offered offer) ∙ ap (λ xs. xs ++ []) are.given_are;
}
AreCalls-more f me offers calls sets offer (Some n) are =
    let first : List Call = calls ++ Offered offer ∷ [] in
    let parts : calls ++ (Offered offer ∷ Asked (stamp_of offer) n ∷ []) ≡ first ++ Asked (stamp_of offer) n ∷ [] = sym (append_assoc calls (Offered offer ∷ []) (Asked (stamp_of offer) n ∷ [])) in
    let offered : offers_of first ≡ offers ++ offer ∷ [] = offers_of-append calls (Offered offer ∷ []) ∙ ap (λ xs. xs ++ offer ∷ []) are.offers_are in
    let given : Given f me first ≡ sets = Given-push f me calls (Offered offer) ∙ append-nil (Given f me calls) ∙ are.given_are in
    record {
      offers_are = ap offers_of parts ∙ offers_of-append first (Asked (stamp_of offer) n ∷ []) ∙ append-nil (offers_of first) ∙ offered;
      given_are =
          ap (Given f me) parts
          ∙ Given-push f me first (Asked (stamp_of offer) n)
          ∙ ap (λ xs. xs ++ given_of f (stamp_of offer) (next_set xs) (set_of f me (offers_of first) n)) given
          ∙ ap (λ xs. sets ++ given_of f (stamp_of offer) (next_set sets) (set_of f me xs n)) offered;
    }

AreCalls-as_a_terminal : (f : Fields) (me : ℕ) (offers : List Offer) → AreCalls f me offers (as_a_terminal f offers) (JudgedSet f me offers)
unfolding along_from
AreCalls-as_a_terminal f me offers =
    along-both
    (λ before calls offer. Offered offer ∷ question (stamp_of offer) (put_by f before offer))
    (λ before judged offer. judged_at f me (before ++ offer ∷ []) (stamp_of offer) (next_set judged) (put_by f before offer))
    (AreCalls f me) (record { offers_are = refl; given_are = refl })
    (λ before calls judged offer are. AreCalls-more f me before calls judged offer (put_by f before offer) are) offers

pub Given-as_a_terminal : (f : Fields) (me : ℕ) (offers : List Offer) → Given f me (as_a_terminal f offers) ≡ JudgedSet f me offers
Given-as_a_terminal f me offers = (AreCalls-as_a_terminal f me offers).given_are

pub offers_of-as_a_terminal : (f : Fields) (offers : List Offer) → offers_of (as_a_terminal f offers) ≡ offers
offers_of-as_a_terminal f offers = (AreCalls-as_a_terminal f 0 offers).offers_are
