-- The calls of a store, and the sets that it gives.
use Rattle.std.specs.Prelude.{ℕ, List, [], ◌∷◌, Option, Some, None}
use Rattle.ld_base.specs.declared.fields.Fields.{Fields}
use Rattle.ld_base.specs.declared.phases.SampleSet.{SampleSet}
use Rattle.sample_store.specs.Along.{along}
use Rattle.sample_store.specs.JudgedSet.{set_of, next_set, given_of, stamp_of, put_by}
use Rattle.sample_store.specs.Offers.{Offer}

-- an offer, or the question at a stamp for the set of a number
pub data Call : Type 0 where
  Offered : Offer → Call
  Asked : ℕ → ℕ → Call

-- the offers among some calls
abbrev pub offers_of : List Call → List Offer
offers_of [] = []
offers_of (Offered offer ∷ calls) = offer ∷ offers_of calls
offers_of (Asked now n ∷ calls) = offers_of calls

abbrev pub given_by : Fields → ℕ → List Call → List SampleSet → Call → List SampleSet
given_by f me before given (Offered offer) = []
given_by f me before given (Asked now n) = given_of f now (next_set given) (set_of f me (offers_of before) n)

-- the sets given
abbrev pub Given : Fields → ℕ → List Call → List SampleSet
Given f me calls = along (given_by f me) calls

-- a question for the number under which a value was put, if one was
abbrev pub question : ℕ → Option ℕ → List Call
question now None = []
question now (Some n) = Asked now n ∷ []

-- the calls of a terminal, which asks for a set right after each value that was put, and at no other time
abbrev pub as_a_terminal : Fields → List Offer → List Call
as_a_terminal f offers = along (λ before calls offer. Offered offer ∷ question (stamp_of offer) (put_by f before offer)) offers
