-- When a decider stands for what it was offered.
use Rattle.std.specs.Prelude.{◌≡◌, ℕ, List}
use Rattle.ld_base.specs.declared.fields.Fields.{Fields}
use Rattle.sample_store.specs.Calls.{Call, Given, as_a_terminal}
use Rattle.sample_store.specs.Offers.{Offer}
use Rattle.sample_store.specs.Stock as store
use Rattle.trip_logic.specs.Progress as trip
use Rattle.relay_core.specs.declared.decider.Decider.{Decider}

-- its store stands for these calls, and its trip rule for the sets that they gave
pub record Judges (f : Fields) (me : ℕ) (d : Decider) (calls : List Call) : Type 0 where
  pub fields : (d.store.fields ≡ f) × (d.trip.settings ≡ f)
  pub station : d.store.me ≡ me
  pub store : store.StandsFor d.store calls
  pub trip : trip.StandsFor d.trip (Given f me calls)

-- the calls are these offers, each with the question for the set of the value that it put. So the sets given are the judged sets
abbrev pub Decides : Fields → ℕ → Decider → List Offer → Type 0
Decides f me d offers = Judges f me d (as_a_terminal f offers)
