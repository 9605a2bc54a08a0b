-- Whether a station takes a sample at a tick, by the tick of its next one.
use Rattle.std.proofs.Common.{◌≡◌, ◌≢◌, ℕ, suc, ◌+◌, ◌<◌, ◌≤◌, Bool, List, [], ◌∷◌, ◌++◌, map, sym, ap, ◌∙◌, refl, subst, arith, inl, inr, length, get_or, set, take}
use Rattle.std.specs.Prelude.{◌-◌, ◌⊎◌, nat_lt, if◌then◌else◌, slice_get, slice_index, None}
use Rattle.std.proofs.lemmas.Bool.{cases_eq, false_from_ne_true, lt-ltb, ltb-true}
use Rattle.std.proofs.lemmas.List.{append-nil, get_or-set_other, get_or-set_same, map-append, take_more}
use Rattle.std.proofs.lemmas.Option.{slice_get_read}
use Rattle.ld_base.specs.Settings.{setting_fault}
use Rattle.ld_base.specs.declared.fields.Fields.{Fields}
use Rattle.pingpong.specs.declared.journal.Entry.{Entry}
use Rattle.pingpong.specs.declared.journal.What.{What}
use Rattle.pingpong.specs.declared.journal.What.TheVariants.{Took}
use Rattle.waveform_reader.specs.Scenario.{Setup}
use Rattle.waveform_reader.specs.Shapes.{value_at}
use Rattle.line_world.specs.Occasions.{Occasion, at_tick}
use Rattle.line_journal.specs.Stations.{stations}
use Rattle.line_world.specs.Occasions.Occasion.{sampling}
use Rattle.line_world.specs.Tick.{IsNextSample, IsSample}
use Rattle.line_world.specs.World.{Leads, entry_of, number_of}
use Rattle.line_world.specs.World.Outcome.{nothing}
use Rattle.line_world.proofs.Stationing.{stations-place}

module _ (s : Setup) (station t : ℕ) where
  abbrev taken : Bool → List What
  taken b = if b then Took station (value_at s.settings s.shapes station t) ∷ [] else []

  -- a sample is taken
  pub sample_leads : (old new : List Entry) → IsSample s station t → new ≡ old ++ entry_of s t (Took station (value_at s.settings s.shapes station t)) ∷ []
      → Leads s (at_tick t (sampling station ∷ [])) old new
  sample_leads old new is_sample is_new = record {
    events = record { moment = record { time = t; occasion = sampling station }; outcome = nothing } ∷ [];
    moments = refl;
    journal =
        is_new ∙ ap (λ (b : Bool). old ++ map (entry_of s t) (taken b)) (sym (lt-ltb (number_of s station (t - 1)) (number_of s station t) is_sample));
  }

  -- none is taken
  pub no_sample_leads : (old : List Entry) → (IsSample s station t → ⊥) → Leads s (at_tick t (sampling station ∷ [])) old old
  no_sample_leads old none =
      let test = false_from_ne_true (nat_lt (number_of s station (t - 1)) (number_of s station t))
      (λ is. none (ltb-true (number_of s station (t - 1)) (number_of s station t) is)) in
      record {
        events = record { moment = record { time = t; occasion = sampling station }; outcome = nothing } ∷ [];
        moments = refl;
        journal = sym (append-nil old) ∙ ap (λ (b : Bool). old ++ map (entry_of s t) (taken b)) (sym test);
      }

  module _ (next : ℕ) (is_next : IsNextSample s station t next) where
    pub sample_now : next ≡ t → IsSample s station t
    sample_now now = subst (λ (tick : ℕ). IsSample s station tick) now is_next.sample

    module _ (later : next ≢ t) where
      pub not_now : IsSample s station t → ⊥
      not_now is_sample =
          let early : next ≤ t = is_next.least t (omega arith) is_sample in
          let late = is_next.later in
          later (omega arith)

-- a station in its place among all
pub station_at : (f : Fields) (these : List ℕ) (i station : ℕ) → setting_fault f ≡ None → these ≡ stations f → i < length these → station ≡ get_or these i station
    → station ≡ suc i
station_at f these i station sound all inside is =
    stations-place f sound i station (ap (λ (all : List ℕ). slice_get all i) (sym all) ∙ slice_get_read these (length these) i station refl inside is)

-- the ticks of the next samples, where one of them is changed
module _ (s : Setup) (t i count next : ℕ) (samples : List ℕ) (inside : i < length samples) where
  pub next_done : ((k : ℕ) → k < i → suc k ≤ count → IsNextSample s (suc k) (suc t) (slice_index samples k)) → IsNextSample s (suc i) (suc t) next
      → (k : ℕ) → k < i + 1 → suc k ≤ count → IsNextSample s (suc k) (suc t) (slice_index (set samples i next) k)
  next_done done here k before there = by_place (cases_eq k i)
    where
      by_place : (k ≡ i) ⊎ (k ≡ i → ⊥) → IsNextSample s (suc k) (suc t) (slice_index (set samples i next) k)
      by_place (inl same) =
          subst (λ (j : ℕ). IsNextSample s (suc j) (suc t) (get_or (set samples i next) j 0)) (sym same)
          (subst (λ (tick : ℕ). IsNextSample s (suc i) (suc t) tick) (sym (get_or-set_same samples i next 0 inside)) here)
      by_place (inr apart) =
          subst (λ (tick : ℕ). IsNextSample s (suc k) (suc t) tick) (sym (get_or-set_other samples i k next 0 apart)) (done k (omega arith) there)

  pub next_left : ((k : ℕ) → i ≤ k → suc k ≤ count → IsNextSample s (suc k) t (slice_index samples k))
      → (k : ℕ) → i + 1 ≤ k → suc k ≤ count → IsNextSample s (suc k) t (slice_index (set samples i next) k)
  next_left left k behind there =
      let apart : k ≢ i = omega arith in
      subst (λ (tick : ℕ). IsNextSample s (suc k) t tick) (sym (get_or-set_other samples i k next 0 apart)) (left k (omega arith) there)

-- the moments of some stations, with the next one
pub samplings_more : (t i : ℕ) (these : List ℕ) (station : ℕ) → i < length these → station ≡ get_or these i station
    → at_tick t (map sampling (take (i + 1) these)) ≡ at_tick t (map sampling (take i these)) ++ at_tick t (sampling station ∷ [])
samplings_more t i these station inside is =
    ap (λ (all : List ℕ). at_tick t (map sampling all)) (take_more these i station inside)
    ∙ ap (λ (x : ℕ). at_tick t (map sampling (take i these ++ x ∷ []))) (sym is)
    ∙ ap (λ (all : List Occasion). at_tick t all) (map-append sampling (take i these) (station ∷ []))
    ∙ map-append (λ o. record { time = t; occasion = o }) (map sampling (take i these)) (sampling station ∷ [])
