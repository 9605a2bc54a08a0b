-- What records keep that are read without a fault.
use Rattle.std.proofs.Common.{◌≡◌, ◌∙◌, refl, ap, arith, ℕ, ◌-◌, ◌<◌, ◌≤◌, Bool, true, false, ◌&&◌, ◌||◌, nat_lt, List, [], ◌∷◌, ◌++◌, map, length, Some, None, Result, Ok, Err, if◌then◌else◌, ◌==◌, length-append}
use Rattle.std.specs.Prelude.{count_by, All, filter, unwrap_or}
use Rattle.std.specs.List.{list_any}
use Rattle.std.specs.List.Sorted.{IsNonDecreasingBy}
use Rattle.std.proofs.lemmas.Bool.Decides.{nat_tests}
use Rattle.std.proofs.lemmas.List.{append-nil, map-append, length-map}
use Rattle.std.proofs.lemmas.List.Elements.{All-cons, All-nil, All-push, filter-append}
use Rattle.std.proofs.lemmas.List.Sorted.{IsNonDecreasingBy-push}
use Rattle.std.proofs.lemmas.List.Sums.{length-filter}
use Rattle.ld_base.specs.declared.fields.Fields.{Fields}
use Rattle.ld_base.specs.declared.reason.Reason.{Reason}
use Rattle.ld_base.specs.declared.reason.Reason.TheVariants as reason
use Rattle.row_reader.specs.Rows.{Row}
use Rattle.waveform_reader.specs.Draft.{Draft, is_astray, is_out_of_order, is_too_many, no_records, record_fault, row_fault, row_says, said_fault, with_record, with_row, with_said}
use Rattle.row_reader.specs.RowFields.{name_of}
use Rattle.setting_rows.specs.Head.{set_fault}
use Rattle.setting_rows.specs.Keys.{is_remark, is_set}
use Rattle.setting_rows.specs.declared.setting.Known.TheVariants as known
use Rattle.waveform_reader.specs.Scenario.{rates_of}
use Rattle.waveform_reader.specs.Sound.{IsDraft, IsRating, IsSaid, IsStart}
use Rattle.waveform_reader.specs.declared.record.Rating.{Rating}
use Rattle.setting_rows.specs.declared.setting.Setting.{Setting}
use Rattle.waveform_reader.specs.declared.record.Record.{Record}
use Rattle.waveform_reader.specs.declared.record.Record.TheVariants as entry
use Rattle.waveform_reader.proofs.PlanKept.{nothing_planned, with-rule, with-shape}
use Rattle.waveform_reader.proofs.SaidKept.{said-row}

-- the rates of a station, and one rate more
rates_of-more : (rates : List Rating) (rating : Rating) (station : ℕ)
    → rates_of (rates ++ rating ∷ []) station ≡ (if rating.station == station then rates_of rates station ++ rating.rate ∷ [] else rates_of rates station)
rates_of-more rates rating station = by (rating.station == station) refl
  where
    own : Rating → Bool
    own r = r.station == station

    both : rates_of (rates ++ rating ∷ []) station ≡ rates_of rates station ++ rates_of (rating ∷ []) station
    both = ap (map (λ (r : Rating). r.rate)) (filter-append (λ (r : Rating). r.station == station) rates (rating ∷ []))
        ∙ map-append (λ (r : Rating). r.rate)
        (filter (λ (r : Rating). r.station == station) rates) (filter (λ (r : Rating). r.station == station) (rating ∷ []))

    by : (b : Bool) → (rating.station == station) ≡ b
        → rates_of (rates ++ rating ∷ []) station ≡ (if b then rates_of rates station ++ rating.rate ∷ [] else rates_of rates station)
    by true e = both ∙ rw e refl
    by false e = both ∙ rw e (append-nil (rates_of rates station))

-- where no rate of the station begins later, all begin by that tick
none_later : (rates : List Rating) (station from : ℕ) → list_any (λ earlier. (earlier.station == station) && nat_lt from earlier.rate.from) rates ≡ false
    → All (λ r. r.from ≤ from) (rates_of rates station)
none_later [] station from none = All-nil (λ r. r.from ≤ from)
none_later (r ∷ rates) station from none = by (r.station == station) (nat_lt from r.rate.from) refl refl none (none_later rates station from)
  where
    by : (b later : Bool) → (r.station == station) ≡ b → nat_lt from r.rate.from ≡ later
        → ((b && later) || list_any (λ earlier. (earlier.station == station) && nat_lt from earlier.rate.from) rates) ≡ false
        → (list_any (λ earlier. (earlier.station == station) && nat_lt from earlier.rate.from) rates ≡ false → All (λ r. r.from ≤ from) (rates_of rates station))
        → All (λ r. r.from ≤ from) (rates_of (r ∷ rates) station)
    by true true e l found rest = cc
    by true false e l found rest = rw e (All-cons (λ r. r.from ≤ from) r.rate (rates_of rates station) (grind (arith, nat_tests)) (rest found))
    by false true e l found rest = rw e (rest found)
    by false false e l found rest = rw e (rest found)

-- there are as many rates of a station as are counted
length-rates_of : (rates : List Rating) (station : ℕ) → length (rates_of rates station) ≡ count_by (λ earlier. earlier.station == station) rates
length-rates_of rates station =
    length-map (filter (λ (r : Rating). r.station == station) rates) (λ (r : Rating). r.rate) ∙ length-filter (λ (r : Rating). r.station == station) rates

-- the tests of a record that breaks no rule all fail
no_fault : (many astray early : Bool) → (if many then Some reason.Range else if astray then Some reason.Station else if early then Some reason.Order else None) ≡ None
    → (many ≡ false) × (astray ≡ false) × (early ≡ false)
no_fault true astray early e = cc
no_fault false true early e = cc
no_fault false false true e = cc
no_fault false false false e = (refl, refl, refl)

good_record : (stations : ℕ) (draft : Draft) (said : Record) → record_fault stations draft said ≡ None
    → (is_too_many draft said ≡ false) × (is_astray stations said ≡ false) × (is_out_of_order draft said ≡ false)
good_record stations draft said good = no_fault (is_too_many draft said) (is_astray stations said) (is_out_of_order draft said) good

-- one good rate more
with-rate : (f : Fields) (draft : Draft) (rating : Rating) → IsDraft f draft → IsRating f.stations f.drift rating
    → is_too_many draft (entry.Rate rating) ≡ false → is_out_of_order draft (entry.Rate rating) ≡ false → IsDraft f (with_record draft (entry.Rate rating))
with-rate f draft rating kept good few early = record {
  starts = kept.starts;
  rates = All-push (IsRating f.stations f.drift) draft.rates rating kept.rates good;
  few = λ station. rw (rates_of-more draft.rates rating station) (count station (rating.station == station) refl);
  in_turn = λ station. rw (rates_of-more draft.rates rating station) (turn station (rating.station == station) refl);
  plan = kept.plan;
}
  where
    below : count_by (λ earlier. earlier.station == rating.station) draft.rates < 16
    below = grind (arith, nat_tests)

    count : (station : ℕ) (b : Bool) → (rating.station == station) ≡ b → length (if b then rates_of draft.rates station ++ rating.rate ∷ [] else rates_of draft.rates station) ≤ 16
    count station false e = kept.few station
    count station true e =
        let same : rating.station ≡ station = grind (arith, nat_tests) in
        let less : count_by (λ earlier. earlier.station == station) draft.rates < 16 = rw same at below in
        omega (arith, length-append (rates_of draft.rates station) (rating.rate ∷ []), length-rates_of draft.rates station, less)

    turn : (station : ℕ) (b : Bool) → (rating.station == station) ≡ b
        → IsNonDecreasingBy (λ r. r.from) (if b then rates_of draft.rates station ++ rating.rate ∷ [] else rates_of draft.rates station)
    turn station false e = kept.in_turn station
    turn station true e =
        let same : rating.station ≡ station = grind (arith, nat_tests) in
        let none : list_any (λ earlier. (earlier.station == station) && nat_lt rating.rate.from earlier.rate.from) draft.rates ≡ false = rw same at early in
        IsNonDecreasingBy-push (λ r. r.from) (rates_of draft.rates station) rating.rate (kept.in_turn station)
        (λ d some. none_later draft.rates station rating.rate.from none (length (rates_of draft.rates station) - 1) d (omega arith))

-- a station of the settings
here : (stations station : ℕ) → nat_lt stations station ≡ false → station ≤ stations
here stations station e = grind (arith, nat_tests)

-- one good record more
with-record : (f : Fields) (draft : Draft) (said : Record) → IsDraft f draft → IsSaid f.drift said → record_fault f.stations draft said ≡ None
    → IsDraft f (with_record draft said)
with-record f draft (entry.Clock start) kept by_itself good =
    let tests = good_record f.stations draft (entry.Clock start) good in
    let is : IsStart f.stations start = record { station = (by_itself.station.0, here _ _ tests.1); ticks = by_itself.ticks } in
    record {
      starts = All-push (IsStart f.stations) draft.starts start kept.starts is;
      rates = kept.rates;
      few = kept.few;
      in_turn = kept.in_turn;
      plan = kept.plan;
    }
with-record f draft (entry.Rate rating) kept by_itself good =
    let tests = good_record f.stations draft (entry.Rate rating) good in
    with-rate f draft rating kept (record { station = (by_itself.station.0, here _ _ tests.1); rate = by_itself.rate }) tests.0 tests.2
with-record f draft (entry.Shape from) kept by_itself good =
    let tests = good_record f.stations draft (entry.Shape from) good in
    record {
      starts = kept.starts;
      rates = kept.rates;
      few = kept.few;
      in_turn = kept.in_turn;
      plan = with-shape f.stations draft.shapes draft.rules from kept.plan
          (record { station = (by_itself.station.0, here _ _ tests.1); from = by_itself.from; shape = by_itself.shape }) tests.2;
    }
with-record f draft (entry.Script rule) kept by_itself good = record {
  starts = kept.starts;
  rates = kept.rates;
  few = kept.few;
  in_turn = kept.in_turn;
  plan = with-rule f.stations draft.shapes draft.rules rule kept.plan by_itself (good_record f.stations draft (entry.Script rule) good);
}

-- one good row more
pub IsDraft-row : (given : List Setting) (f : Fields) (draft : Draft) (row : Row) → IsDraft f draft → row_fault given f draft row ≡ None
    → IsDraft f (with_row f.drift draft row)
IsDraft-row given f draft row kept good = by (is_set (name_of row)) (is_remark (name_of row)) (row_says f.drift row) refl good
  where
    by : (set remark : Bool) (says : Result Record Reason) → row_says f.drift row ≡ says
        → (if set then Some (unwrap_or (set_fault known.Scenario given row) reason.Late) else if remark then None else said_fault f.stations draft says) ≡ None
        → IsDraft f (if remark then draft else with_said draft says)
    by true remark says e found = cc
    by false true says e found = kept
    by false false (Err broken) e found = kept
    by false false (Ok said) e found = with-record f draft said kept (said-row f.drift row said e) found

-- no record is good
pub IsDraft-none : (f : Fields) → IsDraft f no_records
IsDraft-none f = record {
  starts = All-nil (IsStart f.stations);
  rates = All-nil (IsRating f.stations f.drift);
  few = λ station. omega arith;
  in_turn = λ station i j d order inside. absurd (omega arith);
  plan = nothing_planned f.stations;
}
