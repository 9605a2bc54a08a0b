-- Terminals that stand for their stations' logs, before the first entry and with an entry more.
use Rattle.std.proofs.Common.{◌≡◌, ◌≢◌, ℕ, zero, suc, ◌-◌, ◌/◌, ◌<◌, ◌≤◌, inl, inr, Bool, true, false, cond, eqb, leb, List, [], ◌∷◌, ◌++◌, All, get_or, set, length, map, None, Some, arith, sym, ap, subst, refl, ◌∙◌, append-nil}
use Rattle.std.specs.Prelude.{option_map, slice_get, unwrap_or}
use Rattle.std.proofs.lemmas.Bool.{cases_eq, cond-false, cond-true, eq-eqb, le-leb, leb-false, leb-true, ne_eqb}
use Rattle.std.proofs.lemmas.List.{get_or-set_other, get_or-set_same, length-map, length-set, map_push}
use Rattle.std.proofs.lemmas.List.Concat.{flat_map-append}
use Rattle.std.proofs.lemmas.List.Elements.{All-append, All-cons, All-nil}
use Rattle.std.proofs.lemmas.Option.{get_or_from_slice_get, slice_get-get_or, slice_get-map, slice_get_within}
use Rattle.ld_base.proofs.Accepted.{AreInRange-from_no_fault}
use Rattle.ld_base.specs.Settings.{setting_fault}
use Rattle.ld_base.specs.declared.fields.Fields.{Fields}
use Rattle.pingpong.specs.declared.journal.Entry.{Entry}
use Rattle.pingpong.specs.declared.journal.What.{What}
use Rattle.relay_core.specs.Log.{clock, now}
use Rattle.relay_core.specs.declared.call.Call.{Call}
use Rattle.relay_core.specs.StandsFor.{IsPeerOf, Kept, StandsFor}
use Rattle.waveform_reader.specs.Scenario.{Setup}
use Rattle.waveform_reader.specs.Sound.{IsStation}
use Rattle.line_journal.specs.Stations.{ArePair}
use Rattle.line_journal.specs.Stations.{stations}
use Rattle.line_world.specs.Stationed.{AreTerminals, IsTerminal}
use Rattle.relay_core.specs.StationLog.{StationLog, calls_by, calls_of}

-- an entry is the call of one station, and of no other
pub record IsCallOf (station : ℕ) (call : Call) (entry : Entry) : Type 0 where
  pub here : calls_by station entry ≡ call ∷ []
  pub elsewhere : (me : ℕ) → me ≢ station → calls_by me entry ≡ []

-- as an entry is that names its station
pub names-station : (station stamp time : ℕ) (phases : List ℕ) (what : What) (call : ℕ → Call) (entry : Entry)
    → entry ≡ record { time = time; phases = phases; what = what } → stamp ≡ get_or phases (station - 1) 0 / 1000000
    → ((me at : ℕ) → calls_of me at what ≡ cond (eqb station me) (call at ∷ []) []) → IsCallOf station (call stamp) entry
names-station station stamp time phases what call entry is stamped named =
    let at : ℕ → ℕ = λ (me : ℕ). get_or phases (me - 1) 0 / 1000000 in
    record {
      here = ap (calls_by station) is ∙ named station (at station) ∙ cond-true (eqb station station) (call (at station) ∷ []) [] (eq-eqb station station refl)
          ∙ ap (λ (n : ℕ). call n ∷ []) (sym stamped);
      elsewhere = λ me away.
          ap (calls_by me) is ∙ named me (at me) ∙ cond-false (eqb station me) (call (at me) ∷ []) [] (ne_eqb station me (λ same. away (sym same)));
    }

-- the log of its station has that call more
pub log-here : (station : ℕ) (call : Call) (entry : Entry) (journal : List Entry) → IsCallOf station call entry
    → StationLog station (journal ++ entry ∷ []) ≡ StationLog station journal ++ call ∷ []
log-here station call entry journal is =
    flat_map-append (calls_by station) journal (entry ∷ [])
    ∙ ap (λ (calls : List Call). StationLog station journal ++ calls) (append-nil (calls_by station entry) ∙ is.here)

-- and every other log is what it was
pub log-elsewhere : (station me : ℕ) (call : Call) (entry : Entry) (journal : List Entry) → IsCallOf station call entry → me ≢ station
    → StationLog me (journal ++ entry ∷ []) ≡ StationLog me journal
log-elsewhere station me call entry journal is away =
    flat_map-append (calls_by me) journal (entry ∷ [])
    ∙ ap (λ (calls : List Call). StationLog me journal ++ calls) (append-nil (calls_by me entry) ∙ is.elsewhere me away)
    ∙ append-nil (StationLog me journal)

-- the terminal at a station's place
pub terminal-at : (f : Fields) (journal : List Entry) (terminals : List Kept) (station place : ℕ) (t : Kept) → AreTerminals f journal terminals
    → IsStation f.stations station → place ≡ station - 1 → t ≡ get_or terminals place t → IsTerminal f journal station t
terminal-at f journal terminals station place t kept there at is =
    let inside : place < length terminals = omega (arith, kept.count, there.0, there.1) in
    let found : slice_get terminals place ≡ Some t = slice_get-get_or terminals place t inside ∙ ap (λ (x : Kept). Some x) (sym is) in
    let whose : suc place ≡ station = omega (arith, there.0) in
    subst (λ (me : ℕ). IsTerminal f journal me t) whose (kept.each place t found)

-- what a station's terminal tells of every log that it stands for, it tells of the station's, by the settings and the stamp that an account has
pub told-of : (P : Fields → ℕ → List Call → ℕ → Type 0) (f g : Fields) (journal : List Entry) (station stamp at : ℕ) (t : Kept) → IsTerminal f journal station t
    → g ≡ f → stamp ≡ at → ((calls : List Call) → StandsFor t calls → P t.settings t.me calls stamp) → P g station (StationLog station journal) at
told-of P f g journal station stamp at t is same stamped told =
    let log = StationLog station journal in
    subst (λ (at : ℕ). P g station log at) stamped
    (subst (λ (g : Fields). P g station log stamp) (is.settings ∙ sym same)
    (subst (λ (me : ℕ). P t.settings me log stamp) is.station (told log is.stands)))

-- of two stations, the one's terminal has the other as its peer
pub peer-at : (s : Setup) (journal : List Entry) (terminals : List Kept) (one other place : ℕ) (t : Kept) → AreTerminals s.settings journal terminals
    → ArePair s.settings.stations one other → place ≡ one - 1 → t ≡ get_or terminals place t → IsPeerOf t other
peer-at s journal terminals one other place t kept two at is =
    let terminal = terminal-at s.settings journal terminals one place t kept two.one_there at is in
    record {
      station = omega (arith, two.other_there.1, ap (λ (f : Fields). f.stations) terminal.settings);
      other = λ same. two.differ (sym (same ∙ terminal.station));
    }

-- a terminal was handed a call: what stood for its log stands for the log with that call
pub record IsHanded (call : Call) (old new : Kept) : Type 0 where
  pub settings : (new.settings ≡ old.settings) × (new.me ≡ old.me)
  pub stands : (calls : List Call) → StandsFor old calls → StandsFor new (calls ++ call ∷ [])

-- where the station of an entry was handed its call, the terminals stand for the logs with it
module _ (f : Fields) (journal : List Entry) (terminals : List Kept) (station place : ℕ) (call : Call) (entry : Entry) (old new : Kept)
    (kept : AreTerminals f journal terminals) (there : IsStation f.stations station) (at : place ≡ station - 1) (was : old ≡ get_or terminals place old)
    (is : IsCallOf station call entry) (handed : IsHanded call old new) where
  inside : place < length terminals
  inside = omega (arith, kept.count, there.0, there.1)

  here : IsTerminal f (journal ++ entry ∷ []) station new
  here =
      let before = terminal-at f journal terminals station place old kept there at was in
      record {
        settings = handed.settings.0 ∙ before.settings;
        station = handed.settings.1 ∙ before.station;
        stands = subst (StandsFor new) (sym (log-here station call entry journal is)) (handed.stands (StationLog station journal) before.stands);
      }

  elsewhere : (me : ℕ) (t : Kept) → me ≢ station → IsTerminal f journal me t → IsTerminal f (journal ++ entry ∷ []) me t
  elsewhere me t away before = record {
    settings = before.settings;
    station = before.station;
    stands = subst (StandsFor t) (sym (log-elsewhere station me call entry journal is away)) before.stands;
  }

  each : (k : ℕ) (t : Kept) → slice_get (set terminals place new) k ≡ Some t → IsTerminal f (journal ++ entry ∷ []) (suc k) t
  each k t found =
      let within : k < length terminals = omega (arith, slice_get_within (set terminals place new) k t found, length-set terminals place new) in
      let value : get_or (set terminals place new) k t ≡ t = get_or_from_slice_get (set terminals place new) k t t found in
      elim (cases_eq k place) [
        | inl same ↦
            let whose : suc k ≡ station = omega (arith, same, at, there.0) in
            let is_new : new ≡ t = sym (ap (λ (j : ℕ). get_or (set terminals place new) j t) same ∙ get_or-set_same terminals place new t inside) ∙ value in
            subst (IsTerminal f (journal ++ entry ∷ []) (suc k)) is_new (subst (λ (me : ℕ). IsTerminal f (journal ++ entry ∷ []) me new) (sym whose) here)
        | inr away ↦
            let kept_is : get_or terminals k t ≡ t = sym (get_or-set_other terminals place k new t away) ∙ value in
            let other : suc k ≢ station = omega (arith, away, at, there.0) in
            elsewhere (suc k) t other (kept.each k t (slice_get-get_or terminals k t within ∙ ap (λ (x : Kept). Some x) kept_is))
      ]

  pub stationed : AreTerminals f (journal ++ entry ∷ []) (set terminals place new)
  stationed = record { count = length-set terminals place new ∙ kept.count; each = each }

-- terminals that weren't handed a call, one for each of some stations
pub record AreFresh (f : Fields) (these : List ℕ) (terminals : List Kept) : Type 0 where
  pub stations : map (λ (t : Kept). t.me) terminals ≡ these
  pub each : All (λ (t : Kept). IsTerminal f [] t.me t) terminals

pub fresh-none : (f : Fields) → AreFresh f [] []
fresh-none f = record { stations = refl; each = All-nil (λ (t : Kept). IsTerminal f [] t.me t) }

pub fresh-push : (f : Fields) (these : List ℕ) (terminals : List Kept) (station : ℕ) (t : Kept) → AreFresh f these terminals
    → (t.settings ≡ f) × (t.me ≡ station) → StandsFor t [] → AreFresh f (these ++ station ∷ []) (terminals ++ t ∷ [])
fresh-push f these terminals station t fresh is stands = record {
  stations = map_push (λ (t : Kept). t.me) terminals t ∙ ap (λ (all : List ℕ). all ++ t.me ∷ []) fresh.stations ∙ ap (λ (me : ℕ). these ++ me ∷ []) is.1;
  each = All-append (λ (t : Kept). IsTerminal f [] t.me t) terminals (t ∷ []) fresh.each
      (All-cons (λ (t : Kept). IsTerminal f [] t.me t) t [] (record { settings = is.0; station = refl; stands = stands }) (All-nil (λ (t : Kept). IsTerminal f [] t.me t)));
}

-- the stations of a line are as many as it has, in order
stations-are : (f : Fields) → setting_fault f ≡ None → stations f ≡ 1 ∷ 2 ∷ cond (leb 3 f.stations) (3 ∷ []) []
stations-are f sound =
    let range = (AreInRange-from_no_fault f sound).stations in
    let one : leb 1 f.stations ≡ true = le-leb 1 f.stations (omega (arith, range.0)) in
    let two : leb 2 f.stations ≡ true = le-leb 2 f.stations range.0 in
    rw (one, two) refl

pub stations-count : (f : Fields) → setting_fault f ≡ None → length (stations f) ≡ f.stations
stations-count f sound = ap length (stations-are f sound) ∙ go (leb 3 f.stations) refl
  where
    range : (2 ≤ f.stations) × (f.stations ≤ 3)
    range = (AreInRange-from_no_fault f sound).stations

    go : (b : Bool) → leb 3 f.stations ≡ b → length {A = ℕ} (1 ∷ 2 ∷ cond b (3 ∷ []) []) ≡ f.stations
    go true is = omega (arith, leb-true 3 f.stations is, range.1)
    go false is = omega (arith, leb-false 3 f.stations is, range.0)

pub stations-place : (f : Fields) → setting_fault f ≡ None → (k station : ℕ) → slice_get (stations f) k ≡ Some station → station ≡ suc k
stations-place f sound k station found = go (leb 3 f.stations) k (ap (λ (all : List ℕ). slice_get all k) (sym (stations-are f sound)) ∙ found)
  where
    go : (b : Bool) (k : ℕ) → slice_get (1 ∷ 2 ∷ cond b (3 ∷ []) []) k ≡ Some station → station ≡ suc k
    go b zero is = cc
    go b (suc zero) is = cc
    go true (suc (suc zero)) is = cc
    go true (suc (suc (suc k))) is = absurd (cc)
    go false (suc (suc k)) is = absurd (cc)

-- before the first call the terminals of a line stand for its logs
pub stationed-fresh : (f : Fields) (terminals : List Kept) → setting_fault f ≡ None → AreFresh f (stations f) terminals → AreTerminals f [] terminals
stationed-fresh f terminals sound fresh = record {
  count = sym (length-map terminals (λ (t : Kept). t.me)) ∙ ap length fresh.stations ∙ stations-count f sound;
  each = each;
}
  where
    each : (k : ℕ) (t : Kept) → slice_get terminals k ≡ Some t → IsTerminal f [] (suc k) t
    each k t found =
        let station : slice_get (stations f) k ≡ Some t.me =
        ap (λ (all : List ℕ). slice_get all k) (sym fresh.stations) ∙ slice_get-map (λ (t : Kept). t.me) terminals k ∙ ap (option_map (λ (t : Kept). t.me)) found in
        let is : get_or terminals k t ≡ t = get_or_from_slice_get terminals k t t found in
        let mine : IsTerminal f [] t.me t = subst (λ (t : Kept). IsTerminal f [] t.me t) is (fresh.each k t (slice_get_within terminals k t found)) in
        subst (λ (me : ℕ). IsTerminal f [] me t) (stations-place f sound k t.me station) mine

-- after a call a terminal's time is the log's
pub clock-now : (log : List Call) (call : Call) (stamp : ℕ) → unwrap_or (clock (log ++ call ∷ [])) stamp ≡ now (log ++ call ∷ [])
clock-now [] call stamp = refl
clock-now (first ∷ log) call stamp = refl
