-- A moment of a line's wire: by itself, and among the other wires.
use Rattle.std.proofs.Common.{◌≡◌, ℕ, Bool, true, false, ◌&&◌, ◌||◌, cond, List, [], ◌∷◌, ◌++◌, map, Option, None, Some, sym, ap, ◌∙◌, refl, append_assoc}
use Rattle.std.specs.Prelude.{◌==◌, if◌then◌else◌, find, option_map, unwrap_or}
use Rattle.std.specs.List.{list_any}
use Rattle.std.specs.Option.{option_or}
use Rattle.std.proofs.lemmas.Bool.{and_from, eq-eqb, or_parts}
use Rattle.std.proofs.lemmas.List.{append-nil, append_cancel_left, map-append}
use Rattle.std.proofs.lemmas.List.Folds.{find-append}
use Rattle.ld_base.specs.Script.{Script}
use Rattle.pingpong.specs.declared.journal.Entry.{Entry}
use Rattle.pingpong.specs.declared.journal.What.{What}
use Rattle.waveform_reader.specs.Scenario.{Setup}
use Rattle.line_world.specs.Occasions.{Moment}
use Rattle.line_world.specs.Passes.{Counted, Known, Passes, Runs, Scene, Tell, Told, counted, counted_with, failures, known, known_of, raised}
use Rattle.line_world.specs.Run.{Directed, State, after, goes, script_on, with_script}
use Rattle.line_world.specs.World.{Event, Outcome, entries_of, entry_of, journal_with}

-- whether a wire is on the line from one station to another
abbrev pub is_on : ℕ → ℕ → Told → Bool
is_on from to w = (w.from == from) && (w.to == to)

abbrev no_script : Script
no_script = record { rules = []; queue = [] }

-- the lines of some wires, and of those behind them
record Split (xs ys : List Told) (lines : List Directed) : Type 0 where
  front : List Directed
  back : List Directed
  are : lines ≡ front ++ back
  tell_front : Tell xs front
  tell_back : Tell ys back

split : (xs ys : List Told) (lines : List Directed) → Tell (xs ++ ys) lines → Split xs ys lines
split [] ys lines tell = record { front = []; back = lines; are = refl; tell_front = refl; tell_back = tell }
split (x ∷ xs) ys [] tell = absurd (cc)
split (x ∷ xs) ys (l ∷ lines) tell =
    let first : known x ≡ known_of l = cc in
    let rest : Tell (xs ++ ys) lines = cc in
    let more = split xs ys lines rest in
    record {
      front = l ∷ more.front;
      back = more.back;
      are = ap (λ (lines : List Directed). l ∷ lines) more.are;
      tell_front = ap (λ (k : Known). k ∷ map known xs) first ∙ ap (λ (rest : List Known). known_of l ∷ rest) more.tell_front;
      tell_back = more.tell_back;
    }

-- a wire's line between others
tells_among : (xs ys : List Told) (v : Told) (front one back : List Directed) → Tell xs front → Tell (v ∷ []) one → Tell ys back
    → Tell (xs ++ v ∷ ys) (front ++ one ++ back)
tells_among xs ys v front one back before here behind =
    map-append known xs (v ∷ ys)
    ∙ ap (λ (all : List Known). all ++ known v ∷ map known ys) before
    ∙ ap (λ (all : List Known). map known_of front ++ (all ++ map known ys)) here
    ∙ ap (λ (all : List Known). map known_of front ++ (map known_of one ++ all)) behind
    ∙ sym (append_assoc (map known_of front) (map known_of one) (map known_of back))
    ∙ ap (λ (all : List Known). all ++ map known_of back) (sym (map-append known_of front one))
    ∙ sym (map-append known_of (front ++ one) back)

record Between (xs ys : List Told) (w : Told) (lines : List Directed) : Type 0 where
  front : List Directed
  one : List Directed
  back : List Directed
  are : lines ≡ front ++ one ++ back
  tell_front : Tell xs front
  tell_one : Tell (w ∷ []) one
  tell_back : Tell ys back

between : (xs ys : List Told) (w : Told) (lines : List Directed) → Tell (xs ++ w ∷ ys) lines → Between xs ys w lines
between xs ys w lines tell =
    let parts = split xs (w ∷ ys) lines tell in
    let rest = split (w ∷ []) ys parts.back parts.tell_back in
    record {
      front = parts.front;
      one = rest.front;
      back = rest.back;
      are = parts.are ∙ ap (λ (back : List Directed). parts.front ++ back) rest.are ∙ sym (append_assoc parts.front rest.front rest.back);
      tell_front = parts.tell_front;
      tell_one = rest.tell_front;
      tell_back = rest.tell_back;
    }

-- lines tell which of them go from one station to another
same_goes : (from to : ℕ) (x : Told) (l : Directed) → known x ≡ known_of l → goes from to l ≡ is_on from to x
same_goes from to x l is = ap (λ (k : Known). (k.from == from) && (k.to == to)) (sym is)

none_goes : (from to : ℕ) (xs : List Told) (lines : List Directed) → Tell xs lines → list_any (is_on from to) xs ≡ false → list_any (goes from to) lines ≡ false
none_goes from to [] [] tell none = refl
none_goes from to [] (l ∷ lines) tell none = absurd (cc)
none_goes from to (x ∷ xs) [] tell none = absurd (cc)
none_goes from to (x ∷ xs) (l ∷ lines) tell none =
    let first : known x ≡ known_of l = cc in
    let rest : Tell xs lines = cc in
    let parts = or_parts (is_on from to x) (list_any (is_on from to) xs) none in
    ap (λ (b : Bool). b || list_any (goes from to) lines) (same_goes from to x l first ∙ parts.0) ∙ none_goes from to xs lines rest parts.1

-- a line that isn't among some leaves them as they are
unchanged : (from to : ℕ) (change : Script → Script) (lines : List Directed) → list_any (goes from to) lines ≡ false → with_script from to change lines ≡ lines
unchanged from to change [] none = refl
unchanged from to change (l ∷ lines) none =
    let parts = or_parts (goes from to l) (list_any (goes from to) lines) none in
    ap (λ (b : Bool). (if b then record l { script = change l.script } else l) ∷ with_script from to change lines) parts.0
    ∙ ap (λ (rest : List Directed). l ∷ rest) (unchanged from to change lines parts.1)

not_found : (from to : ℕ) (lines : List Directed) → list_any (goes from to) lines ≡ false → find (goes from to) lines ≡ None
not_found from to [] none = refl
not_found from to (l ∷ lines) none =
    let parts = or_parts (goes from to l) (list_any (goes from to) lines) none in
    ap (λ (b : Bool). cond b (Some l) (find (goes from to) lines)) parts.0 ∙ not_found from to lines parts.1

or_none : {A : Type 0} (o : Option A) → option_or o None ≡ o
or_none None = refl
or_none (Some x) = refl

module _ (from to : ℕ) (front one back : List Directed)
    (none_front : list_any (goes from to) front ≡ false) (none_back : list_any (goes from to) back ≡ false) where
  script_found : script_on from to (front ++ one ++ back) ≡ script_on from to one
  script_found =
      ap (λ (found : Option Directed). unwrap_or (option_map (λ (line : Directed). line.script) found) no_script) (
      find-append (goes from to) (front ++ one) back
      ∙ ap (λ (o : Option Directed). option_or (find (goes from to) (front ++ one)) o) (not_found from to back none_back)
      ∙ or_none (find (goes from to) (front ++ one))
      ∙ find-append (goes from to) front one
      ∙ ap (λ (o : Option Directed). option_or o (find (goes from to) one)) (not_found from to front none_front)
      )

  script_changed : (change : Script → Script) → with_script from to change (front ++ one ++ back) ≡ front ++ with_script from to change one ++ back
  script_changed change =
      let step = λ (line : Directed). if goes from to line then record line { script = change line.script } else line in
      map-append step (front ++ one) back
      ∙ ap (λ (lines : List Directed). lines ++ with_script from to change back) (map-append step front one)
      ∙ ap (λ (lines : List Directed). lines ++ with_script from to change one ++ with_script from to change back) (unchanged from to change front none_front)
      ∙ ap (λ (lines : List Directed). front ++ with_script from to change one ++ lines) (unchanged from to change back none_back)

-- a moment at a true time, on the line from one station to another, that goes by what the line's script says, and changes it
module _ (s : Setup) (time from to : ℕ) (says : Script → Outcome) (change : List Entry → Script → Script) (whats : Outcome → List What) where
  abbrev pub after_on : State → State
  after_on state = record {
    journal = state.journal ++ map (entry_of s time) (whats (says (script_on from to state.lines)));
    lines = with_script from to (change state.journal) state.lines;
  }

  -- among other lines
  after_among : (journal : List Entry) (front one back : List Directed) → list_any (goes from to) front ≡ false → list_any (goes from to) back ≡ false
      → after_on (record { journal = journal; lines = front ++ one ++ back })
      ≡ record { journal = (after_on (record { journal = journal; lines = one })).journal; lines = front ++ (after_on (record { journal = journal; lines = one })).lines ++ back }
  after_among journal front one back none_front none_back =
      ap (λ (script : Script). record { journal = journal ++ map (entry_of s time) (whats (says script)); lines = with_script from to (change journal) (front ++ one ++ back) })
      (script_found from to front one back none_front none_back)
      ∙ ap (λ (lines : List Directed). record { journal = journal ++ map (entry_of s time) (whats (says (script_on from to one))); lines = lines })
      (script_changed from to front one back none_front none_back (change journal))

  -- its entries are no failures on other lines
  module _ (elsewhere : (o : Outcome) (w : Told) → is_on from to w ≡ false → failures w.from w.to (map (entry_of s time) (whats o)) ≡ 0) where
    uncounted : (o : Outcome) (gained : List Entry) (wires : List Told) → gained ≡ map (entry_of s time) (whats o)
        → list_any (is_on from to) wires ≡ false → map counted wires ≡ map (counted_with gained) wires
    uncounted o gained [] is none = refl
    uncounted o gained (w ∷ wires) is none =
        let parts = or_parts (is_on from to w) (list_any (is_on from to) wires) none in
        let nothing_failed : failures w.from w.to gained ≡ 0 = ap (λ (entries : List Entry). failures w.from w.to entries) is ∙ elsewhere o w parts.0 in
        ap (λ (n : ℕ). record { from = w.from; to = w.to; faults = raised n w.faults } ∷ map counted wires) (sym nothing_failed)
        ∙ ap (λ (rest : List Counted). counted_with gained w ∷ rest) (uncounted o gained wires is parts.1)

    -- the wire of the line, among others
    module _ (m : Moment) (is_after : (state : State) → after s state m ≡ after_on state)
        (are_entries : (journal : List Entry) (o : Outcome) → entries_of s journal (record { moment = m; outcome = o }) ≡ map (entry_of s time) (whats o)) where
      abbrev scene : List Entry → List Told → Scene
      scene journal wires = record { journal = journal; wires = wires }

      -- what it gains are the entries of an outcome
      record Outcomes (gained : List Entry) : Type 0 where
        o : Outcome
        is : gained ≡ map (entry_of s time) (whats o)

      one_outcome : (old new gained : List Entry) → new ≡ old ++ gained → (events : List Event) → map (λ event. event.moment) events ≡ m ∷ []
          → new ≡ journal_with s old events → Outcomes gained
      one_outcome old new gained gains [] moments journal = absurd (cc)
      one_outcome old new gained gains (e ∷ f ∷ events) moments journal = absurd (cc)
      one_outcome old new gained gains (e ∷ []) moments journal =
          let same : e.moment ≡ m = cc in
          record {
            o = e.outcome;
            is =
                append_cancel_left old gained (entries_of s old e) (sym gains ∙ journal)
                ∙ ap (λ (x : Moment). entries_of s old (record { moment = x; outcome = e.outcome })) same
                ∙ are_entries old e.outcome;
          }

      pub among : (old new : List Entry) (xs ys : List Told) (w v : Told) → list_any (is_on from to) xs ≡ false → list_any (is_on from to) ys ≡ false
          → Passes s (m ∷ []) (scene old (w ∷ [])) (scene new (v ∷ []))
          → Passes s (m ∷ []) (scene old (xs ++ w ∷ ys)) (scene new (xs ++ v ∷ ys))
      among old new xs ys w v none_before none_behind p =
          let by = one_outcome old new p.gained p.gains p.leads.events p.leads.moments p.leads.journal in
          record {
            leads = p.leads;
            gained = p.gained;
            gains = p.gains;
            faults =
                map-append counted xs (v ∷ ys)
                ∙ ap (λ (front : List Counted). front ++ counted v ∷ map counted ys) (uncounted by.o p.gained xs by.is none_before)
                ∙ ap (λ (one : List Counted). map (counted_with p.gained) xs ++ (one ++ map counted ys)) p.faults
                ∙ ap (λ (back : List Counted). map (counted_with p.gained) xs ++ counted_with p.gained w ∷ back) (uncounted by.o p.gained ys by.is none_behind)
                ∙ sym (map-append (counted_with p.gained) xs (w ∷ ys));
            runs = λ lines tell.
                let parts = between xs ys w lines tell in
                let alone = p.runs parts.one parts.tell_one in
                record {
                  left = parts.front ++ alone.left ++ parts.back;
                  tell = tells_among xs ys v parts.front alone.left parts.back parts.tell_front alone.tell parts.tell_back;
                  run =
                      is_after (record { journal = old; lines = lines })
                      ∙ ap (λ (lines : List Directed). after_on (record { journal = old; lines = lines })) parts.are
                      ∙ after_among old parts.front parts.one parts.back
                      (none_goes from to xs parts.front parts.tell_front none_before)
                      (none_goes from to ys parts.back parts.tell_back none_behind)
                      ∙ ap (λ (state : State). record { journal = state.journal; lines = parts.front ++ state.lines ++ parts.back })
                      (sym (is_after (record { journal = old; lines = parts.one })) ∙ alone.run);
                };
          }

  -- on the line alone
  module _ (n m : ℕ) (old new : List Entry) (script changed : Option Script) (o : Outcome)
      (is_new : new ≡ old ++ map (entry_of s time) (whats o))
      (by_script : (told : Script) → script ≡ Some told → (says told ≡ o) × (changed ≡ Some (change old told))) where
    abbrev one_after : Directed → Bool → State
    one_after l b = record {
      journal = old ++ map (entry_of s time) (whats (says (unwrap_or (option_map (λ line. line.script) (cond b (Some l) None)) no_script)));
      lines = (if b then record l { script = change old l.script } else l) ∷ [];
    }

    pub alone : (m' : Moment) → ((state : State) → after s state m' ≡ after_on state)
        → (lines : List Directed) → Tell (record { from = from; to = to; faults = n; script = script } ∷ []) lines
        → Runs s (m' ∷ []) (record { journal = old; wires = record { from = from; to = to; faults = n; script = script } ∷ [] })
        (record { journal = new; wires = record { from = from; to = to; faults = m; script = changed } ∷ [] }) lines
    alone m' is [] tell = absurd (cc)
    alone m' is (l ∷ k ∷ lines) tell = absurd (cc)
    alone m' is (l ∷ []) tell =
        let same : known (record { from = from; to = to; faults = n; script = script }) ≡ known_of l = cc in
        let same_from : l.from ≡ from = ap (λ (k : Known). k.from) (sym same) in
        let same_to : l.to ≡ to = ap (λ (k : Known). k.to) (sym same) in
        let same_script : script ≡ Some l.script = ap (λ (k : Known). k.script) same in
        let by = by_script l.script same_script in
        let on : goes from to l ≡ true = and_from (l.from == from) (l.to == to) (eq-eqb l.from from same_from) (eq-eqb l.to to same_to) in
        record {
          left = record l { script = change old l.script } ∷ [];
          tell =
              ap (λ (x : Option Script). record { from = from; to = to; script = x } ∷ []) by.1
              ∙ ap (λ (x : ℕ). record { from = x; to = to; script = Some (change old l.script) } ∷ []) (sym same_from)
              ∙ ap (λ (x : ℕ). record { from = l.from; to = x; script = Some (change old l.script) } ∷ []) (sym same_to);
          run =
              is (record { journal = old; lines = l ∷ [] })
              ∙ ap (one_after l) on
              ∙ ap (λ (o : Outcome). record { journal = old ++ map (entry_of s time) (whats o); lines = record l { script = change old l.script } ∷ [] }) by.0
              ∙ ap (λ (journal : List Entry). record { journal = journal; lines = record l { script = change old l.script } ∷ [] }) (sym is_new);
        }

    pub once : (m' : Moment) → ((state : State) → after s state m' ≡ after_on state)
        → ((journal : List Entry) → entries_of s journal (record { moment = m'; outcome = o }) ≡ map (entry_of s time) (whats o))
        → m ≡ raised (failures from to (map (entry_of s time) (whats o))) n
        → Passes s (m' ∷ []) (record { journal = old; wires = record { from = from; to = to; faults = n; script = script } ∷ [] })
        (record { journal = new; wires = record { from = from; to = to; faults = m; script = changed } ∷ [] })
    once m' is are_entries counts = record {
      leads = record {
        events = record { moment = m'; outcome = o } ∷ [];
        moments = refl;
        journal = is_new ∙ ap (λ (entries : List Entry). old ++ entries) (sym (are_entries old));
      };
      gained = map (entry_of s time) (whats o);
      gains = is_new;
      faults = ap (λ (count : ℕ). record { from = from; to = to; faults = count } ∷ []) counts;
      runs = alone m' is;
    }

-- a wire that is left as it was, among others
module _ (s : Setup) (old new : List Entry) (xs ys : List Told) (w v : Told)
    (p : Passes s [] (record { journal = old; wires = w ∷ [] }) (record { journal = new; wires = v ∷ [] })) where
  none_gained : (events : List Event) → map (λ event. event.moment) events ≡ [] → new ≡ journal_with s old events → p.gained ≡ []
  none_gained [] moments journal = append_cancel_left old p.gained [] (sym p.gains ∙ journal ∙ sym (append-nil old))
  none_gained (event ∷ events) moments journal = absurd (cc)

  uncounted_by : (gained : List Entry) (wires : List Told) → gained ≡ [] → map counted wires ≡ map (counted_with gained) wires
  uncounted_by gained wires none = ap (λ (entries : List Entry). map (counted_with entries) wires) (sym none)

  pub none_among : Passes s [] (record { journal = old; wires = xs ++ w ∷ ys }) (record { journal = new; wires = xs ++ v ∷ ys })
  none_among =
      let none = none_gained p.leads.events p.leads.moments p.leads.journal in
      record {
        leads = p.leads;
        gained = p.gained;
        gains = p.gains;
        faults =
            map-append counted xs (v ∷ ys)
            ∙ ap (λ (front : List Counted). front ++ counted v ∷ map counted ys) (uncounted_by p.gained xs none)
            ∙ ap (λ (one : List Counted). map (counted_with p.gained) xs ++ (one ++ map counted ys)) p.faults
            ∙ ap (λ (back : List Counted). map (counted_with p.gained) xs ++ counted_with p.gained w ∷ back) (uncounted_by p.gained ys none)
            ∙ sym (map-append (counted_with p.gained) xs (w ∷ ys));
        runs = λ lines tell.
            let parts = between xs ys w lines tell in
            let alone = p.runs parts.one parts.tell_one in
            record {
              left = parts.front ++ alone.left ++ parts.back;
              tell = tells_among xs ys v parts.front alone.left parts.back parts.tell_front alone.tell parts.tell_back;
              run =
                  ap (λ (lines : List Directed). record { journal = old; lines = lines }) parts.are
                  ∙ ap (λ (state : State). record { journal = state.journal; lines = parts.front ++ state.lines ++ parts.back }) alone.run;
            };
      }
