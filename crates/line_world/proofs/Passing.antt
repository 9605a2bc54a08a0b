-- Moments that went by: none, some and then some more, and one of a line's wire.
use Rattle.std.proofs.Common.{◌≡◌, ℕ, zero, suc, ◌+◌, cond, List, [], ◌∷◌, ◌++◌, map, fold, Option, Some, sym, ap, ◌∙◌, refl, append_assoc, arith}
use Rattle.std.specs.Prelude.{OnErr, Result, Ok, Err}
use Rattle.std.proofs.lemmas.List.{append-nil, map-append}
use Rattle.std.proofs.lemmas.List.Sums.{fold-append, sum_by-append}
use Rattle.ld_base.specs.Faults.{next_count}
use Rattle.ld_base.specs.Script.{Script}
use Rattle.pingpong.specs.declared.journal.Entry.{Entry}
use Rattle.waveform_reader.specs.Scenario.{Setup}
use Rattle.line_world.specs.Occasions.{Moment}
use Rattle.line_world.specs.Passes.{Counted, Known, Passes, Scene, Tell, Told, counted, counted_with, failures, is_failure, known, known_of, raised}
use Rattle.line_world.specs.Run.{Directed, State, after}
use Rattle.line_world.specs.World.{Event, Leads, entries_of, journal_with}
use Rattle.line_world.specs.Worlds.{Grows, World}

-- no moments
pub none_passed : (s : Setup) (x : Scene) → Passes s [] x x
none_passed s x = record {
  leads = record { events = []; moments = refl; journal = refl };
  gained = [];
  gains = sym (append-nil x.journal);
  faults = refl;
  runs = λ lines tell. record { left = lines; tell = tell; run = refl };
}

-- some moments and then some more lead from one journal to another
pub led : (s : Setup) (first next : List Moment) (x y z : List Entry) → Leads s first x y → Leads s next y z → Leads s (first ++ next) x z
led s first next x y z a b = record {
  events = a.events ++ b.events;
  moments =
      map-append (λ (event : Event). event.moment) a.events b.events
      ∙ ap (λ (these : List Moment). these ++ map (λ (event : Event). event.moment) b.events) a.moments
      ∙ ap (λ (these : List Moment). first ++ these) b.moments;
  journal =
      b.journal ∙ ap (λ (journal : List Entry). journal_with s journal b.events) a.journal
      ∙ sym (fold-append (λ (so_far : List Entry) (event : Event). so_far ++ entries_of s so_far event) x a.events b.events);
}

-- a count after some more and then some more
raised-add : (m n faults : ℕ) → raised m (raised n faults) ≡ raised (m + n) faults
raised-add zero n faults =
    let same : n ≡ zero + n = omega arith in
    ap (λ (k : ℕ). raised k faults) same
raised-add (suc m) n faults =
    let one_more : suc (m + n) ≡ suc m + n = omega arith in
    ap next_count (raised-add m n faults) ∙ ap (λ (k : ℕ). raised k faults) one_more

raised-failures : (from to faults : ℕ) (first next : List Entry)
    → raised (failures from to next) (raised (failures from to first) faults) ≡ raised (failures from to (first ++ next)) faults
raised-failures from to faults first next =
    let more = sum_by-append (λ (entry : Entry). cond (is_failure from to entry.what) 1 0) first next in
    let same : failures from to next + failures from to first ≡ failures from to (first ++ next) = omega (arith, more) in
    raised-add (failures from to next) (failures from to first) faults ∙ ap (λ (n : ℕ). raised n faults) same

-- what some entries more make of a count
abbrev counted_on : List Entry → Counted → Counted
counted_on entries c = record { from = c.from; to = c.to; faults = raised (failures c.from c.to entries) c.faults }

counted-joined : (first next : List Entry) (wires : List Told) → map (counted_on next) (map (counted_with first) wires) ≡ map (counted_with (first ++ next)) wires
counted-joined first next [] = refl
counted-joined first next (w ∷ wires) =
    ap (λ (n : ℕ). record { from = w.from; to = w.to; faults = n } ∷ map (counted_on next) (map (counted_with first) wires))
    (raised-failures w.from w.to w.faults first next)
    ∙ ap (λ (rest : List Counted). counted_with (first ++ next) w ∷ rest) (counted-joined first next wires)

counted-again : (entries : List Entry) (wires : List Told) → map (counted_with entries) wires ≡ map (counted_on entries) (map counted wires)
counted-again entries [] = refl
counted-again entries (w ∷ wires) = ap (λ (rest : List Counted). counted_with entries w ∷ rest) (counted-again entries wires)

-- some moments and then some more
pub joined : (s : Setup) (first next : List Moment) (x y z : Scene) → Passes s first x y → Passes s next y z → Passes s (first ++ next) x z
joined s first next x y z a b = record {
  leads = led s first next x.journal y.journal z.journal a.leads b.leads;
  gained = a.gained ++ b.gained;
  gains = b.gains ∙ ap (λ (journal : List Entry). journal ++ b.gained) a.gains ∙ append_assoc x.journal a.gained b.gained;
  faults =
      b.faults ∙ counted-again b.gained y.wires ∙ ap (λ (wires : List Counted). map (counted_on b.gained) wires) a.faults
      ∙ counted-joined a.gained b.gained x.wires;
  runs = λ lines tell.
      let before = a.runs lines tell in
      let after_that = b.runs before.left before.tell in
      record {
        left = after_that.left;
        tell = after_that.tell;
        run =
            fold-append (after s) (record { journal = x.journal; lines = lines }) first next
            ∙ ap (λ (state : State). fold (after s) state next) before.run ∙ after_that.run;
      };
}

-- a journal that grows and grows again
pub grown : (a b c : World) → Grows a b → Grows b c → Grows a c
grown a b c first next = record {
  gained = first.gained ++ next.gained;
  journal = next.journal ∙ ap (λ (journal : List Entry). journal ++ next.gained) first.journal ∙ append_assoc a.journal first.gained next.gained;
  faults =
      next.faults ∙ counted-again next.gained b.wires ∙ ap (λ (wires : List Counted). map (counted_on next.gained) wires) first.faults
      ∙ counted-joined first.gained next.gained a.wires;
}

-- a moment that leaves the wires as they are
pub unasked : (s : Setup) (m : Moment) (old new gained : List Entry) (wires : List Told) → Leads s (m ∷ []) old new → new ≡ old ++ gained
    → ((from to : ℕ) → failures from to gained ≡ 0)
    → ((lines : List Directed) → after s (record { journal = old; lines = lines }) m ≡ record { journal = new; lines = lines })
    → Passes s (m ∷ []) (record { journal = old; wires = wires }) (record { journal = new; wires = wires })
unasked s m old new gained wires leads gains sound after_is = record {
  leads = leads;
  gained = gained;
  gains = gains;
  faults = stays wires;
  runs = λ lines tell. record { left = lines; tell = tell; run = after_is lines };
}
  where
    stays : (wires : List Told) → map counted wires ≡ map (counted_with gained) wires
    stays [] = refl
    stays (w ∷ wires) =
        ap (λ (n : ℕ). record { from = w.from; to = w.to; faults = raised n w.faults } ∷ map counted wires) (sym (sound w.from w.to))
        ∙ ap (λ (rest : List Counted). counted_with gained w ∷ rest) (stays wires)

-- a wire that is left as it was, as far as is told
pub unchanged_wire : (s : Setup) (from to n m : ℕ) (journal : List Entry) (script changed : Option Script) → m ≡ n
    → ((told : Script) → script ≡ Some told → changed ≡ Some told)
    → Passes s [] (record { journal = journal; wires = record { from = from; to = to; faults = n; script = script } ∷ [] })
    (record { journal = journal; wires = record { from = from; to = to; faults = m; script = changed } ∷ [] })
unchanged_wire s from to n m journal script changed counts by_script = record {
  leads = record { events = []; moments = refl; journal = refl };
  gained = [];
  gains = sym (append-nil journal);
  faults = ap (λ (count : ℕ). record { from = from; to = to; faults = count } ∷ []) counts;
  runs = λ lines tell. record { left = lines; tell = stays lines tell; run = refl };
}
  where
    stays : (lines : List Directed) → Tell (record { from = from; to = to; faults = n; script = script } ∷ []) lines
        → Tell (record { from = from; to = to; faults = m; script = changed } ∷ []) lines
    stays [] tell = absurd (cc)
    stays (l ∷ k ∷ lines) tell = absurd (cc)
    stays (l ∷ []) tell =
        let same : known (record { from = from; to = to; faults = n; script = script }) ≡ known_of l = cc in
        ap (λ (x : Option Script). record { from = from; to = to; script = x } ∷ []) (by_script l.script (ap (λ (k : Known). k.script) same))
        ∙ ap (λ (x : ℕ). record { from = x; to = to; script = Some l.script } ∷ []) (ap (λ (k : Known). k.from) same)
        ∙ ap (λ (x : ℕ). record { from = l.from; to = x; script = Some l.script } ∷ []) (ap (λ (k : Known). k.to) same)

-- what holds is so where an answer is an error
pub on_err : {T E P : Type 0} (r : Result T E) → P → OnErr r P
on_err (Ok x) p = tt
on_err (Err e) p = p
