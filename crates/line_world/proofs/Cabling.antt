-- A moment of one cable, among all cables in their places.
use Rattle.std.proofs.Common.{◌≡◌, ℕ, suc, ◌+◌, ◌<◌, Bool, true, false, ◌&&◌, ◌||◌, not, List, [], ◌∷◌, ◌++◌, length, map, take, drop, get_or, set, Option, sym, ap, ◌∙◌, refl, subst, arith}
use Rattle.std.specs.Prelude.{◌==◌, nat_le, if◌then◌else◌}
use Rattle.std.specs.List.{flat_map, list_any}
use Rattle.std.proofs.lemmas.Bool.{and_parts, not-true, or_parts}
use Rattle.std.proofs.lemmas.Bool.Decides.{nat_tests}
use Rattle.std.proofs.lemmas.List.{map-append, map-set, get_or-map, length-map, set_split, set-get_or, take_more, take-append-drop, flat_map_more}
use Rattle.std.proofs.lemmas.List.Concat.{flat_map-append}
use Rattle.std.proofs.lemmas.List.Sums.{AllPass-from_list_all}
use Rattle.ld_base.specs.Script.{Script}
use Rattle.ld_base.specs.declared.fields.Fields.{Fields}
use Rattle.waveform_reader.specs.Scenario.{Setup}
use Rattle.line_world.specs.Terminals.{Terminals}
use Rattle.line_world.specs.Occasions.{Moment, at_tick}
use Rattle.line_journal.specs.Stations.{Way, ways}
use Rattle.line_world.specs.Occasions.Occasion.{arrival, departure}
use Rattle.line_world.specs.Passes.{Passes, Told, scene_of, told}
use Rattle.line_world.specs.Tick.{AreLines, way_of}
use Rattle.line_world.specs.declared.cable.Cable.{Cable}
use Rattle.line_world.proofs.Asking.{arrival_among, departure_among}
use Rattle.line_world.proofs.Turning.{is_on, none_among}
use Rattle.line_world.proofs.Ways.{Joins, are_apart, is_way, joined_by, joins, frames_on, ways_apart, ways_join}

-- the moment at which a line is asked, and that of a station's frame on it
abbrev pub asked_at : ℕ → Way → List Moment
asked_at t way = record { time = t; occasion = arrival way.to way.from } ∷ []

abbrev pub sent_at : ℕ → ℕ → Way → List Moment
sent_at t sender way = if way.from == sender then record { time = t; occasion = departure sender way.to } ∷ [] else []

-- a function of each element, with one more at the end
flat_map-end : {A B : Type 0} (h : A → List B) (xs : List A) (x : A) → flat_map h (xs ++ x ∷ []) ≡ flat_map h xs ++ h x
flat_map-end h xs x = sym (flat_map_more h [] xs x)

-- a test that none of some lines passes
none_at : {W : Type 0} (p : Way → Bool) (xs : List (Cable W)) (c : Cable W) (ys : List (Cable W)) → list_any p (map way_of (xs ++ c ∷ ys)) ≡ false → p (way_of c) ≡ false
none_at p [] c ys none = (or_parts (p (way_of c)) (list_any p (map way_of ys)) none).0
none_at p (x ∷ xs) c ys none = none_at p xs c ys (or_parts (p (way_of x)) (list_any p (map way_of (xs ++ c ∷ ys))) none).1

turned : (a b c d : ℕ) → ((a == b) && (c == d)) ≡ false → ((b == a) && (d == c)) ≡ false
turned a b c d off = grind (arith, nat_tests)

module _ {W : Type 0} (faults : W → ℕ) (script : W → Option Script) where
  same_tests : (from to : ℕ) (xs : List (Cable W)) → list_any (is_on from to) (map (told faults script) xs) ≡ list_any (is_way from to) (map way_of xs)
  same_tests from to [] = refl
  same_tests from to (x ∷ xs) = ap (λ (b : Bool). is_way from to (way_of x) || b) (same_tests from to xs)

  -- no other cable is on the line of one of them
  apart_at : (xs : List (Cable W)) (c : Cable W) (ys : List (Cable W)) → are_apart (map way_of (xs ++ c ∷ ys)) ≡ true
      → (list_any (is_on c.from c.to) (map (told faults script) xs) ≡ false) × (list_any (is_on c.from c.to) (map (told faults script) ys) ≡ false)
  apart_at [] c ys apart =
      let parts = and_parts (not (list_any (is_way c.from c.to) (map way_of ys))) (are_apart (map way_of ys)) apart in
      (refl, same_tests c.from c.to ys ∙ not-true (list_any (is_way c.from c.to) (map way_of ys)) parts.0)
  apart_at (x ∷ xs) c ys apart =
      let parts = and_parts (not (list_any (is_way x.from x.to) (map way_of (xs ++ c ∷ ys)))) (are_apart (map way_of (xs ++ c ∷ ys))) apart in
      let none = none_at (is_way x.from x.to) xs c ys (not-true (list_any (is_way x.from x.to) (map way_of (xs ++ c ∷ ys))) parts.0) in
      let rest = apart_at xs c ys parts.1 in
      let off = turned c.from x.from c.to x.to none in
      (ap (λ (b : Bool). b || list_any (is_on c.from c.to) (map (told faults script) xs)) off ∙ rest.0, rest.1)

  -- a cable in its place
  module _ (f : Fields) (cables : List (Cable W)) (i : ℕ) (c : Cable W) (inside : i < length cables) (is : c ≡ get_or cables i c) (lines : AreLines f cables) where
    abbrev front : List (Cable W)
    front = take i cables

    abbrev back : List (Cable W)
    back = drop (suc i) cables

    in_place : cables ≡ front ++ c ∷ back
    in_place =
        sym (set-get_or cables i c) ∙ set_split cables i (get_or cables i c) inside
        ∙ ap (λ (x : Cable W). front ++ x ∷ back) (sym is)

    with_new : (new : Cable W) → map (told faults script) (set cables i new) ≡ map (told faults script) front ++ told faults script new ∷ map (told faults script) back
    with_new new = ap (λ (all : List (Cable W)). map (told faults script) all) (set_split cables i new inside) ∙ map-append (told faults script) front (new ∷ back)

    as_before : map (told faults script) cables ≡ map (told faults script) front ++ told faults script c ∷ map (told faults script) back
    as_before = ap (λ (all : List (Cable W)). map (told faults script) all) in_place ∙ map-append (told faults script) front (c ∷ back)

    no_others : (list_any (is_on c.from c.to) (map (told faults script) front) ≡ false) × (list_any (is_on c.from c.to) (map (told faults script) back) ≡ false)
    no_others =
        apart_at front c back
        (ap (λ (all : List (Cable W)). are_apart (map way_of all)) (sym in_place) ∙ ap are_apart lines ∙ ways_apart f)

    pub lines_kept : (new : Cable W) → way_of new ≡ way_of c → AreLines f (set cables i new)
    lines_kept new same =
        map-set way_of cables i new
        ∙ ap (λ (way : Way). set (map way_of cables) i way) (same ∙ ap way_of is)
        ∙ sym (map-set way_of cables i (get_or cables i c))
        ∙ ap (λ (all : List (Cable W)). map way_of all) (set-get_or cables i c) ∙ lines

    way_at : get_or (ways f) i (way_of c) ≡ way_of c
    way_at =
        ap (λ (all : List Way). get_or all i (way_of c)) (sym lines)
        ∙ get_or-map way_of cables i c (way_of c) inside ∙ ap way_of (sym is)

    pub way_inside : i < length (ways f)
    way_inside = omega (arith, inside, ap (λ (all : List Way). length all) lines, length-map cables way_of)

    pub joins_at : Joins f (way_of c)
    joins_at =
        joined_by f (way_of c)
        (subst (λ (way : Way). joins (λ station. nat_le station f.stations) way ≡ true) way_at
        (AllPass-from_list_all (joins (λ station. nat_le station f.stations)) (ways f) (ways_join f) i (way_of c) way_inside))

    -- what some moments for each line are with the next one
    pub with_next : (h : Way → List Moment) → flat_map h (take (i + 1) (ways f)) ≡ flat_map h (take i (ways f)) ++ h (way_of c)
    with_next h =
        ap (λ (all : List Way). flat_map h all) (take_more (ways f) i (way_of c) way_inside)
        ∙ ap (λ (way : Way). flat_map h (take i (ways f) ++ way ∷ [])) way_at
        ∙ flat_map-end h (take i (ways f)) (way_of c)

    module _ (s : Setup) (t : ℕ) (old new : Terminals) (d : Cable W) where
      among_all : (these : List Moment)
          → Passes s these (record { journal = old.journal; wires = map (told faults script) front ++ told faults script c ∷ map (told faults script) back })
          (record { journal = new.journal; wires = map (told faults script) front ++ told faults script d ∷ map (told faults script) back })
          → Passes s these (scene_of faults script old cables) (scene_of faults script new (set cables i d))
      among_all these passes =
          subst (λ (wires : List Told). Passes s these (record { journal = old.journal; wires = wires }) (scene_of faults script new (set cables i d))) (sym as_before)
          (subst (λ (wires : List Told). Passes s these (record { journal = old.journal; wires = map (told faults script) front ++ told faults script c ∷ map (told faults script) back })
          (record { journal = new.journal; wires = wires })) (sym (with_new d)) passes)

      pub arrival_at : Passes s (record { time = t; occasion = arrival c.to c.from } ∷ []) (scene_of faults script old (c ∷ [])) (scene_of faults script new (d ∷ []))
          → Passes s (record { time = t; occasion = arrival c.to c.from } ∷ []) (scene_of faults script old cables) (scene_of faults script new (set cables i d))
      arrival_at passes =
          among_all (record { time = t; occasion = arrival c.to c.from } ∷ [])
          (arrival_among s t c.from c.to old.journal new.journal (map (told faults script) front) (map (told faults script) back) (told faults script c) (told faults script d)
          no_others.0 no_others.1 passes)

      pub departure_at : Passes s (record { time = t; occasion = departure c.from c.to } ∷ []) (scene_of faults script old (c ∷ [])) (scene_of faults script new (d ∷ []))
          → Passes s (record { time = t; occasion = departure c.from c.to } ∷ []) (scene_of faults script old cables) (scene_of faults script new (set cables i d))
      departure_at passes =
          among_all (record { time = t; occasion = departure c.from c.to } ∷ [])
          (departure_among s t c.from c.to old.journal new.journal (map (told faults script) front) (map (told faults script) back) (told faults script c) (told faults script d)
          no_others.0 no_others.1 passes)

      pub unsent_at : Passes s [] (scene_of faults script old (c ∷ [])) (scene_of faults script new (d ∷ []))
          → Passes s [] (scene_of faults script old cables) (scene_of faults script new (set cables i d))
      unsent_at passes =
          among_all []
          (none_among s old.journal new.journal (map (told faults script) front) (map (told faults script) back) (told faults script c) (told faults script d) passes)

    -- the moments for all lines, about one of them
    pub about : (h : Way → List Moment) → flat_map h (ways f) ≡ flat_map h (take i (ways f)) ++ h (way_of c) ++ flat_map h (drop (i + 1) (ways f))
    about h =
        ap (λ (all : List Way). flat_map h all) (sym (take-append-drop (i + 1) (ways f)))
        ∙ flat_map-append h (take (i + 1) (ways f)) (drop (i + 1) (ways f))
        ∙ ap (λ (front : List Moment). front ++ flat_map h (drop (i + 1) (ways f))) (with_next h)

-- all lines are asked
pub asked_all : (t : ℕ) (ways : List Way) → flat_map (asked_at t) ways ≡ at_tick t (map (λ way. arrival way.to way.from) ways)
asked_all t [] = refl
asked_all t (way ∷ ways) = ap (λ (rest : List Moment). record { time = t; occasion = arrival way.to way.from } ∷ rest) (asked_all t ways)

-- the frames of a station go out on all its lines
pub sent_all : (t sender : ℕ) (ways : List Way) → flat_map (sent_at t sender) ways ≡ at_tick t (frames_on sender ways)
sent_all t sender [] = refl
sent_all t sender (way ∷ ways) = by_test (way.from == sender) (sent_all t sender ways)
  where
    by_test : (b : Bool) → flat_map (sent_at t sender) ways ≡ at_tick t (frames_on sender ways)
        → (if b then record { time = t; occasion = departure sender way.to } ∷ [] else []) ++ flat_map (sent_at t sender) ways
        ≡ at_tick t ((if b then departure sender way.to ∷ [] else []) ++ frames_on sender ways)
    by_test true rest = ap (λ (rest : List Moment). record { time = t; occasion = departure sender way.to } ∷ rest) rest
    by_test false rest = rest
