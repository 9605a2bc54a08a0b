-- What waveforms and rules keep with one more.
use Rattle.std.proofs.Common.{◌≡◌, refl, arith, ℕ, ◌+◌, ◌-◌, ◌<◌, ◌≤◌, Bool, true, false, ◌&&◌, ◌||◌, nat_lt, nat_le, List, [], ◌∷◌, ◌++◌, length, ◌==◌, get_or, length-append}
use Rattle.std.specs.Prelude.{All, AllPairs, count_by, fold, if◌then◌else◌, max}
use Rattle.std.specs.List.{list_any}
use Rattle.std.proofs.lemmas.Bool.Decides.{nat_tests}
use Rattle.std.proofs.lemmas.List.{get_or_append_left, get_or-append_right}
use Rattle.std.proofs.lemmas.List.Elements.{All-cons, All-nil, All-push}
use Rattle.std.proofs.lemmas.List.Sums.{sum_by-append}
use Rattle.ld_base.specs.declared.rule.Rule.{Rule}
use Rattle.waveform_reader.specs.Draft.{is_astray, is_delay, is_failure, is_later_delay, is_repeat, is_rule_too_many, latest}
use Rattle.waveform_reader.specs.Sound.{AreDelaysInTurn, AreInTurn, HasRanges, IsPlan, IsRule, IsShapeFrom}
use Rattle.waveform_reader.specs.declared.record.Record.TheVariants as entry
use Rattle.waveform_reader.specs.declared.shape.ShapeFrom.{ShapeFrom}

-- what holds of all pairs, and of each with one more, holds of all pairs with it
AllPairs-push : {X : Type 0} (R : X → X → Type 0) (xs : List X) (y : X) → AllPairs R xs → All (λ x. R x y) xs → AllPairs R (xs ++ y ∷ [])
AllPairs-push {X} R xs y pairs each i j d before within = by (nat_lt j (length xs)) refl
  where
    first : i < length xs → get_or (xs ++ y ∷ []) i d ≡ get_or xs i d
    first = get_or_append_left xs (y ∷ []) d i

    by : (b : Bool) → nat_lt j (length xs) ≡ b → R (get_or (xs ++ y ∷ []) i d) (get_or (xs ++ y ∷ []) j d)
    by true e =
        let inside : j < length xs = grind (arith, nat_tests) in
        rw (first (omega arith), get_or_append_left xs (y ∷ []) d j inside) (pairs i j d before inside)
    by false e =
        let past : length xs ≤ j = grind (arith, nat_tests) in
        let all : j < length xs + 1 = omega (arith, within, length-append xs (y ∷ [])) in
        let none : j - length xs ≡ 0 = omega arith in
        rw (first (omega arith), get_or-append_right xs (y ∷ []) (length xs) j d refl past, none) (each i d (omega arith))

-- a waveform begins no later than the latest of its station
abbrev later : ℕ → ℕ → ShapeFrom → ℕ
later station tick s = if s.station == station then max tick s.from else tick

above : (station tick : ℕ) (shapes : List ShapeFrom)
    → (tick ≤ fold (later station) tick shapes) × All (λ s. s.station ≡ station → s.from ≤ fold (later station) tick shapes) shapes
above station tick [] = (omega arith, All-nil (λ s. s.station ≡ station → s.from ≤ tick))
above station tick (s ∷ shapes) =
    let rest = above station (later station tick s) shapes in
    (omega (arith, rest.0, up), All-cons (λ x. x.station ≡ station → x.from ≤ fold (later station) (later station tick s) shapes) s shapes (λ own. omega (arith, rest.0, here own)) rest.1)
  where
    up : tick ≤ later station tick s
    up = grind (arith, nat_tests)

    here : s.station ≡ station → s.from ≤ later station tick s
    here own = grind (arith, nat_tests)

-- one waveform more, which begins no earlier than the latest of its station
in_turn-more : (shapes : List ShapeFrom) (s : ShapeFrom) → nat_lt s.from (latest s.station shapes) ≡ false → AllPairs AreInTurn shapes
    → AllPairs AreInTurn (shapes ++ s ∷ [])
in_turn-more shapes s late turn =
    let most : latest s.station shapes ≤ s.from = grind (arith, nat_tests) in
    AllPairs-push AreInTurn shapes s turn (λ k d within same. omega (arith, most, (above s.station 0 shapes).1 k d within same))

-- one good waveform more
pub with-shape : (stations : ℕ) (shapes : List ShapeFrom) (rules : List Rule) (s : ShapeFrom) → IsPlan stations shapes rules → IsShapeFrom stations s
    → nat_lt s.from (latest s.station shapes) ≡ false → IsPlan stations (shapes ++ s ∷ []) rules
with-shape stations shapes rules s plan good late = record {
  shapes = All-push (IsShapeFrom stations) shapes s plan.shapes good;
  in_turn = in_turn-more shapes s late plan.in_turn;
  rules = plan.rules;
  delays = plan.delays;
  few_rules = plan.few_rules;
  few_repeats = plan.few_repeats;
}

-- a rule that breaks none beside the others
abbrev IsGoodBeside : ℕ → List Rule → Rule → Type 0
IsGoodBeside stations rules rule = (is_rule_too_many rules rule ≡ false) × (is_astray stations (entry.Script rule) ≡ false)
    × ((nat_lt rule.last rule.first || (is_delay rule.act && list_any (λ earlier. is_later_delay earlier rule) rules)) ≡ false)

-- what a script with too many rules would break
not_many : (a b c : Bool) → (a || b || c) ≡ false → (a ≡ false) × (b ≡ false) × (c ≡ false)
not_many true b c e = cc
not_many false true c e = cc
not_many false false true e = cc
not_many false false false e = (refl, refl, refl)

-- there is room for a rule
room : (rules : List Rule) (rule : Rule) → is_rule_too_many rules rule ≡ false → (length rules < 1000)
    × ((is_repeat rule.act && nat_le 4 (count_by (λ r. is_repeat r.act) rules)) ≡ false) × ((is_failure rule.act && nat_lt (rule.first + 1000) rule.last) ≡ false)
room rules rule few =
    let three = not_many (nat_le 1000 (length rules)) (is_repeat rule.act && nat_le 4 (count_by (λ r. is_repeat r.act) rules))
    (is_failure rule.act && nat_lt (rule.first + 1000) rule.last) few in
    (below rules three.0, three.1, three.2)
  where
    below : (rules : List Rule) → nat_le 1000 (length rules) ≡ false → length rules < 1000
    below rules e = grind (arith, nat_tests)

-- a good rule by itself and beside the others
good-rule : (stations : ℕ) (rules : List Rule) (rule : Rule) → HasRanges 3 rule → IsGoodBeside stations rules rule → IsRule stations rule
good-rule stations rules rule ranges good = record {
  ranges = record {
    sender = (ranges.sender.0, grind (arith, nat_tests));
    receiver = (ranges.receiver.0, grind (arith, nat_tests));
    last = ranges.last;
    delay = ranges.delay;
    act = ranges.act;
  };
  differ = λ same. let equal : (rule.from == rule.to) ≡ true = grind (arith, nat_tests) in grind (arith, nat_tests);
  order = grind (arith, nat_tests);
  failure = λ fails. let short = (room rules rule good.0).2 in grind (arith, nat_tests);
}

-- where no earlier delay of its line begins later, all are in turn with a rule
none_later : (rules : List Rule) (rule : Rule) → list_any (λ earlier. is_later_delay earlier rule) rules ≡ false → All (λ earlier. AreDelaysInTurn earlier rule) rules
none_later [] rule none = All-nil (λ earlier. AreDelaysInTurn earlier rule)
none_later (r ∷ rules) rule none = by (is_later_delay r rule) refl none (none_later rules rule)
  where
    by : (b : Bool) → is_later_delay r rule ≡ b → (b || list_any (λ earlier. is_later_delay earlier rule) rules) ≡ false
        → (list_any (λ earlier. is_later_delay earlier rule) rules ≡ false → All (λ earlier. AreDelaysInTurn earlier rule) rules)
        → All (λ earlier. AreDelaysInTurn earlier rule) (r ∷ rules)
    by true e found rest = cc
    by false e found rest = All-cons (λ earlier. AreDelaysInTurn earlier rule) r rules (λ one other line. grind (arith, nat_tests)) (rest found)

-- one rule more is in turn with the delays
delays-more : (rules : List Rule) (rule : Rule) → (is_delay rule.act && list_any (λ earlier. is_later_delay earlier rule) rules) ≡ false
    → AllPairs AreDelaysInTurn rules → AllPairs AreDelaysInTurn (rules ++ rule ∷ [])
delays-more rules rule none turn = AllPairs-push AreDelaysInTurn rules rule turn (by (is_delay rule.act) refl none)
  where
    by : (b : Bool) → is_delay rule.act ≡ b → (b && list_any (λ earlier. is_later_delay earlier rule) rules) ≡ false → All (λ earlier. AreDelaysInTurn earlier rule) rules
    by true e found = none_later rules rule found
    by false e found = λ k d within one other line. cc (e, other)

-- the repeats among rules, and one rule more
repeats-more : (rules : List Rule) (rule : Rule) → count_by (λ r. is_repeat r.act) rules ≤ 4
    → (is_repeat rule.act && nat_le 4 (count_by (λ r. is_repeat r.act) rules)) ≡ false → count_by (λ r. is_repeat r.act) (rules ++ rule ∷ []) ≤ 4
repeats-more rules rule before few = rw (sum_by-append (λ (r : Rule). if is_repeat r.act then 1 else 0) rules (rule ∷ [])) (by (is_repeat rule.act) refl few)
  where
    by : (b : Bool) → is_repeat rule.act ≡ b → (b && nat_le 4 (count_by (λ r. is_repeat r.act) rules)) ≡ false
        → count_by (λ r. is_repeat r.act) rules + count_by (λ r. is_repeat r.act) (rule ∷ []) ≤ 4
    by true e less = rw e (grind (arith, nat_tests))
    by false e less = rw e (omega arith)

-- neither of two tests holds
neither : (a b : Bool) → (a || b) ≡ false → (a ≡ false) × (b ≡ false)
neither true b e = cc
neither false true e = cc
neither false false e = (refl, refl)

-- one good rule more
pub with-rule : (stations : ℕ) (shapes : List ShapeFrom) (rules : List Rule) (rule : Rule) → IsPlan stations shapes rules → HasRanges 3 rule
    → IsGoodBeside stations rules rule → IsPlan stations shapes (rules ++ rule ∷ [])
with-rule stations shapes rules rule plan ranges good =
    let few = room rules rule good.0 in
    record {
      shapes = plan.shapes;
      in_turn = plan.in_turn;
      rules = All-push (IsRule stations) rules rule plan.rules (good-rule stations rules rule ranges good);
      delays = delays-more rules rule (neither _ _ good.2).1 plan.delays;
      few_rules = omega (arith, length-append rules (rule ∷ []), few.0);
      few_repeats = repeats-more rules rule plan.few_repeats few.1;
    }

-- no waveform and no rule
pub nothing_planned : (stations : ℕ) → IsPlan stations [] []
nothing_planned stations = record {
  shapes = All-nil (IsShapeFrom stations);
  in_turn = λ i j d before within. absurd (omega arith);
  rules = All-nil (IsRule stations);
  delays = λ i j d before within. absurd (omega arith);
  few_rules = omega arith;
  few_repeats = omega arith;
}
