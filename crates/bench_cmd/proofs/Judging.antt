-- How the verdicts of some rows become those of one row more.
use Rattle.std.proofs.Common.{◌≡◌, ◌∙◌, sym, ap, refl, ℕ, suc, ◌+◌, ◌<◌, ◌≤◌, List, [], ◌∷◌, ◌++◌, map, length, Option, Some, None, Ok, Err, append_assoc, length-append, arith, add-one}
use Rattle.std.proofs.Common.{inl, inr, true, false, Bool, not, ℤ, if◌then◌else◌, unwrap_or, ◌==◌}
use Rattle.std.proofs.lemmas.Bool.{cases_lt}
use Rattle.std.proofs.lemmas.Bool.Decides.{nat_tests}
use Rattle.std.proofs.lemmas.Grind.{flat_map-append}
use Rattle.std.proofs.lemmas.List.{append-nil, map-append}
use Rattle.std.specs.List.{AllByRecursion}
use Rattle.ld_base.specs.declared.fields.Fields.{Fields}
use Rattle.ld_base.specs.declared.phases.SampleSet.{SampleSet}
use Rattle.ld_base.specs.declared.reason.Reason.{Reason}
use Rattle.ld_base.specs.declared.reason.Reason.TheVariants as reason
use Rattle.phasor.specs.Sum.{set_numbered}
use Rattle.trip_logic.specs.Progress.{Progress, StandsFor}
use Rattle.trip_logic.specs.TripAt.{verdicts}
use Rattle.row_reader.specs.Faults.{first_fault, unless}
use Rattle.bench_cmd.specs.Judge.{judge_line, judge_lines, judge_rows, judge_settings, judge_text, line_of, numbers_fault, row_fault, row_faults, set_of, set_of_numbers}
use Rattle.row_reader.specs.RowNumbers.{numbers_of}
use Rattle.row_reader.specs.Rows.{Row}

-- where no set has a number from `next` on, the first has a lesser one
head_below : (next : ℕ) (s : SampleSet) (sets : List SampleSet) → ((n : ℕ) → next ≤ n → set_numbered n (s ∷ sets) ≡ None) → s.number < next
head_below next s sets none =
    elim (cases_lt s.number next) [ inl below ↦ below | inr above ↦ let found = none s.number above in absurd (grind (arith, nat_tests, found)) ]

-- and none of the rest has such a number
tail_unnumbered : (next : ℕ) (s : SampleSet) (sets : List SampleSet) → ((n : ℕ) → next ≤ n → set_numbered n (s ∷ sets) ≡ None)
    → (n : ℕ) → next ≤ n → set_numbered n sets ≡ None
tail_unnumbered next s sets none n above =
    let first = head_below next s sets none in let found = none n above in let other : (s.number == n) ≡ false = grind (arith, nat_tests) in rw other at found

-- where no set has a number from `next` on, each has a lesser one
all_below : (next : ℕ) (sets : List SampleSet) → ((n : ℕ) → next ≤ n → set_numbered n sets ≡ None) → AllByRecursion (λ s. s.number < next) sets
all_below next [] none = tt
all_below next (s ∷ sets) none = (head_below next s sets none, all_below next sets (tail_unnumbered next s sets none))

-- the lines of sets stay when a later set is judged
lines-later : (f : Fields) (judged : List SampleSet) (set : SampleSet) (sets : List SampleSet)
    → AllByRecursion (λ s. s.number < set.number) sets
    → ((n : ℕ) → n < set.number → verdicts f (judged ++ set ∷ []) n ≡ verdicts f judged n)
    → judge_lines f (judged ++ set ∷ []) sets ≡ judge_lines f judged sets
lines-later f judged set [] below earlier = refl
lines-later f judged set (s ∷ sets) below earlier =
    let first : judge_line f (judged ++ set ∷ []) s ≡ judge_line f judged s = ap (line_of s.number) (earlier s.number below.0) in
    ap (λ line. line ++ judge_lines f (judged ++ set ∷ []) sets) first ∙ ap (λ lines. judge_line f judged s ++ lines) (lines-later f judged set sets below.1 earlier)

-- the rows that were judged so far, what is left, and the text so far
pub record Judged (count : ℕ) (all : List Row) (trip : Progress) (left : List Row) (text : List ℕ) (at next : ℕ) : Type 0 where
  pub done : List Row
  pub parts : all ≡ done ++ left
  pub counted : at ≡ length done
  pub settings : trip.settings ≡ judge_settings count
  pub follows : trip.window.next ≡ next
  pub stands : StandsFor trip (map set_of done)
  pub written : text ≡ judge_lines (judge_settings count) (map set_of done) (map set_of done)
  pub valid : first_fault 1 (row_faults 0 all) ≡ first_fault (at + 1) (row_faults next left)

-- no row is judged yet
pub Judged-none : (count : ℕ) (all : List Row) (trip : Progress) → trip.settings ≡ judge_settings count → trip.window.next ≡ 0 → StandsFor trip []
    → Judged count all trip all [] 0 0
Judged-none count all trip settings next stands =
    record { done = []; parts = refl; counted = refl; settings = settings; follows = next; stands = stands; written = refl; valid = refl }

-- good numbers come in order
numbers_in_order : (next : ℕ) (numbers : Option (List ℤ)) → numbers_fault next numbers ≡ None → next ≤ (set_of_numbers (unwrap_or numbers [])).number
numbers_in_order next None good = cc
numbers_in_order next (Some numbers) good = grind (arith, nat_tests)

-- a choice that gives nothing took the other way
other_way : {X : Type 0} (b : Bool) (x : X) (other : Option X) → (if b then Some x else other) ≡ None → other ≡ None
other_way true x other e = cc
other_way false x other e = e

-- a good row comes in order
row_in_order : (next : ℕ) (row : Row) → row_fault next row ≡ None → next ≤ (set_of row).number
row_in_order next row good = numbers_in_order next (numbers_of row) (other_way (not (length row == 7)) reason.Fields _ good)

-- one row more is judged
pub Judged-more : (count : ℕ) (all : List Row) (trip trip' : Progress) (row : Row) (set : SampleSet) (left : List Row) (text text' : List ℕ) (at next : ℕ)
    → (judged : Judged count all trip (row ∷ left) text at next) → row_fault next row ≡ None → set ≡ set_of row
    → trip'.settings ≡ trip.settings → trip'.window.next ≡ set.number + 1 → StandsFor trip' (map set_of judged.done ++ set ∷ [])
    → ((n : ℕ) → n < set.number → verdicts trip.settings (map set_of judged.done ++ set ∷ []) n ≡ verdicts trip.settings (map set_of judged.done) n)
    → text' ≡ text ++ line_of set.number (verdicts trip.settings (map set_of judged.done ++ set ∷ []) set.number)
    → Judged count all trip' left text' (at + 1) (set.number + 1)
Judged-more count all trip trip' row set left text text' at next judged good is_set settings follows stands earlier written =
    let f = judge_settings count in
    let sets = map set_of judged.done in
    let joined : map set_of (judged.done ++ row ∷ []) ≡ sets ++ set ∷ []
    = map-append set_of judged.done (row ∷ []) ∙ ap (λ s. sets ++ s ∷ []) (sym is_set) in
    let number : suc (set_of row).number ≡ set.number + 1 = ap (λ s. suc s.number) (sym is_set) ∙ sym (add-one set.number) in
    let order : next ≤ set.number = omega (arith, row_in_order next row good, number) in
    let before = all_below set.number sets (λ n above. judged.stands.window.below n (omega (arith, judged.follows))) in
    let same = rw judged.settings at earlier in
    let line = rw judged.settings at written in
    let lines : judge_lines f (sets ++ set ∷ []) (sets ++ set ∷ []) ≡ judge_lines f sets sets ++ line_of set.number (verdicts f (sets ++ set ∷ []) set.number)
    = flat_map-append (judge_line f (sets ++ set ∷ [])) sets (set ∷ []) ∙ rw (lines-later f sets set sets before same, append-nil) in
    record {
      done = judged.done ++ row ∷ [];
      parts = judged.parts ∙ sym (append_assoc judged.done (row ∷ []) left);
      counted = omega (arith, judged.counted, length-append judged.done (row ∷ []));
      settings = settings ∙ judged.settings;
      follows = follows;
      stands = rw joined stands;
      written = rw joined (line ∙ rw judged.written (sym lines));
      valid = judged.valid ∙ ap (λ o. first_fault (at + 1) (o ∷ row_faults (suc (set_of row).number) left)) good
          ∙ ap (λ n. first_fault (at + 1 + 1) (row_faults n left)) number;
    }

-- where no row is left, the text is that of all rows
pub Judged-all : (count : ℕ) (all : List Row) (trip : Progress) (left : List Row) (text : List ℕ) (at next : ℕ)
    → Judged count all trip left text at next → left ≡ [] → judge_rows count all ≡ Ok text
Judged-all count all trip left text at next judged e =
    let none : first_fault 1 (row_faults 0 all) ≡ None = judged.valid ∙ ap (λ rows. first_fault (at + 1) (row_faults next rows)) e in
    let done : judged.done ≡ all = sym (judged.parts ∙ rw e (append-nil judged.done)) in
    ap (λ o. unless o (judge_text count all)) none ∙ ap (λ t. Ok t) (sym (rw done at judged.written))

-- a bad row is the first one
pub Judged-bad : (count : ℕ) (all : List Row) (trip : Progress) (row : Row) (left : List Row) (text : List ℕ) (at next : ℕ) (reason : Reason)
    → Judged count all trip (row ∷ left) text at next → row_fault next row ≡ Some reason → judge_rows count all ≡ Err (record { row = at + 1; reason = reason })
Judged-bad count all trip row left text at next reason judged bad =
    ap (λ o. unless o (judge_text count all)) (judged.valid ∙ ap (λ o. first_fault (at + 1) (o ∷ row_faults (suc (set_of row).number) left)) bad)
