-- The last sets judged, after one set more, and read from the last one back.
use Rattle.std.proofs.Common.{◌≡◌, ◌∙◌, sym, ap, refl, ℕ, ◌+◌, ◌-◌, ◌<◌, ◌≤◌, if◌then◌else◌, List, [], ◌∷◌, ◌++◌, length, take, drop, reverse, Some, None, slice_get, get_or, append_assoc, length-append, length-drop, take-append-drop, inl, inr, arith}
use Rattle.std.specs.Prelude.{nat_lt}
use Rattle.std.proofs.lemmas.Bool.{cases_lt, lt-ltb, le-ltb}
use Rattle.std.proofs.lemmas.List.{length_push, length-reverse, get_or-reverse, get_or-append_right}
use Rattle.std.proofs.lemmas.Option.{slice_get-get_or, slice_get_past}
use Rattle.ld_base.specs.declared.fields.Fields.{Fields}
use Rattle.ld_base.specs.declared.phases.SampleSet.{SampleSet}
use Rattle.trip_logic.specs.Cause.{cause}
use Rattle.trip_logic.specs.Progress.{AreLast, most_recent}

-- with one set more the first ones go that are too many
pub AreLast-push : (most : ℕ) (judged recent : List SampleSet) (set : SampleSet) → AreLast most judged recent
    → AreLast most (judged ++ set ∷ []) (drop (length (recent ++ set ∷ []) - most) (recent ++ set ∷ []))
AreLast-push most judged recent set last =
    let all = recent ++ set ∷ [] in
    let many = length all - most in
    record {
      before = last.before ++ take many all;
      parts = ap (λ sets. sets ++ set ∷ []) last.parts ∙ append_assoc last.before recent (set ∷ [])
          ∙ ap (λ sets. last.before ++ sets) (sym (take-append-drop many all)) ∙ sym (append_assoc last.before (take many all) (drop many all));
      many = omega (arith, length-drop many all, length_push recent set, length_push judged set, last.many);
    }

-- a set that is read back from the last one
read_back : (sets : List SampleSet) (back : ℕ) (d : SampleSet) → back < length sets
    → slice_get (reverse sets) back ≡ slice_get sets (length sets - back - 1)
read_back sets back d within =
    let inside : back < length (reverse sets) = omega (arith, length-reverse sets) in
    let place : length sets - 1 - back ≡ length sets - back - 1 = omega arith in
    slice_get-get_or (reverse sets) back d inside ∙ ap Some (get_or-reverse sets back d within ∙ ap (λ k. get_or sets k d) place)
    ∙ sym (slice_get-get_or sets (length sets - back - 1) d (omega arith))

-- among the last ones it is the same
read_last : (most : ℕ) (judged recent : List SampleSet) (back : ℕ) (d : SampleSet) → AreLast most judged recent → back < length recent
    → slice_get recent (length recent - back - 1) ≡ slice_get (reverse judged) back
read_last most judged recent back d last within =
    let all : length judged ≡ length last.before + length recent = ap length last.parts ∙ length-append last.before recent in
    let place : length judged - back - 1 - length last.before ≡ length recent - back - 1 = omega arith in
    slice_get-get_or recent (length recent - back - 1) d (omega arith)
    ∙ ap (λ k. Some (get_or recent k d)) (sym place)
    ∙ ap Some (sym (get_or-append_right last.before recent (length last.before) (length judged - back - 1) d refl (omega arith)))
    ∙ ap (λ sets. Some (get_or sets (length judged - back - 1) d)) (sym last.parts)
    ∙ sym (slice_get-get_or judged (length judged - back - 1) d (omega arith))
    ∙ sym (read_back judged back d (omega arith))

-- so a rule that keeps them knows the sets that led to a trip
pub cause_read : (f : Fields) (judged recent : List SampleSet) (back : ℕ) → AreLast (most_recent f) judged recent
    → (if nat_lt back (length recent) then slice_get recent (length recent - back - 1) else None) ≡ cause f judged back
cause_read f judged recent back last = elim (cases_lt back (length recent)) [
  | inl within ↦
      let near : back < f.cycle + f.count = omega (arith, last.many) in
      rw (lt-ltb back (length recent) within, lt-ltb back (f.cycle + f.count) near)
      (read_last (most_recent f) judged recent back (record { number = 0; values = [] }) last within)
  | inr past ↦ rw (le-ltb back (length recent) past) (elim (cases_lt back (f.cycle + f.count)) [
    | inl near ↦
        let none : length (reverse judged) ≤ back = omega (arith, length-reverse judged, last.many) in
        rw (lt-ltb back (f.cycle + f.count) near) (sym (slice_get_past (reverse judged) back none))
    | inr far ↦ rw (le-ltb back (f.cycle + f.count) far) refl
  ])
]
