-- The moments that a world has carried out are first moments of its scenario.
use Rattle.std.proofs.Common.{◌≡◌, ℕ, zero, suc, ◌+◌, ◌-◌, ◌<◌, List, [], ◌++◌, arith, ⊎_elim, sym, ap, ◌∙◌, append_assoc}
use Rattle.std.proofs.lemmas.List.{append-nil}
use Rattle.ld_base.specs.declared.fields.Fields.{Fields}
use Rattle.line_world.specs.Journals.{AreFirst}
use Rattle.line_world.specs.Occasions.{Moment, moments, moments_at}
use Rattle.line_world.specs.Worlds.{IsWorld, World}
use Rattle.line_world.proofs.Idle.{moments_more}

-- the moments of the ticks below one are first moments of those of some ticks more
later_ones : (f : Fields) (from ticks : ℕ) → (left : List Moment) × (moments f from ++ left ≡ moments f (from + ticks))
later_ones f from zero = ([], append-nil (moments f from) ∙ ap (λ (n : ℕ). moments f n) (omega arith))
later_ones f from (suc ticks) =
    let (left, are) = later_ones f from ticks in (
      left ++ moments_at f (from + ticks),
      sym (append_assoc (moments f from) left (moments_at f (from + ticks))) ∙ ap (λ (these : List Moment). these ++ moments_at f (from + ticks)) are
          ∙ sym (moments_more f (from + ticks)) ∙ ap (λ (n : ℕ). moments f n) (omega arith),
    )

module _ (w : World) (is : IsWorld w) where
  abbrev f : Fields
  f = w.setup.settings

  whole_ticks : is.done.part ≡ [] → AreFirst w.setup is.these
  whole_ticks none =
      let (left, are) = later_ones f w.next (w.setup.end - w.next) in
      record {
        left = left;
        are = ap (λ (these : List Moment). these ++ left)
            (is.done.whole ∙ ap (λ (part : List Moment). moments f w.next ++ part) none ∙ append-nil (moments f w.next))
            ∙ are ∙ ap (λ (n : ℕ). moments f n) (omega (arith, is.within));
      }

  cut_in_a_tick : w.next < w.setup.end → AreFirst w.setup is.these
  cut_in_a_tick below =
      let (left, are) = later_ones f (suc w.next) (w.setup.end - suc w.next) in
      record {
        left = is.done.left ++ left;
        are = ap (λ (these : List Moment). these ++ (is.done.left ++ left)) is.done.whole
            ∙ sym (append_assoc (moments f w.next ++ is.done.part) is.done.left left)
            ∙ ap (λ (these : List Moment). these ++ left)
            (append_assoc (moments f w.next) is.done.part is.done.left ∙ ap (λ (these : List Moment). moments f w.next ++ these) is.done.tick ∙ sym (moments_more f w.next))
            ∙ are ∙ ap (λ (n : ℕ). moments f n) (omega (arith, below));
      }

  pub are_first : AreFirst w.setup is.these
  are_first = ⊎_elim whole_ticks (λ (_, below). cut_in_a_tick below) is.done.part_of
