-- The first fault of settings by its parts, and what holds of settings that have none.
use Rattle.std.proofs.Common.{◌≡◌, ◌≢◌, ℕ, ◌≤ℤ◌, ℤ, pos, unsigned_abs, Bool, true, false, not, ◌&&◌, nat_le, int_le, List, [], ◌∷◌, Option, Some, None, option_map, find, refl, arith}
use Rattle.std.proofs.lemmas.Bool.Decides.{nat_tests}
use Rattle.std.proofs.lemmas.Int.{ints}
use Rattle.std.specs.Option.{option_or}
use Rattle.ld_base.specs.declared.fields.Fields.{Fields}
use Rattle.ld_base.specs.declared.fields.Key.{Key}
use Rattle.ld_base.specs.declared.settings.BadSetting.TheVariants.{Range}
use Rattle.ld_base.specs.Settings.{IsWithin, is_within, ranges, key_out_of_range, misfit, setting_fault, AreInRange}

-- a field outside its range is the first fault
pub fault_of_range : (f : Fields) (k : Key) → key_out_of_range f ≡ Some k → setting_fault f ≡ Some (Range k)
unfolding setting_fault
fault_of_range f k e = rw e

-- where there is none, a misfit is
pub fault_of_misfit : (f : Fields) → key_out_of_range f ≡ None → setting_fault f ≡ misfit f
unfolding setting_fault
fault_of_misfit f e = rw e

-- settings with no fault have neither
pub no_fault_in_parts : (f : Fields) → setting_fault f ≡ None → (key_out_of_range f ≡ None) × (misfit f ≡ None)
unfolding setting_fault
no_fault_in_parts f e = neither (key_out_of_range f) e
  where
    neither : (k : Option Key) → option_or (option_map (λ k. Range k) k) (misfit f) ≡ None → (k ≡ None) × (misfit f ≡ None)
    neither None e = (refl, e)
    neither (Some k) e = cc

-- each range of the table holds
abbrev AllHold : List (Key × Bool) → Type 0
AllHold [] = Unit {0}
AllHold (r ∷ rs) = (r.1 ≡ true) × AllHold rs

-- where the search for one that does not finds none, each does
AllHold-from_find : (rs : List (Key × Bool)) → option_map (λ r. r.0) (find (λ r. not r.1) rs) ≡ None → AllHold rs
AllHold-from_find [] e = tt
AllHold-from_find ((k, true) ∷ rs) e = (refl, AllHold-from_find rs e)
AllHold-from_find ((k, false) ∷ rs) e = cc

-- a test of a range gives its bounds
within_bounds : (range : ℕ × ℕ) (n : ℕ) → is_within range n ≡ true → IsWithin range n
within_bounds range n e = grind (arith, nat_tests)

-- the inner radius is no greater than the outer one
radius_bounds : (rd rn : ℕ) → (is_within (1, 10000) rd && nat_le rd rn) ≡ true → IsWithin (1, rn) rd
radius_bounds rd rn e = grind (arith, nat_tests)

-- the upper edge points upward
upward_bounds : (q : ℤ) → (is_within (1, 10000) (unsigned_abs q) && int_le (pos 0) q) ≡ true → IsWithin (1, 10000) (unsigned_abs q) × (pos 0 ≤ℤ q)
upward_bounds q e = grind (arith, ints, nat_tests)

-- where no key is out of range, each range holds
pub AreInRange-from_keys : (f : Fields) → key_out_of_range f ≡ None → AreInRange f
unfolding key_out_of_range
AreInRange-from_keys f e = let all : AllHold (ranges f) = AllHold-from_find (ranges f) e in search (arith, within_bounds, radius_bounds, upward_bounds)

-- and so where there is no fault
pub AreInRange-from_no_fault : (f : Fields) → setting_fault f ≡ None → AreInRange f
AreInRange-from_no_fault f e = AreInRange-from_keys f (no_fault_in_parts f e).0

-- and the header words differ
pub words_differ : (f : Fields) → setting_fault f ≡ None → f.worda ≢ f.wordb
words_differ f e = grind (arith, nat_tests, (no_fault_in_parts f e).1)
