-- The restraint region of settings in their ranges is accepted.
use Rattle.std.specs.Prelude.{◌≡◌, None}
use Rattle.std.proofs.Common.{arith}
use Rattle.std.proofs.lemmas.Bool.Decides.{nat_tests}
use Rattle.std.proofs.lemmas.Int.{ints}
use Rattle.ld_base.specs.declared.fields.Fields.{Fields}
use Rattle.ld_base.specs.Settings.{AreInRange}
use Rattle.alpha_plane.specs.Region.{region_fault}
use Rattle.trip_logic.specs.TripAt.{sector_of}

-- it has no fault
pub region_fault-in_range : (f : Fields) → AreInRange f → region_fault (sector_of f) ≡ None
unfolding region_fault
region_fault-in_range f in_range = grind (arith, nat_tests, ints)
