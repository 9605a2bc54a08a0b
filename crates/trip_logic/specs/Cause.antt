-- The sets that led to a trip.
use Rattle.std.specs.Prelude.{ℕ, ◌+◌, nat_lt, if◌then◌else◌, List, reverse, Option, None, slice_get}
use Rattle.ld_base.specs.declared.fields.Fields.{Fields}
use Rattle.ld_base.specs.declared.phases.SampleSet.{SampleSet}

-- the set that was judged `back` sets ago, 0 the last one: there is none where fewer were judged, nor from c + count on
abbrev pub cause : Fields → List SampleSet → ℕ → Option SampleSet
cause f judged back = if nat_lt back (f.cycle + f.count) then slice_get (reverse judged) back else None
