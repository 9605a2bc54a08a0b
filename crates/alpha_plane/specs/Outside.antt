-- The test of Out, over any currents of the stations and any limit: the differential current passes the limit, and each station lies
-- outside against all others. The phase element tests its sums so, and a sequence element its own.
use Rattle.std.specs.Prelude.{ℕ, ◌*◌, Bool, true, ◌&&◌, not, nat_lt, List, [], ◌∷◌, ◌++◌}
use Rattle.phasor.specs.Factors.{scale}
use Rattle.phasor.specs.Point.{Point, total}
use Rattle.alpha_plane.specs.Inside.{Sector, Inside, norm, square}

-- the parts of a current have at most 48 bits, and those of one station 46: so a difference of what four of them add up to is a current
abbrev pub current_bits : ℕ
current_bits = 48

abbrev pub station_bits : ℕ
station_bits = 46

-- the differential current, the sum of all, is more than half the limit
abbrev pub passes : ℕ → List Point → Bool
passes limit sums = nat_lt (square limit) (4 * norm (total sums))

-- each of the sums in `rest` lies outside against the sum of all others, those of `before` among them
abbrev pub each_outside : Sector → List Point → List Point → Bool
each_outside s before [] = true
each_outside s before (sum ∷ rest) = not (Inside s sum (total (before ++ rest))) && each_outside s (before ++ sum ∷ []) rest

-- the currents of the stations lie outside the region, and their differential current passes the limit
abbrev pub OutsideBeyond : Sector → ℕ → List Point → Bool
OutsideBeyond s limit sums = passes limit sums && each_outside s [] sums

-- the limit of a pickup: an amplitude of one count sums to half of c * scale
abbrev pub pickup_limit : ℕ → ℕ → ℕ
pickup_limit pickup c = pickup * c * scale

-- the sums of one phase, one for each station, lie outside the region, and their total is above the pickup
abbrev pub OutsideAll : Sector → ℕ → ℕ → List Point → Bool
OutsideAll s pickup c sums = OutsideBeyond s (pickup_limit pickup c) sums
