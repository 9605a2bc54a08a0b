-- The phasor tables as the code keeps them.
use Rattle.std.specs.Prelude.{ℕ, ℤ, List, map}
use Rattle.std.specs.List.{range_with_len}
use Rattle.phasor.specs.Factors.{cosine}

-- the cosines of each place in a cycle of c samples
abbrev pub cosines_of : ℕ → List ℤ
cosines_of c = map (cosine c) (range_with_len 0 c)
