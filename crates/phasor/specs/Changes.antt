-- How sums change: the sums once the values of a set came in and those of another went out, both with one factor.
use Rattle.std.specs.Prelude.{◌-ℤ◌, List, [], slice_index_or}
use Rattle.ld_base.specs.declared.phases.Phases.{Phases}
use Rattle.phasor.specs.Point.{Point, origin, plus, scaled}
use Rattle.ld_base.specs.Phases.{no_current}
use Rattle.phasor.specs.Sum.{of_three, phase_of}

-- the sums of no sets
abbrev pub no_sums : List (List Point)
no_sums = of_three (λ station. of_three (λ phase. origin))

-- those of a station's phases
abbrev pub changed_station : List Point → Phases → Phases → Point → List Point
changed_station sums newest oldest factor =
    of_three (λ phase. plus (slice_index_or sums phase origin) (scaled (phase_of phase newest -ℤ phase_of phase oldest) factor))

-- those of all stations
abbrev pub changed : List (List Point) → List Phases → List Phases → Point → List (List Point)
changed sums newest oldest factor =
    of_three (λ station. changed_station (slice_index_or sums station []) (slice_index_or newest station no_current) (slice_index_or oldest station no_current) factor)
