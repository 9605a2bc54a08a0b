-- Which regions are accepted, and the first fault of those that are not.
use Rattle.std.specs.Prelude.{◌&&◌, not, nat_le, pos, negsuc, int_le, if◌then◌else◌, Option, Some, None}
use Rattle.alpha_plane.specs.Inside.{Sector}
use Rattle.alpha_plane.specs.declared.region.BadRegion.{BadRegion}
use Rattle.alpha_plane.specs.declared.region.BadRegion.TheVariants.{Radius, Direction}

-- the first fault of a sector: its radius, or else its direction
unfoldable pub region_fault : Sector → Option BadRegion
region_fault s =
    if not (nat_le 1 s.rd && nat_le s.rd s.rn && nat_le s.rn 10000) then Some Radius
    else if not (int_le (negsuc 9999) s.p && int_le s.p (pos 10000) && int_le (pos 1) s.q && int_le s.q (pos 10000)) then Some Direction
    else None
