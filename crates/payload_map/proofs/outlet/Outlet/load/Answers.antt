use Rattle.std.proofs.Common.{◌≡◌, ◌++◌, ◌∙◌, arith, drop, length, subst, sym}
use Rattle.std.proofs.lemmas.List.{length-append, length-drop, take_at}
use Rattle.std.proofs.lemmas.Slice.{drop-append-drop}
use Rattle.payload_map.specs.Outlet.{StandsFor}
use Rattle.payload_map.proofs.Slots.{stands-loaded}
use Rattle.payload_map.proofs.outlet.Outlet.load.Goals as goal

pub invariant_of-self : goal.invariant_of-self
invariant_of-self c =
    let o = c.self.inside in
    let bytes = c.copy_from_slice.new.self in
    let long : length bytes ≡ 36 = grind arith in
    let rest = drop-append-drop 36 o.message bytes 36 (omega arith) long in
    let size : length (bytes ++ drop 36 o.message) ≡ 48 = length-append bytes (drop 36 o.message) ∙ omega (arith, long, length-drop 36 o.message, c.self.told) in
    (c.self.invariant.0, c.self.invariant.1, omega arith, size, rest ∙ c.self.invariant.4)

pub returns-clause-stands : goal.returns-clause-stands
returns-clause-stands c n words slots loaded stands =
    let o = c.self.inside in
    let bytes = c.copy_from_slice.new.self in
    let long : length bytes ≡ 36 = grind arith in
    let h = subst (λ sender. StandsFor sender n words slots loaded) (sym c.self.view_is) stands in
    stands-loaded n words slots loaded _ c.args.bytes _ h (grind arith) (take_at bytes (drop 36 o.message) 36 long ∙ c.copy_from_slice.ensures.after)
