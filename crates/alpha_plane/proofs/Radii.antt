-- Of two radius tests the one of the greater current decides.
use Rattle.std.proofs.Common.{◌≡◌, ℕ, ◌*◌, ◌≤◌, min, max, true, ◌&&◌, inl, inr, sym, refl, arith, mul-le-mul}
use Rattle.std.specs.Prelude.{nat_le}
use Rattle.std.proofs.Math.Bool.{and-true}
use Rattle.std.proofs.lemmas.Bool.{cases_lt, le-leb}
use Rattle.alpha_plane.specs.Inside.{square}

-- the lesser one passes its test
lesser_passes : (rd rn a b : ℕ) → rd ≤ rn → a ≤ b → nat_le (square rd * a) (square rn * b) ≡ true
lesser_passes rd rn a b h k = le-leb _ _ (mul-le-mul (mul-le-mul h h) k)

pub greater_decides : (rd rn local remote : ℕ) → rd ≤ rn
    → nat_le (square rd * max local remote) (square rn * min local remote)
    ≡ (nat_le (square rd * remote) (square rn * local) && nat_le (square rd * local) (square rn * remote))
greater_decides rd rn local remote h = elim (cases_lt local remote) [
  | inl below ↦
      let most : max local remote ≡ remote = omega arith in
      let least : min local remote ≡ local = omega arith in
      rw (most, least, lesser_passes rd rn local remote h (omega arith)) (sym (and-true _))
  | inr above ↦
      let most : max local remote ≡ local = omega arith in
      let least : min local remote ≡ remote = omega arith in
      rw (most, least, lesser_passes rd rn remote local h above) refl
]
