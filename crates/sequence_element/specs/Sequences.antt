-- The sequences of a station's phases in whole numbers: the zero sequence, and the negative and the positive one at 1024 times their
-- size. (Symmetrical components of Fortescue. That they aren't divided by three, the scale 1024, its whole numbers for a third of a
-- turn, and the sense of the turn, which is that of the sums, are this project's own.)
use Rattle.std.specs.Prelude.{ℕ, pos, negsuc, ◌+ℤ◌, ◌-ℤ◌, ◌*ℤ◌, List, slice_index_or}
use Rattle.phasor.specs.Point.{Point, origin, plus, scaled}
use Rattle.alpha_plane.specs.Product.{product}

-- 1024 times a third of a turn, forwards and backwards: r = (-512, 887) and r' = (-512, -887)
abbrev pub forwards : Point
forwards = record { re = negsuc 511; im = pos 887 }

abbrev pub backwards : Point
backwards = record { re = negsuc 511; im = negsuc 886 }

-- the sum of a station's phase: a is 0, b is 1 and c is 2
abbrev pub of_phase : ℕ → List Point → Point
of_phase phase sums = slice_index_or sums phase origin

-- the zero sequence: the three phases added up
abbrev pub zero_sequence : List Point → Point
zero_sequence sums = plus (plus (of_phase 0 sums) (of_phase 1 sums)) (of_phase 2 sums)

-- the three phases added up, b and c turned, at 1024 times their size
abbrev pub turned_sum : Point → Point → List Point → Point
turned_sum b_turn c_turn sums =
    plus (plus (scaled (pos 1024) (of_phase 0 sums)) (product b_turn (of_phase 1 sums))) (product c_turn (of_phase 2 sums))

-- the negative sequence: b is turned forwards and c backwards
abbrev pub negative_sequence : List Point → Point
negative_sequence sums = turned_sum forwards backwards sums

-- the positive sequence, its mirror image
abbrev pub positive_sequence : List Point → Point
positive_sequence sums = turned_sum backwards forwards sums

-- how the negative sequence is calculated: with the sum and the difference of b and c, since both turns have one real part
abbrev pub combined : Point → Point → Point → Point
combined a both apart = record {
  re = (pos 1024 *ℤ a.re -ℤ pos 512 *ℤ both.re) -ℤ pos 887 *ℤ apart.im;
  im = (pos 1024 *ℤ a.im -ℤ pos 512 *ℤ both.im) +ℤ pos 887 *ℤ apart.re;
}
