-- The ranges of a row's numbers.
use Rattle.std.proofs.Common.{◌≡◌, refl, arith, Bool, true, ◌&&◌, ℤ, pos, List, [], ◌∷◌, length}
use Rattle.row_reader.specs.RowNumbers.{is_between, number_at}
use Rattle.bench_cmd.specs.Judge.{are_values_at, is_in_range}

-- the tests of six values, three at a time
by_threes : (a b c d e f : Bool) → a && (b && (c && (d && (e && (f && true))))) ≡ a && b && c && (d && e && f)
by_threes a b c d e f = grind arith

-- the test of seven numbers: that of the first, and of three values twice
pub is_in_range-seven : (numbers : List ℤ) → length numbers ≡ 7
    → is_in_range numbers ≡ is_between (pos 0, pos 4294967295) (number_at numbers 0) && (are_values_at numbers 1 && are_values_at numbers 4)
is_in_range-seven (n ∷ a ∷ b ∷ c ∷ d ∷ e ∷ f ∷ []) h = rw by_threes refl
is_in_range-seven numbers h = absurd (omega arith)
