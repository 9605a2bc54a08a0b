-- Numbers in texts.
use Rattle.std.specs.Prelude.{ℕ, ◌&&◌, nat_le, nat_lt, ◌==◌, if◌then◌else◌, ℤ, pos, neg_ℤ, List, [], ◌∷◌, length, slice_index, Option, Some, None, option_map}
use Rattle.std.specs.Str.{all_ascii_digits}
use Rattle.std.specs.Str.Parse.{digits_value}

-- the value of 1 to 18 decimal digits
abbrev pub digits : List ℕ → Option ℕ
digits text = if nat_le 1 (length text) && nat_le (length text) 18 && all_ascii_digits text then Some (digits_value 10 text) else None

-- a number in a row: an optional minus and then 1 to 18 digits
abbrev pub number : List ℕ → Option ℤ
number [] = None
number (b ∷ rest) = if b == 45 then option_map (λ n. neg_ℤ (pos n)) (digits rest) else option_map pos (digits (b ∷ rest))

-- a number in a command word: digits without a leading zero, 0 itself aside
abbrev pub word_number : List ℕ → Option ℕ
word_number word = if nat_lt 1 (length word) && (slice_index word 0 == 48) then None else digits word
