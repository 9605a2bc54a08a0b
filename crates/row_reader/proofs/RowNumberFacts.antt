-- Numbers that are read one after another, and their ranges.
use Rattle.std.proofs.Common.{◌≡◌, refl, ap, ℕ, zero, suc, ◌+◌, ◌<◌, length, drop, ℤ, List, [], ◌∷◌, ◌++◌, Option, Some, None, append_assoc, arith, ◌≤◌, true, pos}
use Rattle.std.specs.Prelude.{option_and_then}
use Rattle.std.proofs.lemmas.Bool.Decides.{nat_tests}
use Rattle.std.proofs.lemmas.Int.{ints}
use Rattle.csv.specs.Records.{field_at}
use Rattle.row_reader.specs.Numbers.{number}
use Rattle.row_reader.specs.RowNumbers.{both, is_between, numbers_of}
use Rattle.row_reader.specs.Rows.{Row}

-- numbers that were read, in front of others
abbrev pub joined : List ℤ → Option (List ℤ) → Option (List ℤ)
joined done None = None
joined done (Some rest) = Some (done ++ rest)

-- one number more is read
joined-more : (done : List ℤ) (n : ℤ) (rest : Option (List ℤ)) → joined done (both (Some n) rest) ≡ joined (done ++ n ∷ []) rest
joined-more done n None = refl
joined-more done n (Some rest) = ap (λ xs. Some xs) (grind (arith, append_assoc))

-- one field more is a number
pub numbers_more : (fields : Row) (done : List ℤ) (place : ℕ) (n : ℤ) → option_and_then number (field_at fields place) ≡ Some n
    → joined done (numbers_of (drop place fields)) ≡ joined (done ++ n ∷ []) (numbers_of (drop (place + 1) fields))
unfolding field_at
numbers_more [] done place n is = cc
numbers_more (field ∷ fields) done zero n is = rw is (joined-more done n (numbers_of fields))
numbers_more (field ∷ fields) done (suc place) n is = let next : suc place + 1 ≡ suc (place + 1) = omega arith in rw next (numbers_more fields done place n is)

-- a field is no number
pub numbers_none : (fields : Row) (done : List ℤ) (place : ℕ) → place < length fields → option_and_then number (field_at fields place) ≡ None
    → joined done (numbers_of (drop place fields)) ≡ None
unfolding field_at
numbers_none [] done place inside is = absurd (omega arith)
numbers_none (field ∷ fields) done zero inside is = rw is refl
numbers_none (field ∷ fields) done (suc place) inside is = numbers_none fields done place (omega arith) is

-- a number in its range
pub between : (least greatest n : ℕ) → least ≤ n → n ≤ greatest → is_between (pos least, pos greatest) (pos n) ≡ true
between least greatest n low high = grind (arith, ints, nat_tests)
