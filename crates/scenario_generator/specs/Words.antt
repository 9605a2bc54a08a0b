-- The words of a number. (O'Neill, "PCG: a family of simple fast space-efficient statistically good algorithms for random number
-- generation": 64 bits of state, words of 32 bits.)
use Rattle.std.specs.Prelude.{ℕ, zero, suc, List, [], ◌∷◌, slice_index}
use Rattle.rand_pcg.specs.Lcg.{Lcg, increment_of, started}
use Rattle.rand_pcg.specs.Pcg.{multiplier_64, pcg32}

-- so many words of a generator, one after the other
unfoldable pub words_from : ℕ → Lcg → List ℕ
words_from zero source = []
words_from (suc n) source = (pcg32 source).0 ∷ words_from n (pcg32 source).1

-- the words of a number: those of a generator that starts from it, on stream 1
abbrev pub words_of : ℕ → List ℕ
words_of number = words_from 46 (started 64 multiplier_64 number (increment_of 64 1))

-- the word at a place
abbrev pub word : List ℕ → ℕ → ℕ
word words place = slice_index words place
