-- The phasor tables: 16384 times the cosine and the sine of each sample's place in its cycle, rounded.
use Rattle.std.specs.Prelude.{ℕ, ◌+◌, ◌-◌, ◌/◌, ◌%◌, ℤ, pos, neg_ℤ, nat_le, ◌==◌, if◌then◌else◌, List, [], ◌∷◌, slice_index_or}
use Rattle.phasor.specs.Point.{Point, scaled}

-- what the cosine of no turn is rounded to
abbrev pub scale : ℕ
scale = 16384

-- the cosines of the first quarter turn, its end included
abbrev pub quarter : ℕ → List ℤ
quarter c =
    if c == 4 then pos 16384 ∷ pos 0 ∷ []
    else if c == 8 then pos 16384 ∷ pos 11585 ∷ pos 0 ∷ []
    else if c == 12 then pos 16384 ∷ pos 14189 ∷ pos 8192 ∷ pos 0 ∷ []
    else if c == 16 then pos 16384 ∷ pos 15137 ∷ pos 11585 ∷ pos 6270 ∷ pos 0 ∷ []
    else pos 16384 ∷ pos 15582 ∷ pos 13255 ∷ pos 9630 ∷ pos 5063 ∷ pos 0 ∷ []

-- the cosine at k in the first half turn, whose second quarter mirrors the first with the other sign
abbrev pub half : ℕ → ℕ → ℤ
half c k = if nat_le k (c / 4) then slice_index_or (quarter c) k (pos 0) else neg_ℤ (slice_index_or (quarter c) (c / 2 - k) (pos 0))

-- C[k] of c samples a cycle: the second half turn mirrors the first
unfoldable pub cosine : ℕ → ℕ → ℤ
cosine c k = if nat_le k (c / 2) then half c k else half c (c - k)

-- S[k] is C a quarter turn before
unfoldable pub sine : ℕ → ℕ → ℤ
sine c k = cosine c ((k + c - c / 4) % c)

-- the factor of set k: (C[k mod c], S[k mod c])
abbrev pub factor : ℕ → ℕ → Point
factor c k = record { re = cosine c (k % c); im = sine c (k % c) }

-- what the value of set k adds to a sum: the value times the factor
abbrev pub weighed : ℕ → ℕ → ℤ → Point
weighed c k value = scaled value (factor c k)
