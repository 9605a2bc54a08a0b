-- Fields of bytes, the highest byte of a number first.
use Rattle.std.specs.Prelude.{ℕ, ◌+◌, ◌-◌, List, slice_index}
use Rattle.std.specs.Int.{byte_worth, sum_through}

-- the number that so many bytes from a place on are
abbrev pub number_at : ℕ → ℕ → List ℕ → ℕ
number_at place count bytes = sum_through (λ i. byte_worth (count - 1 - i) (slice_index bytes (place + i))) (count - 1)
