-- InForce: the exchange that decides how stamps of a peer are read. (The choice is this project's own.)
-- It is over any elements that have four stamps, so that a choice keeps where its messages came from.
use Rattle.std.specs.Prelude.{ℕ, ◌+◌, ℤ, pos, nat_le, int_le, int_lt, Bool, not, ◌&&◌, List, filter, reverse, take, find, Option}
use Rattle.std.specs.List.{list_all}
use Rattle.pingpong.specs.Exchange.{Stamps, round_trip}

-- whether an exchange took too long
abbrev pub is_slow : ℕ → Stamps → Bool
is_slow slow e = int_lt (pos slow) (round_trip e)

-- whether an exchange had begun at a stamp, and not longer ago than that age
abbrev pub is_candidate : ℕ → ℕ → Stamps → Bool
is_candidate age now e = nat_le e.a1 now && nat_le now (e.a1 + age)

-- the last eight that aren't slow, the newest first
abbrev pub kept : {A : Type 0} → (A → Stamps) → ℕ → List A → List A
kept stamps slow offered = take 8 (reverse (filter (λ x. not (is_slow slow (stamps x))) offered))

-- the first element whose value is no greater than any
abbrev pub first_least : {A : Type 0} → (A → ℤ) → List A → Option A
first_least value xs = find (λ x. list_all (λ y. int_le (value x) (value y)) xs) xs

-- the first candidate with the least round trip
abbrev pub chosen : {A : Type 0} → (A → Stamps) → ℕ → ℕ → List A → Option A
chosen stamps age now newest_first = first_least (λ x. round_trip (stamps x)) (filter (λ x. is_candidate age now (stamps x)) newest_first)

-- the one in force at a stamp, of all that were offered so far, oldest first
abbrev pub InForce : {A : Type 0} → (A → Stamps) → ℕ → ℕ → ℕ → List A → Option A
InForce stamps slow age now offered = chosen stamps age now (kept stamps slow offered)
