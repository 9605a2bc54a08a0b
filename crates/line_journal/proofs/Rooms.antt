-- For how many calls there is room.
use Rattle.std.specs.Prelude.{min, fold}
use Rattle.std.proofs.Common.{ℕ, zero, suc, ◌+◌, ◌*◌, ◌/◌, ◌≤◌, List, [], ◌∷◌, All, arith}
use Rattle.std.proofs.lemmas.List.Elements.{All-cons, All-nil, All-head, All-tail}
use Rattle.line_journal.specs.Inside.{room_in}
use Rattle.line_journal.specs.LineHistory.{LineHistory}

least : (a : ℕ) (histories : List LineHistory) → fold (λ least history. min least history.room) a histories ≤ a
least a [] = omega arith
least a (l ∷ histories) = omega (arith, least (min a l.room) histories)

-- each history has as much room
pub room-each : (n a : ℕ) (histories : List LineHistory) → n ≤ fold (λ least history. min least history.room) a histories → All (λ l. n ≤ l.room) histories
room-each n a [] within = All-nil (λ l. n ≤ l.room)
room-each n a (l ∷ histories) within =
    All-cons (λ l. n ≤ l.room) l histories (omega (arith, within, least (min a l.room) histories)) (room-each n (min a l.room) histories within)

pub room-lines : (n lines : ℕ) (histories : List LineHistory) → n ≤ room_in lines histories → n * 12 ≤ lines
room-lines n lines histories within = let most = least (lines / 12) histories in omega (arith, within, most)

-- and where lines and histories have it, there is room
pub room-all : (n lines : ℕ) (histories : List LineHistory) → n * 12 ≤ lines → All (λ l. n ≤ l.room) histories → n ≤ room_in lines histories
room-all n lines histories enough each = go (lines / 12) histories (omega arith) each
  where
    go : (a : ℕ) (histories : List LineHistory) → n ≤ a → All (λ l. n ≤ l.room) histories → n ≤ fold (λ least history. min least history.room) a histories
    go a [] most each = most
    go a (l ∷ histories) most each = go (min a l.room) histories (omega (arith, most, All-head (λ l. n ≤ l.room) l histories each)) (All-tail (λ l. n ≤ l.room) l histories each)

-- at most twelve lines more, and on no history more than one message
pub room-after : (old new : ℕ) (before after : List LineHistory) → old ≤ new + 12
    → ((n : ℕ) → All (λ l. suc n ≤ l.room) before → All (λ l. n ≤ l.room) after) → room_in old before ≤ room_in new after + 1
room-after old new before after lines each = go (room_in old before) (omega arith)
  where
    go : (n : ℕ) → n ≤ room_in old before → n ≤ room_in new after + 1
    go zero within = omega arith
    go (suc n) within =
        let enough = room-lines (suc n) old before within in
        let rest = room-all n new after (omega (arith, enough, lines)) (each n (room-each (suc n) (old / 12) before within)) in
        omega (arith, rest)

-- the histories as they were
pub room-same : (n : ℕ) (histories : List LineHistory) → All (λ l. suc n ≤ l.room) histories → All (λ l. n ≤ l.room) histories
room-same n histories each k d inside = omega (arith, each k d inside)
