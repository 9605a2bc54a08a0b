-- A queue by due tick, as a list of chunks with their due ticks.
use Rattle.std.proofs.Common.{◌≡◌, ℕ, zero, suc, ◌<◌, ◌≤◌, Bool, true, false, nat_lt, if◌then◌else◌, List, [], ◌∷◌, get_or, length, map, arith, ap, sym, ◌∙◌, refl}
use Rattle.std.specs.List.{insert}
use Rattle.std.specs.List.Sorted.{IsNonDecreasingBy, IsPartitionPoint}
use Rattle.std.proofs.lemmas.List.Sorted.{IsNonDecreasingBy-insert}
use Rattle.std.proofs.lemmas.Bool.Decides.{nat_tests}
use Rattle.ld_base.specs.Script.{Due, queued}
use Rattle.script_wire.specs.Wires.{due_of}

-- a chunk at the place behind all that aren't due later
pub queued_at : (chunks : List (ℕ × List ℕ)) (place due : ℕ) (bits : List ℕ) → place ≤ length chunks
    → IsPartitionPoint (λ chunk. chunk.0 ≤ due) (λ chunk. due < chunk.0) chunks place
    → map due_of (insert chunks place (due, bits)) ≡ queued (map due_of chunks) (record { due = due; bits = bits })
queued_at [] zero due bits h parts = refl
queued_at [] (suc place) due bits h parts = absurd (omega arith)
queued_at (chunk ∷ chunks) zero due bits h parts =
    let later : due < chunk.0 = parts.1 0 chunk (omega arith) (omega arith) in
    let test : nat_lt due chunk.0 ≡ true = grind (arith, nat_tests) in
    sym (ap (λ (b : Bool). if b then record { due = due; bits = bits } ∷ due_of chunk ∷ map due_of chunks
    else due_of chunk ∷ queued (map due_of chunks) (record { due = due; bits = bits })) test)
queued_at (chunk ∷ chunks) (suc place) due bits h parts =
    let sooner : chunk.0 ≤ due = parts.0 0 chunk (omega arith) (omega arith) in
    let test : nat_lt due chunk.0 ≡ false = grind (arith, nat_tests) in
    ap (λ (rest : List Due). due_of chunk ∷ rest)
    (queued_at chunks place due bits (omega arith) (λ k d low lt. parts.0 (suc k) d (omega arith) (omega arith), λ k d low lt. parts.1 (suc k) d (omega arith) (omega arith)))
    ∙ sym (ap (λ (b : Bool). if b then record { due = due; bits = bits } ∷ due_of chunk ∷ map due_of chunks
    else due_of chunk ∷ queued (map due_of chunks) (record { due = due; bits = bits })) test)

-- due ticks rise with it there
pub rises_at : (chunks : List (ℕ × List ℕ)) (place due : ℕ) (bits : List ℕ) → IsNonDecreasingBy (λ chunk. chunk.0) chunks → place ≤ length chunks
    → IsPartitionPoint (λ chunk. chunk.0 ≤ due) (λ chunk. due < chunk.0) chunks place
    → IsNonDecreasingBy (λ chunk. chunk.0) (insert chunks place (due, bits))
rises_at chunks place due bits rises h parts =
    IsNonDecreasingBy-insert (λ chunk. chunk.0) chunks place (due, bits) rises h
    (λ k d lt. parts.0 k d (omega arith) lt) (λ k d low lt. let later : due < (get_or chunks k d).0 = parts.1 k d low lt in omega arith)
