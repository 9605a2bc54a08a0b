-- What one call more makes of a transfer.
use Rattle.std.proofs.Common.{◌≡◌, ◌∙◌, sym, refl, ap, ℕ, zero, suc, ◌+◌, ◌<◌, ◌≤◌, List, [], ◌∷◌, ◌++◌, length, take, Option, Some, None, append_assoc, length-append, arith}
use Rattle.std.proofs.lemmas.Bool.Decides.{nat_tests}
use Rattle.std.proofs.Math.Seq.{take-append_seam}
use Rattle.std.proofs.lemmas.List.{append-nil}
use Rattle.std.specs.Io.KnownBytes.{Appends, Consumes, Keeps}
use Rattle.ld_base.specs.Ends.{End}
use Rattle.ld_base.specs.Faults.{Rose, next_count}
use Rattle.bench_cmd.specs.Transfers.{GaveSome, Took, TookFront, largest_input}

-- one more fault makes a count rise
pub rose : (n : ℕ) → Rose n (next_count n)
rose n = grind (arith, nat_tests)

-- bytes taken in two turns are taken in one
pub Consumes-then : (a b c : Option (List ℕ)) (xs ys : List ℕ) → Consumes a b xs → Consumes b c ys → Consumes a c (xs ++ ys)
Consumes-then None b c xs ys p q = tt
Consumes-then (Some all) None c xs ys p q = absurd p
Consumes-then (Some all) (Some rest) None xs ys p q = absurd q
Consumes-then (Some all) (Some rest) (Some left) xs ys p q = rw (p, q) (sym (append_assoc xs ys left))

-- what is kept is taken nothing of
pub Consumes-keep : (a b c : Option (List ℕ)) (xs : List ℕ) → Consumes a b xs → Keeps b c → Consumes a c xs
Consumes-keep None b c xs p q = tt
Consumes-keep (Some all) None c xs p q = absurd p
Consumes-keep (Some all) (Some rest) None xs p q = absurd q
Consumes-keep (Some all) (Some rest) (Some left) xs p q = rw q p

-- nothing taken yet
pub Consumes-none : (a : Option (List ℕ)) → Consumes a a []
Consumes-none None = tt
Consumes-none (Some all) = refl

-- bytes written in two turns are written in one
pub Appends-then : (a b c : Option (List ℕ)) (xs ys : List ℕ) → Appends a b xs → Appends b c ys → Appends a c (xs ++ ys)
Appends-then None b c xs ys p q = tt
Appends-then (Some all) None c xs ys p q = absurd p
Appends-then (Some all) (Some more) None xs ys p q = absurd q
Appends-then (Some all) (Some more) (Some most) xs ys p q = rw (q, p) (append_assoc all xs ys)

-- what is kept is written nothing to
pub Appends-keep : (a b c : Option (List ℕ)) (xs : List ℕ) → Appends a b xs → Keeps b c → Appends a c xs
Appends-keep None b c xs p q = tt
Appends-keep (Some all) None c xs p q = absurd p
Appends-keep (Some all) (Some more) None xs p q = absurd q
Appends-keep (Some all) (Some more) (Some most) xs p q = rw q p

-- nothing written yet
pub Appends-none : (a : Option (List ℕ)) → Appends a a []
Appends-none None = tt
Appends-none (Some all) = sym (append-nil all)

-- a source that gave some bytes gives a piece more
pub GaveSome-more : (old mid new : End) (front piece : List ℕ) → GaveSome old mid front → Consumes mid.bytes new.bytes piece → new.faults ≡ mid.faults
    → length front + length piece ≤ largest_input + 1 → GaveSome old new (front ++ piece)
GaveSome-more old mid new front piece gave more steady few =
    record {
      gave = record { taken = Consumes-then old.bytes mid.bytes new.bytes front piece gave.gave.taken more; steady = steady ∙ gave.gave.steady };
      few = rw length-append few;
    }

-- a sink that took the front of a text takes one piece more
pub Took-more : (old mid new : End) (front piece : List ℕ) → Took old mid front → Appends mid.bytes new.bytes piece
    → new.faults ≡ mid.faults → Took old new (front ++ piece)
Took-more old mid new front piece took more steady =
    record { written = Appends-then old.bytes mid.bytes new.bytes front piece took.written more; steady = steady ∙ took.steady }

-- a sink that took the front of a text fails before its rest
pub Took-fails : (old mid new : End) (text front rest : List ℕ) → text ≡ front ++ rest → 0 < length rest → Took old mid front
    → Keeps mid.bytes new.bytes → new.faults ≡ next_count mid.faults → TookFront old new text
Took-fails old mid new text front rest e more took keeps fault =
    let same : take (length front) text ≡ front = rw e (take-append_seam front rest) in
    let count : new.faults ≡ next_count old.faults = rw took.steady at fault in
    record {
      count = length front;
      short = rw (e, length-append) (omega arith);
      written = rw same (Appends-keep old.bytes mid.bytes new.bytes front took.written keeps);
      rose = rw count (rose old.faults);
      once = count;
    }

-- the front of a longer front is the front
pub take-take : (n m : ℕ) (xs : List ℕ) → n ≤ m → take n (take m xs) ≡ take n xs
take-take zero m xs h = refl
take-take (suc n) zero xs h = absurd (omega arith)
take-take (suc n) (suc m) [] h = refl
take-take (suc n) (suc m) (x ∷ xs) h = ap (λ rest. x ∷ rest) (take-take n m xs (omega arith))
