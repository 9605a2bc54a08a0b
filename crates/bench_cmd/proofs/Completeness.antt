-- What follows for a source that tells its bytes, where no count of faults rose.
use Rattle.std.proofs.Common.{◌≡◌, ◌∙◌, sym, refl, ap, subst, inl, inr, ℕ, ◌<◌, ◌≤◌, ◌⊎◌, List, length, Option, Some, None, Result, Ok, Err, length-append, arith}
use Rattle.std.proofs.lemmas.List.{append-nil}
use Rattle.std.specs.Io.KnownBytes.{Consumes, IsAtEnd}
use Rattle.ld_base.specs.Ends.{End}
use Rattle.ld_base.specs.Faults.{Rose}
use Rattle.bench_cmd.specs.Answers.{Answers, Completes, Written}
use Rattle.row_reader.specs.declared.fault.Fault.{Fault}
use Rattle.bench_cmd.specs.Transfers.{GaveAll, Took, largest_input}
use Rattle.bench_cmd.specs.declared.status.Status.{Status}
use Rattle.bench_cmd.specs.declared.status.Status.TheVariants as status

-- a source at its end gave all that it told
all_taken : (left : Option (List ℕ)) (told input : List ℕ) → Consumes (Some told) left input → IsAtEnd left → input ≡ told
all_taken None told input taken ended = absurd taken
all_taken (Some rest) told input taken ended = sym (taken ∙ rw ended (append-nil input))

-- a source gives no more than it told
no_more_taken : (left : Option (List ℕ)) (told input : List ℕ) → Consumes (Some told) left input → length input ≤ length told
no_more_taken None told input taken = absurd taken
no_more_taken (Some rest) told input taken = omega (arith, ap length taken, length-append input rest)

-- want of memory completes every outcome
memory_completes : (made : Result (List ℕ) Fault) (sink sink' : End) → Completes made sink sink' status.NoMemory
memory_completes (Ok text) sink sink' = inr refl
memory_completes (Err fault) sink sink' = inr refl

-- an outcome that was written without a fault of the sink was written whole
written_whole : (made : Result (List ℕ) Fault) (sink sink' : End) (answer : Status) → ¬ Rose sink.faults sink'.faults
    → Written made sink sink' answer → Completes made sink sink' answer
written_whole (Ok text) sink sink' status.Done calm w =
    let same : w.0 ≡ text = cc (w.1) in inl (refl, subst (λ t. Took sink sink' t) same w.2)
written_whole (Err fault) sink sink' status.Done calm w = cc (w.1)
written_whole (Ok text) sink sink' (status.BadInput row reason) calm w = cc (w.0)
written_whole (Err fault) sink sink' (status.BadInput row reason) calm w =
    let same : record { row = row; reason = reason } ≡ fault = cc (w.0) in
    subst (λ f. Completes (Err f) sink sink' (status.BadInput row reason)) same
    (elim w.1 [ inl took ↦ inl (refl, took) | inr front ↦ absurd (calm front.rose) ])
written_whole (Ok text) sink sink' status.WriteFault calm w = absurd (calm w.2.rose)
written_whole (Err fault) sink sink' status.WriteFault calm w = cc (w.1)
written_whole made sink sink' status.NoMemory calm w = memory_completes made sink sink'
written_whole made sink sink' status.Usage calm w = absurd w
written_whole made sink sink' status.ReadFault calm w = absurd w
written_whole made sink sink' status.TooLarge calm w = absurd w

-- the same of the whole of what a source told
pub whole_written : (job : List ℕ → Result (List ℕ) Fault) (source source' sink sink' : End) (answer : Status) (told input : List ℕ)
    → source.bytes ≡ Some told → ¬ Rose sink.faults sink'.faults → GaveAll source source' input
    → Written (job input) sink sink' answer → Completes (job told) sink sink' answer
whole_written job source source' sink sink' answer told input tells calm gave w =
    let same = all_taken source'.bytes told input (rw tells at gave.gave.taken) gave.ended in
    subst (λ i. Completes (job i) sink sink' answer) same (written_whole (job input) sink sink' answer calm w)

-- where neither end fails, a small enough input gets its whole answer
pub complete : (job : List ℕ → Result (List ℕ) Fault) (source source' sink sink' : End) (answer : Status) (told : List ℕ)
    → source.bytes ≡ Some told → length told ≤ largest_input → ¬ Rose source.faults source'.faults → ¬ Rose sink.faults sink'.faults
    → Answers job source source' sink sink' answer → Completes (job told) sink sink' answer
complete job source source' sink sink' status.Done told tells few calm quiet a = whole_written job source source' sink sink' _ told a.0 tells quiet a.1 a.2
complete job source source' sink sink' (status.BadInput row reason) told tells few calm quiet a =
    whole_written job source source' sink sink' _ told a.0 tells quiet a.1 a.2
complete job source source' sink sink' status.WriteFault told tells few calm quiet a = whole_written job source source' sink sink' _ told a.0 tells quiet a.1 a.2
complete job source source' sink sink' status.ReadFault told tells few calm quiet a = absurd (calm a.1.rose)
complete job source source' sink sink' status.TooLarge told tells few calm quiet a =
    absurd (omega (arith, no_more_taken source'.bytes told a.0 (rw tells at a.1.gave.taken), a.1.large))
complete job source source' sink sink' status.NoMemory told tells few calm quiet a = memory_completes (job told) sink sink'
complete job source source' sink sink' status.Usage told tells few calm quiet a = absurd a

-- a source that gave all gave no more than the largest input
gave_few : (source source' : End) (told input : List ℕ) → source.bytes ≡ Some told → GaveAll source source' input → length told ≤ largest_input
gave_few source source' told input tells gave =
    rw (all_taken source'.bytes told input (rw tells at gave.gave.taken) gave.ended) at gave.fits

-- where the source doesn't fail, a larger input is too large
pub too_large : (job : List ℕ → Result (List ℕ) Fault) (source source' sink sink' : End) (answer : Status) (told : List ℕ)
    → source.bytes ≡ Some told → largest_input < length told → ¬ Rose source.faults source'.faults
    → Answers job source source' sink sink' answer → (answer ≡ status.TooLarge) ⊎ (answer ≡ status.NoMemory)
too_large job source source' sink sink' status.Done told tells many calm a = let few = gave_few source source' told a.0 tells a.1 in absurd (omega arith)
too_large job source source' sink sink' (status.BadInput row reason) told tells many calm a = let few = gave_few source source' told a.0 tells a.1 in absurd (omega arith)
too_large job source source' sink sink' status.WriteFault told tells many calm a = let few = gave_few source source' told a.0 tells a.1 in absurd (omega arith)
too_large job source source' sink sink' status.ReadFault told tells many calm a = absurd (calm a.1.rose)
too_large job source source' sink sink' status.TooLarge told tells many calm a = inl refl
too_large job source source' sink sink' status.NoMemory told tells many calm a = inr refl
too_large job source source' sink sink' status.Usage told tells many calm a = absurd a
