-- The check goes behind the bytes.
use Rattle.std.proofs.Common.{◌≡◌, ℕ, List, [], ◌∷◌, ◌++◌, length, take, drop, ap, ◌∙◌, subst}
use Rattle.std.specs.Int.{bytes_high_first}
use Rattle.std.proofs.Math.Seq.{take-append_seam, drop-append_seam}
use Rattle.std.proofs.lemmas.List.{append-nil}
use Rattle.relay_message.proofs.encoding.with_check.Goals as goal

abbrev zeros : List ℕ
zeros = 0 ∷ 0 ∷ 0 ∷ 0 ∷ []

put-behind : (front check : List ℕ) → length front ≡ 32 → take 32 (front ++ zeros) ++ (check ++ drop 4 (drop 32 (front ++ zeros))) ≡ front ++ check
put-behind front check h =
    let first : take 32 (front ++ zeros) ≡ front = subst (λ n. take n (front ++ zeros) ≡ front) h (take-append_seam front zeros) in
    let last : drop 32 (front ++ zeros) ≡ zeros = subst (λ n. drop n (front ++ zeros) ≡ zeros) h (drop-append_seam front zeros) in
    rw (first, last) (ap (λ xs. front ++ xs) (append-nil check))

pub returns-clause-bytes : goal.returns-clause-bytes
returns-clause-bytes c =
    put-behind c.copy_from_slice.new.self c.copy_from_slice-2.new.self (ap length c.copy_from_slice.ensures.after ∙ c.told-front)
    ∙ ap (λ xs. xs ++ c.copy_from_slice-2.new.self) c.copy_from_slice.ensures.after
    ∙ ap (λ xs. c.args.front.now ++ xs) (c.copy_from_slice-2.ensures.after ∙ c.to_be_bytes.ensures ∙ ap (bytes_high_first 4) c.check_fast.ensures.value)
