-- Texts of rows.
use Rattle.std.proofs.Common.{◌≡◌, ◌∙◌, sym, ap, ℕ, zero, suc, ◌+◌, ◌≤◌, List, [], ◌∷◌, ◌++◌, map, append_assoc, arith}
use Rattle.std.proofs.lemmas.List.{append-nil}
use Rattle.std.proofs.lemmas.List.Concat.{flat_map-append}
use Rattle.std.proofs.lemmas.List.FromFn.{map-range_with_len_more}
use Rattle.std.specs.List.{flat_map, range_with_len}
use Rattle.row_reader.specs.PlainRows.{line_of, text_of}
use Rattle.row_reader.specs.Rows.{Row}

-- a number more at the end of a range
range_more : (a n : ℕ) → range_with_len a (suc n) ≡ range_with_len a n ++ (a + n) ∷ []
range_more a zero = ap (λ (k : ℕ). k ∷ []) (omega arith)
range_more a (suc n) =
    ap (λ (rest : List ℕ). a ∷ rest) (range_more (a + 1) n ∙ ap (λ (k : ℕ). range_with_len (a + 1) n ++ k ∷ []) (omega arith))

-- a row more
pub row_more : (f : ℕ → Row) (n : ℕ) (before text after : List ℕ) → text ≡ before ++ text_of (map f (range_with_len 0 n))
    → after ≡ text ++ line_of (f n) → after ≡ before ++ text_of (map f (range_with_len 0 (n + 1)))
row_more f n before text after so_far is =
    is ∙ rw (map-range_with_len_more f 0 n n (omega arith), flat_map-append line_of (map f (range_with_len 0 n)) (f n ∷ []), append-nil (line_of (f n)), so_far)
    (append_assoc before (text_of (map f (range_with_len 0 n))) (line_of (f n)))

-- the text of some rows more
text_more : (f : ℕ → List Row) (xs : List ℕ) (n : ℕ) → text_of (flat_map f (xs ++ n ∷ [])) ≡ text_of (flat_map f xs) ++ text_of (f n)
text_more f xs n = rw (flat_map-append f xs (n ∷ []), append-nil (f n)) (flat_map-append line_of (flat_map f xs) (f n))

-- some rows more
pub rows_more : (f : ℕ → List Row) (n done : ℕ) (before text after : List ℕ)
    → ((d : ℕ) → n ≡ d + 1 → text ≡ before ++ text_of (flat_map f (range_with_len 1 d)))
    → 1 ≤ n → after ≡ text ++ text_of (f n) → n + 1 ≡ done + 1 → after ≡ before ++ text_of (flat_map f (range_with_len 1 done))
rows_more f n zero before text after so_far some is count = absurd (omega arith)
rows_more f n (suc d) before text after so_far some is count =
    let this : n ≡ 1 + d = omega arith in
    is ∙ ap (λ (t : List ℕ). t ++ text_of (f n)) (so_far d (omega arith)) ∙ append_assoc before (text_of (flat_map f (range_with_len 1 d))) (text_of (f n))
    ∙ ap (λ (k : ℕ). before ++ (text_of (flat_map f (range_with_len 1 d)) ++ text_of (f k))) this
    ∙ ap (λ (t : List ℕ). before ++ t) (sym (text_more f (range_with_len 1 d) (1 + d)))
    ∙ ap (λ (xs : List ℕ). before ++ text_of (flat_map f xs)) (sym (range_more 1 d))

-- four rows
pub four_rows : (a b c d : Row) (t0 t1 t2 t3 t4 : List ℕ) → t1 ≡ t0 ++ line_of a → t2 ≡ t1 ++ line_of b → t3 ≡ t2 ++ line_of c
    → t4 ≡ t3 ++ line_of d → t4 ≡ t0 ++ text_of (a ∷ b ∷ c ∷ d ∷ [])
four_rows a b c d t0 t1 t2 t3 t4 e1 e2 e3 e4 = rw (e4, e3, e2, e1) (simp (append_assoc, append-nil))

-- five parts
pub five_parts : (a b c d e : List Row) (t0 t1 t2 t3 t4 t5 : List ℕ) → t0 ≡ [] → t1 ≡ t0 ++ text_of a → t2 ≡ t1 ++ text_of b
    → t3 ≡ t2 ++ text_of c → t4 ≡ t3 ++ text_of d → t5 ≡ t4 ++ text_of e → t5 ≡ text_of (a ++ b ++ c ++ d ++ e)
five_parts a b c d e t0 t1 t2 t3 t4 t5 e0 e1 e2 e3 e4 e5 = rw (e5, e4, e3, e2, e1, e0) (simp (flat_map-append line_of, append_assoc))
