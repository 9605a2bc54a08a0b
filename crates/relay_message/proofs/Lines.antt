-- What longer lines tell, over any layout.
use Rattle.std.proofs.Common.{◌≡◌, ℕ, ◌<◌, ◌≤◌, zero, suc, List, [], ◌∷◌, ◌++◌, length, drop, Option, Some, None, Result, Ok, Err, ◌⊎◌, inl, inr, ⊎_elim, arith, refl, sym, ap, ◌∙◌, append_assoc}
use Rattle.std.specs.Option.{option_and_then, option_map, option_to_list}
use Rattle.std.proofs.Math.Seq.{drop-append_seam}
use Rattle.relay_message.specs.Messages.{Layout, cells, front, told_at, covered, told_behind, told, added}
use Rattle.relay_message.proofs.Places.{seen, front-gap, told-ends, told-first, told-gap}

-- nothing is made of nothing alone
unmapped : {A B : Type 0} (f : A → B) (o : Option A) → option_map f o ≡ None → o ≡ None
unmapped f None e = refl
unmapped f (Some x) e = absurd (cc)

-- the first bytes of a line are not there in a longer one either, or the line ends before them
longer-none : (count : ℕ) (line : List (Option ℕ)) → front count line ≡ None
    → ((more : List (Option ℕ)) → front count (line ++ more) ≡ None) ⊎ ((bytes : List ℕ) × (line ≡ cells bytes) × (length bytes < count))
unfolding front
longer-none zero line e = absurd (cc)
longer-none (suc count) [] e = inr ([], refl, omega arith)
longer-none (suc count) (None ∷ line) e = inl (λ more. refl)
longer-none (suc count) (Some byte ∷ line) e =
    ⊎_elim
    (λ gap. inl (λ more. ap (option_map (λ bytes. byte ∷ bytes)) (gap more)))
    (λ ends. inr (byte ∷ ends.0, ap (λ xs. Some byte ∷ xs) ends.1, omega (arith, ends.2)))
    (longer-none count line (unmapped (λ bytes. byte ∷ bytes) (front count line) e))

-- and where they are, they stay
longer-some : (count : ℕ) (line more : List (Option ℕ)) (bytes : List ℕ) → front count line ≡ Some bytes → front count (line ++ more) ≡ Some bytes
unfolding front
longer-some zero line more bytes e = e
longer-some (suc count) [] more bytes e = absurd (cc)
longer-some (suc count) (None ∷ line) more bytes e = absurd (cc)
longer-some (suc count) (Some byte ∷ line) more bytes e =
    let joined = option_map (λ bs. byte ∷ bs) in
    ⊎_elim
    (λ none. let made : joined (front count line) ≡ None = ap joined none in absurd (cc))
    (λ some. ap joined (longer-some count line more some.0 some.1 ∙ sym some.1) ∙ e)
    (seen (front count line))

-- so a first place that tells the same has the rest behind it
longer-first : {M F : Type 0} (layout : Layout M F) (cell : Option ℕ) (line more : List (Option ℕ)) (test : Option (Result M F)) (rest : List (Result M F))
    → told_at layout (cell ∷ line) ≡ test → told_at layout (cell ∷ (line ++ more)) ≡ test
    → told_behind layout (line ++ more) (covered layout.size test) ≡ told_behind layout line (covered layout.size test) ++ rest
    → told layout (cell ∷ (line ++ more)) ≡ told layout (cell ∷ line) ++ rest
longer-first layout cell line more test rest short long next =
    told-first layout cell (line ++ more) test long
    ∙ ap (λ xs. option_to_list test ++ xs) next
    ∙ sym (append_assoc (option_to_list test) (told_behind layout line (covered layout.size test)) rest)
    ∙ ap (λ xs. xs ++ rest) (sym (told-first layout cell line test short))

-- a longer line has what the places of the shorter one tell first
told_behind-longer : {M F : Type 0} (layout : Layout M F) (line more : List (Option ℕ)) (skipped : ℕ)
    → (rest : List (Result M F)) × (told_behind layout (line ++ more) skipped ≡ told_behind layout line skipped ++ rest)
unfolding told_behind
told_behind-longer layout [] more skipped = (told_behind layout more skipped, refl)
told_behind-longer layout (cell ∷ line) more (suc skipped) = told_behind-longer layout line more skipped
told_behind-longer layout (cell ∷ line) more zero =
    let read = option_and_then layout.read in
    ⊎_elim
    (λ none. ⊎_elim
    (λ gap.
    let next = told_behind-longer layout line more 0 in
    (next.0, longer-first layout cell line more None next.0 (ap read none) (ap read (gap more)) next.1))
    (λ ends.
    let all = told layout (cell ∷ (line ++ more)) in
    (all, ap (λ xs. xs ++ all) (sym (ap (told layout) ends.1 ∙ told-ends layout ends.0 ends.2))))
    (longer-none layout.size (cell ∷ line) none))
    (λ some.
    let next = told_behind-longer layout line more (covered layout.size (layout.read some.0)) in
    (next.0, longer-first layout cell line more (layout.read some.0) next.0 (ap read some.1) (ap read (longer-some layout.size (cell ∷ line) more some.0 some.1)) next.1))
    (seen (front layout.size (cell ∷ line)))

-- in the words of the definition
pub told-longer : {M F : Type 0} (layout : Layout M F) (line more : List (Option ℕ)) → told layout (line ++ more) ≡ told layout line ++ added (told layout) line more
told-longer layout line more =
    let rest = told_behind-longer layout line more 0 in
    rest.1 ∙ ap (λ xs. told layout line ++ xs) (sym (ap (drop (length (told layout line))) rest.1 ∙ drop-append_seam (told layout line) rest.0))

-- a gap behind a line leaves what is not there
gap-none : (count : ℕ) (line more : List (Option ℕ)) → front count line ≡ None → front count (line ++ (None ∷ more)) ≡ None
gap-none count line more e = ⊎_elim
    (λ gap. gap (None ∷ more))
    (λ ends. ap (λ xs. front count (xs ++ (None ∷ more))) ends.1 ∙ front-gap ends.0 count more ends.2)
    (longer-none count line e)

-- first bytes that are there are no more than the line
front-length : (count : ℕ) (line : List (Option ℕ)) (bytes : List ℕ) → front count line ≡ Some bytes → count ≤ length line
unfolding front
front-length zero line bytes e = omega arith
front-length (suc count) [] bytes e = absurd (cc)
front-length (suc count) (None ∷ line) bytes e = absurd (cc)
front-length (suc count) (Some byte ∷ line) bytes e =
    let joined = option_map (λ bs. byte ∷ bs) in
    ⊎_elim
    (λ none. let made : joined (front count line) ≡ None = ap joined none in absurd (cc))
    (λ some. let few = front-length count line some.0 some.1 in omega arith)
    (seen (front count line))

-- a message covers less than its bytes
covered-le : {M F : Type 0} (size count : ℕ) (test : Option (Result M F)) → size ≤ suc count → covered size test ≤ count
covered-le size count None h = omega arith
covered-le size count (Some (Ok message)) h = omega arith
covered-le size count (Some (Err fault)) h = omega arith

-- what stands before a gap and what stands behind it tell what they tell alone
told_behind-gap : {M F : Type 0} (layout : Layout M F) (some : 0 < layout.size) (line more : List (Option ℕ)) (skipped : ℕ) → skipped ≤ length line
    → told_behind layout (line ++ (None ∷ more)) skipped ≡ told_behind layout line skipped ++ told layout more
unfolding told_behind
told_behind-gap layout some [] more zero h = told-gap layout [] more some
told_behind-gap layout some [] more (suc skipped) h = absurd (omega arith)
told_behind-gap layout some (cell ∷ line) more (suc skipped) h = told_behind-gap layout some line more skipped (omega arith)
told_behind-gap layout some (cell ∷ line) more zero h =
    let read = option_and_then layout.read in
    let after = None ∷ more in
    ⊎_elim
    (λ none. longer-first layout cell line after None (told layout more) (ap read none) (ap read (gap-none layout.size (cell ∷ line) more none))
    (told_behind-gap layout some line more 0 (omega arith)))
    (λ whole.
    let test = layout.read whole.0 in
    let few = front-length layout.size (cell ∷ line) whole.0 whole.1 in
    longer-first layout cell line after test (told layout more) (ap read whole.1) (ap read (longer-some layout.size (cell ∷ line) after whole.0 whole.1))
    (told_behind-gap layout some line more (covered layout.size test) (covered-le layout.size (length line) test few)))
    (seen (front layout.size (cell ∷ line)))

pub told-parts : {M F : Type 0} (layout : Layout M F) → 0 < layout.size → (line more : List (Option ℕ))
    → told layout (line ++ (None ∷ more)) ≡ told layout line ++ told layout more
told-parts layout some line more = told_behind-gap layout some line more 0 (omega arith)
