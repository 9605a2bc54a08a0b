-- What the places of a line tell, over any layout.
use Rattle.std.proofs.Common.{◌≡◌, ℕ, ◌-◌, ◌<◌, ◌≤◌, zero, suc, List, [], ◌∷◌, ◌++◌, length, take, drop, Option, Some, None, Result, Ok, Err, ◌⊎◌, inl, inr, ⊎_elim, arith, refl, sym, ap, ◌∙◌, append_assoc}
use Rattle.std.specs.Option.{option_and_then, option_map, option_to_list}
use Rattle.std.proofs.lemmas.List.{map-append, length-map, length-take-le, take-append-drop}
use Rattle.relay_message.specs.Messages.{Layout, cells, front, told_at, covered, told_behind, told}

-- the cells of two stretches
pub cells-append : (xs ys : List ℕ) → cells (xs ++ ys) ≡ cells xs ++ cells ys
cells-append xs ys = map-append (λ byte. Some byte) xs ys

-- the first bytes of a stretch that is long enough
front-whole : (bytes : List ℕ) (count : ℕ) (more : List (Option ℕ)) → count ≤ length bytes → front count (cells bytes ++ more) ≡ Some (take count bytes)
unfolding front
front-whole bytes zero more h = refl
front-whole [] (suc count) more h = absurd (omega arith)
front-whole (byte ∷ bytes) (suc count) more h = ap (option_map (λ bytes. byte ∷ bytes)) (front-whole bytes count more (omega arith))

-- of one that ends before
front-ends : (bytes : List ℕ) (count : ℕ) → length bytes < count → front count (cells bytes) ≡ None
unfolding front
front-ends bytes zero h = absurd (omega arith)
front-ends [] (suc count) h = refl
front-ends (byte ∷ bytes) (suc count) h = ap (option_map (λ bytes. byte ∷ bytes)) (front-ends bytes count (omega arith))

-- or that meets a gap
pub front-gap : (bytes : List ℕ) (count : ℕ) (more : List (Option ℕ)) → length bytes < count → front count (cells bytes ++ (None ∷ more)) ≡ None
unfolding front
front-gap bytes zero more h = absurd (omega arith)
front-gap [] (suc count) more h = refl
front-gap (byte ∷ bytes) (suc count) more h = ap (option_map (λ bytes. byte ∷ bytes)) (front-gap bytes count more (omega arith))

-- the places of a line, by what the first one tells
pub told-first : {M F : Type 0} (layout : Layout M F) (cell : Option ℕ) (line : List (Option ℕ)) (test : Option (Result M F))
    → told_at layout (cell ∷ line) ≡ test → told layout (cell ∷ line) ≡ option_to_list test ++ told_behind layout line (covered layout.size test)
unfolding told_behind
told-first layout cell line test e = ap (λ t. option_to_list t ++ told_behind layout line (covered layout.size t)) e

-- places inside a message are passed over
pub told_behind-skip : {M F : Type 0} (layout : Layout M F) (xs line : List (Option ℕ)) → told_behind layout (xs ++ line) (length xs) ≡ told layout line
unfolding told_behind
told_behind-skip layout [] line = refl
told_behind-skip layout (x ∷ xs) line = told_behind-skip layout xs line

-- a stretch that ends before a message may be whole tells nothing
pub told-ends : {M F : Type 0} (layout : Layout M F) (bytes : List ℕ) → length bytes < layout.size → told layout (cells bytes) ≡ []
unfolding told_behind
told-ends layout [] h = refl
told-ends layout (byte ∷ bytes) h =
    told-first layout (Some byte) (cells bytes) None (ap (option_and_then layout.read) (front-ends (byte ∷ bytes) layout.size h))
    ∙ told-ends layout bytes (omega arith)

-- nor does one that meets a gap
pub told-gap : {M F : Type 0} (layout : Layout M F) (bytes : List ℕ) (more : List (Option ℕ)) → length bytes < layout.size
    → told layout (cells bytes ++ (None ∷ more)) ≡ told layout more
told-gap layout [] more h = told-first layout None more None (ap (option_and_then layout.read) (front-gap [] layout.size more h))
told-gap layout (byte ∷ bytes) more h =
    told-first layout (Some byte) (cells bytes ++ (None ∷ more)) None (ap (option_and_then layout.read) (front-gap (byte ∷ bytes) layout.size more h))
    ∙ told-gap layout bytes more (omega arith)

-- a place whose bytes have come
told-whole : {M F : Type 0} (layout : Layout M F) (byte : ℕ) (bytes : List ℕ) (more : List (Option ℕ)) (test : Option (Result M F))
    → layout.size ≤ suc (length bytes) → layout.read (take layout.size (byte ∷ bytes)) ≡ test
    → told layout (cells (byte ∷ bytes) ++ more) ≡ option_to_list test ++ told_behind layout (cells bytes ++ more) (covered layout.size test)
told-whole layout byte bytes more test h e =
    told-first layout (Some byte) (cells bytes ++ more) test (ap (option_and_then layout.read) (front-whole (byte ∷ bytes) layout.size more h) ∙ e)

-- tells nothing
pub told-nothing : {M F : Type 0} (layout : Layout M F) (byte : ℕ) (bytes : List ℕ) (more : List (Option ℕ))
    → layout.size ≤ suc (length bytes) → layout.read (take layout.size (byte ∷ bytes)) ≡ None
    → told layout (cells (byte ∷ bytes) ++ more) ≡ told layout (cells bytes ++ more)
told-nothing layout byte bytes more h e = told-whole layout byte bytes more None h e

-- a fault
pub told-fault : {M F : Type 0} (layout : Layout M F) (byte : ℕ) (bytes : List ℕ) (more : List (Option ℕ)) (fault : F)
    → layout.size ≤ suc (length bytes) → layout.read (take layout.size (byte ∷ bytes)) ≡ Some (Err fault)
    → told layout (cells (byte ∷ bytes) ++ more) ≡ Err fault ∷ told layout (cells bytes ++ more)
told-fault layout byte bytes more fault h e = told-whole layout byte bytes more (Some (Err fault)) h e

-- or a message, and then hunting goes on behind it
pub told-message : {M F : Type 0} (layout : Layout M F) (bytes : List ℕ) (more : List (Option ℕ)) (message : M)
    → 0 < layout.size → layout.size ≤ length bytes → layout.read (take layout.size bytes) ≡ Some (Ok message)
    → told layout (cells bytes ++ more) ≡ Ok message ∷ told layout (cells (drop layout.size bytes) ++ more)
told-message layout [] more message some h e = absurd (omega arith)
told-message layout (byte ∷ bytes) more message some h e =
    let inside = layout.size - 1 in
    let size : layout.size ≡ suc inside = omega arith in
    let first = cells (take inside bytes) in
    let after = cells (drop inside bytes) ++ more in
    let few : inside ≤ length bytes = omega arith in
    let count : length first ≡ inside = length-map (take inside bytes) (λ b. Some b) ∙ length-take-le inside bytes few in
    let parts : cells bytes ++ more ≡ first ++ after =
    ap (λ xs. cells xs ++ more) (sym (take-append-drop inside bytes))
    ∙ ap (λ xs. xs ++ more) (cells-append (take inside bytes) (drop inside bytes))
    ∙ append_assoc first (cells (drop inside bytes)) more in
    let behind : told_behind layout (cells bytes ++ more) inside ≡ told layout (cells (drop layout.size (byte ∷ bytes)) ++ more) =
    ap (λ xs. told_behind layout xs inside) parts
    ∙ ap (told_behind layout (first ++ after)) (sym count)
    ∙ told_behind-skip layout first after
    ∙ ap (λ n. told layout (cells (drop n (byte ∷ bytes)) ++ more)) (sym size) in
    told-whole layout byte bytes more (Some (Ok message)) h e ∙ ap (λ rest. Ok message ∷ rest) behind

-- an option is nothing or something
pub seen : {A : Type 0} (o : Option A) → (o ≡ None) ⊎ ((x : A) × (o ≡ Some x))
seen None = inl refl
seen (Some x) = inr (x, refl)

-- a first byte with which no message begins tells nothing
pub told-other : {M F : Type 0} (layout : Layout M F) (byte : ℕ) (line : List (Option ℕ)) → 0 < layout.size
    → ((bytes : List ℕ) → layout.read (byte ∷ bytes) ≡ None) → told layout (Some byte ∷ line) ≡ told layout line
unfolding front
told-other layout byte line some none =
    let inside = layout.size - 1 in
    let size : layout.size ≡ suc inside = omega arith in
    let joined = option_map (λ bytes. byte ∷ bytes) in
    let read = option_and_then layout.read in
    let first : front layout.size (Some byte ∷ line) ≡ joined (front inside line) = ap (λ n. front n (Some byte ∷ line)) size in
    told-first layout (Some byte) line None (ap read first ∙ ⊎_elim
    (λ short. ap (λ o. read (joined o)) short)
    (λ whole. ap (λ o. read (joined o)) whole.1 ∙ none whole.0)
    (seen (front inside line)))
