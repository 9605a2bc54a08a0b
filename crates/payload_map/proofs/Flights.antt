-- How long a message is in flight.
use Rattle.std.proofs.Common.{◌≡◌, ℕ, zero, suc, ◌+◌, ◌-◌, ◌*◌, ◌<◌, ◌≤◌, ◌⊎◌, ◌↔◌, inl, inr, Bool, All, List, [], ◌∷◌, ◌++◌, length, drop, fold, Option, Some, None, unwrap_or, refl, arith, sym, ap, ◌∙◌, subst, length-append, length-drop}
use Rattle.std.specs.Int.{div_ceil}
use Rattle.std.specs.List.{AllByRecursion}
use Rattle.std.specs.Option.{ForSome}
use Rattle.std.proofs.Math.ListN.{drop_of_length-le}
use Rattle.std.proofs.Math.Nat.{mul-le-mul_left}
use Rattle.std.proofs.Math.Seq.{drop-append-add, drop-drop}
use Rattle.std.proofs.lemmas.Bool.{cases_lt}
use Rattle.std.proofs.lemmas.Grind.{div_ceil_times}
use Rattle.std.proofs.lemmas.List.{drop-append-le}
use Rattle.std.proofs.lemmas.List.Elements.{All-from_recursion, recursion_from_All}
use Rattle.std.proofs.lemmas.List.Sums.{fold-append}
use Rattle.payload_map.specs.Sent.{Slot, left_after, unsent}

-- nothing was loaded for a slot
abbrev pub IsUnloaded : Slot (List ℕ) → Type 0
IsUnloaded slot = slot.loaded ≡ None

-- slots for which nothing was loaded go on with what was left
unloaded-left : (n : ℕ) (left : List ℕ) (slots : List (Slot (List ℕ))) → AllByRecursion IsUnloaded slots
    → fold (left_after n) left slots ≡ drop (n * length slots) left
unloaded-left n left [] none = let e : n * 0 ≡ 0 = omega arith in ap (λ k. drop k left) (sym e)
unloaded-left n left (slot ∷ slots) none =
    let first : drop n (unwrap_or slot.loaded left) ≡ drop n left = ap (λ loaded. drop n (unwrap_or loaded left)) none.0 in
    let count : n + n * length slots ≡ n * suc (length slots) = omega arith in
    ap (λ xs. fold (left_after n) xs slots) first
    ∙ unloaded-left n (drop n left) slots none.1
    ∙ drop-drop (n * length slots) n left
    ∙ ap (λ k. drop k left) count

-- so a message goes on from its own slot
pub loaded-left : (n : ℕ) (before after : List (Slot (List ℕ))) (bytes : List ℕ) (yellow : Bool) → AllByRecursion IsUnloaded after
    → unsent n (before ++ record { loaded = Some bytes; yellow = yellow } ∷ after) ≡ drop (n * suc (length after)) bytes
loaded-left n before after bytes yellow none =
    let slot : Slot (List ℕ) = record { loaded = Some bytes; yellow = yellow } in
    let count : n + n * length after ≡ n * suc (length after) = omega arith in
    fold-append (left_after n) [] before (slot ∷ after)
    ∙ unloaded-left n (drop n bytes) after none
    ∙ drop-drop (n * length after) n bytes
    ∙ ap (λ k. drop k bytes) count

-- a quotient rounded up is the least count of that many
pub div_ceil-least : (a b k : ℕ) → 0 < b → (div_ceil a b ≤ k) ↔ (a ≤ b * k)
div_ceil-least a b k some =
    let q = div_ceil a b in
    let bounds : (a ≤ q * b) × (q * b < a + b) = div_ceil_times a b some in (
      (λ h. omega (arith, bounds.0, mul-le-mul_left b h)),
      (λ h. elim (cases_lt k q) [
        | inl above ↦ let more : suc k ≤ q = omega arith in absurd (omega (arith, bounds.1, mul-le-mul_left b more))
        | inr most ↦ most
      ]),
    )

-- nothing is left of so many bytes
pub drop-none : (i : ℕ) (xs : List ℕ) → (drop i xs ≡ []) ↔ (length xs ≤ i)
drop-none i xs = ((λ e. omega (arith, length-drop i xs, ap length e)), (λ h. drop_of_length-le xs h))

-- the last of the slots for which something was loaded
record LastLoad (slots : List (Slot (List ℕ))) : Type 0 where
  before : List (Slot (List ℕ))
  bytes : List ℕ
  yellow : Bool
  after : List (Slot (List ℕ))
  is : slots ≡ before ++ record { loaded = Some bytes; yellow = yellow } ∷ after
  none : AllByRecursion IsUnloaded after

-- a first slot before slots for which nothing was loaded
first-load : (loaded : Option (List ℕ)) (yellow : Bool) (slots : List (Slot (List ℕ))) → AllByRecursion IsUnloaded slots
    → AllByRecursion IsUnloaded (record { loaded = loaded; yellow = yellow } ∷ slots) ⊎ LastLoad (record { loaded = loaded; yellow = yellow } ∷ slots)
first-load None yellow slots none = inl (refl, none)
first-load (Some bytes) yellow slots none = inr (record { before = []; bytes = bytes; yellow = yellow; after = slots; is = refl; none = none })

-- there is one, or nothing was loaded
last-load : (slots : List (Slot (List ℕ))) → AllByRecursion IsUnloaded slots ⊎ LastLoad slots
last-load [] = inl tt
last-load (slot ∷ slots) = elim (last-load slots) [
  | inl none ↦ first-load slot.loaded slot.yellow slots none
  | inr last ↦ inr (record {
    before = slot ∷ last.before;
    bytes = last.bytes;
    yellow = last.yellow;
    after = last.after;
    is = ap (λ xs. slot ∷ xs) last.is;
    none = last.none;
  })
]

-- what holds of each holds of one among them
at-middle : {A : Type 0} (P : A → Type 0) (before : List A) (x : A) (after : List A) → AllByRecursion P (before ++ x ∷ after) → P x
at-middle P [] x after all = all.0
at-middle P (y ∷ before) x after all = at-middle P before x after all.1

-- and of each of the last ones
pub all-drop : {A : Type 0} (P : A → Type 0) (i : ℕ) (xs : List A) → AllByRecursion P xs → AllByRecursion P (drop i xs)
all-drop P zero xs all = all
all-drop P (suc i) [] all = tt
all-drop P (suc i) (x ∷ xs) all = all-drop P i xs all.1

-- nothing is left exactly where nothing was loaded in the slots of a message but its first, counted back from the end
pub unsent-none : (n size : ℕ) (slots : List (Slot (List ℕ))) → 0 < n → AllByRecursion (λ slot. ForSome slot.loaded (λ bytes. length bytes ≡ size)) slots
    → (unsent n slots ≡ []) ↔ AllByRecursion IsUnloaded (drop (length slots - (div_ceil size n - 1)) slots)
unsent-none n size slots some sized =
    let others : ℕ = div_ceil size n - 1 in
    let back : ℕ = length slots - others in
    elim (last-load slots) [
      | inl none ↦ ((λ e. all-drop IsUnloaded back slots none), (λ all. unloaded-left n [] slots none ∙ drop_of_length-le [] (omega arith)))
      | inr last ↦
          let slot : Slot (List ℕ) = record { loaded = Some last.bytes; yellow = last.yellow } in
          let long : length last.bytes ≡ size =
          at-middle (λ s. ForSome s.loaded (λ bytes. length bytes ≡ size))
          last.before slot last.after
          (subst (AllByRecursion (λ s. ForSome s.loaded (λ bytes. length bytes ≡ size))) last.is sized) last.bytes refl in
          let left : unsent n slots ≡ drop (n * suc (length last.after)) last.bytes = ap (unsent n) last.is ∙ loaded-left n last.before last.after last.bytes last.yellow last.none in
          let room = div_ceil-least size n (suc (length last.after)) some in
          let gone = drop-none (n * suc (length last.after)) last.bytes in
          let total : length slots ≡ length last.before + suc (length last.after) = ap length last.is ∙ length-append last.before (slot ∷ last.after) in (
            (λ e.
                let short : length last.bytes ≤ n * suc (length last.after) = gone.0 (sym left ∙ e) in
                let few : div_ceil size n ≤ suc (length last.after) = room.1 (omega arith) in
                let place : back ≡ length last.before + suc (length last.after - others) = omega arith in
                let rest : drop back slots ≡ drop (length last.after - others) last.after =
                ap (drop back) last.is
                ∙ ap (λ i. drop i (last.before ++ slot ∷ last.after)) place
                ∙ drop-append-add last.before (slot ∷ last.after) (suc (length last.after - others)) in
                subst (AllByRecursion IsUnloaded) (sym rest) (all-drop IsUnloaded (length last.after - others) last.after last.none)),
            (λ all. elim (cases_lt (n * suc (length last.after)) (length last.bytes)) [
              | inr most ↦ left ∙ gone.1 most
              | inl more ↦ elim (cases_lt (suc (length last.after)) (div_ceil size n)) [
                | inr few ↦ absurd (omega (arith, room.0 few))
                | inl many ↦
                    let place : back ≤ length last.before = omega arith in
                    let rest : drop back slots ≡ drop back last.before ++ slot ∷ last.after =
                    ap (drop back) last.is ∙ drop-append-le back last.before (slot ∷ last.after) place in
                    let nothing : Some last.bytes ≡ None = at-middle IsUnloaded (drop back last.before) slot last.after (subst (AllByRecursion IsUnloaded) rest all) in
                    absurd (cc)
              ]
            ]),
          )
    ]

-- the same of `All`
pub unsent-free : (n size : ℕ) (slots : List (Slot (List ℕ))) → 1 ≤ n → All (λ slot. ForSome slot.loaded (λ bytes. length bytes ≡ size)) slots
    → (unsent n slots ≡ []) ↔ All IsUnloaded (drop (length slots - (div_ceil size n - 1)) slots)
unsent-free n size slots some sized =
    let rest : List (Slot (List ℕ)) = drop (length slots - (div_ceil size n - 1)) slots in
    let same = unsent-none n size slots some (recursion_from_All (λ slot. ForSome slot.loaded (λ bytes. length bytes ≡ size)) slots sized) in
    ((λ e. All-from_recursion IsUnloaded rest (same.0 e)), (λ all. same.1 (recursion_from_All IsUnloaded rest all)))
