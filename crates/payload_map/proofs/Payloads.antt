-- What hunting finds in the payload that slots carry, over any layout of messages.
use Rattle.std.proofs.Common.{◌≡◌, ℕ, zero, suc, ◌+◌, ◌-◌, ◌*◌, ◌<◌, ◌≤◌, inl, inr, Bool, true, false, not, cond, leb, List, [], ◌∷◌, ◌++◌, length, take, drop, map, replicate, Option, Some, None, Result, Ok, refl, arith, sym, ap, ◌∙◌, subst, append_assoc, length-append, length-drop}
use Rattle.std.specs.List.{AllByRecursion, flat_map}
use Rattle.std.specs.Option.{ForSome}
use Rattle.std.proofs.Math.ListN.{drop_of_length-le}
use Rattle.std.proofs.lemmas.Bool.{cases_lt, le-leb}
use Rattle.std.proofs.lemmas.Bool.Decides.{nat_tests}
use Rattle.std.proofs.lemmas.List.{append-nil, length-take, map-append, take-append-drop, take_all}
use Rattle.c3794_frame.specs.Frame.{filled}
use Rattle.relay_message.specs.Messages.{Layout, cells, told}
use Rattle.payload_map.specs.Sent.{AreInTurn, Slot, frames_from, spelled_slot, whole}
use Rattle.payload_map.proofs.Slots.{take-filled}

-- what is known of hunting these messages: an idle byte in front of a line tells nothing, nor do fewer bytes than a message,
-- and a whole message at the front is found first
pub record Hunts {M F : Type 0} (layout : Layout M F) (spell : M → List ℕ) (Fine : M → Type 0) (size : ℕ) : Type 0 where
  pub some : 0 < size
  pub long : (m : M) → Fine m → length (spell m) ≡ size
  pub idle : (line : List (Option ℕ)) → told layout (Some 255 ∷ line) ≡ told layout line
  pub few : (bytes : List ℕ) → length bytes < size → told layout (cells bytes) ≡ []
  pub first : (m : M) (line : List (Option ℕ)) → Fine m → told layout (cells (spell m) ++ line) ≡ Ok m ∷ told layout line

-- the bytes of slots
abbrev pub spelled_slots : {M : Type 0} → (M → List ℕ) → List (Slot M) → List (Slot (List ℕ))
spelled_slots spell slots = map (spelled_slot spell) slots

-- the payload that slots carry from a header word and what is left on
abbrev pub line_from : {M : Type 0} → (M → List ℕ) → ℕ → Bool → List ℕ → List (Slot M) → List (Option ℕ)
line_from spell n odd left slots = flat_map (λ f. cells (take n f.payload)) (frames_from n odd left (spelled_slots spell slots))

-- a message as hunting tells it
abbrev pub found : {M F : Type 0} → M → Result M F
found m = Ok m

-- the messages of slots
abbrev pub heard : {M F : Type 0} → (M → List ℕ) → ℕ → List (Slot M) → List (Result M F)
heard spell n slots = map (λ m. Ok m) (whole spell n slots)

-- and the message in flight, where so many slots have room for what is left of it
abbrev pub completed : {M F : Type 0} → ℕ → ℕ → List ℕ → M → List (Result M F)
completed n slots left m = cond (leb (length left) (n * slots)) (Ok m ∷ []) []

-- what slots tell: with nothing left before them, or behind the bytes that were sent of a message in flight
pub record Tells {M F : Type 0} (layout : Layout M F) (spell : M → List ℕ) (Fine : M → Type 0) (n : ℕ) (slots : List (Slot M)) : Type 0 where
  pub free : (odd : Bool) → AreInTurn n [] (spelled_slots spell slots) → told layout (line_from spell n odd [] slots) ≡ heard spell n slots
  pub busy : (odd : Bool) (begun left : List ℕ) (m : M) → 0 < length left → begun ++ left ≡ spell m → Fine m → AreInTurn n left (spelled_slots spell slots)
      → told layout (cells begun ++ line_from spell n odd left slots) ≡ completed n (length slots) left m ++ heard spell n slots

-- room for what is left is room for what is left then in one slot less
completed-less : {M F : Type 0} (n slots : ℕ) (left : List ℕ) (m : M) → n < length left
    → completed {M = M} {F = F} n (suc slots) left m ≡ completed n slots (drop n left) m
completed-less n slots left m h =
    let less : length (drop n left) + n ≡ length left = omega (arith, length-drop n left) in
    let same : leb (length left) (n * suc slots) ≡ leb (length (drop n left)) (n * slots) = grind (arith, nat_tests) in
    ap (λ b. cond b (Ok m ∷ []) []) same

-- one slot has room
completed-now : {M F : Type 0} (n slots : ℕ) (left : List ℕ) (m : M) → length left ≤ n → completed {M = M} {F = F} n (suc slots) left m ≡ Ok m ∷ []
completed-now n slots left m h = ap (λ b. cond b (Ok m ∷ []) []) (le-leb (length left) (n * suc slots) (grind arith))

module _ {M F : Type 0} (layout : Layout M F) (spell : M → List ℕ) (Fine : M → Type 0) (size n : ℕ) (hunts : Hunts layout spell Fine size) (few : n ≤ 12) where
  -- idle bytes tell nothing
  idle-bytes : (count : ℕ) (line : List (Option ℕ)) → told layout (cells (replicate count 255) ++ line) ≡ told layout line
  idle-bytes zero line = refl
  idle-bytes (suc count) line = hunts.idle (cells (replicate count 255) ++ line) ∙ idle-bytes count line

  -- the payload of a frame is the next bytes and idle ones
  piece-parts : (next : List ℕ) (begun : List ℕ) (line : List (Option ℕ)) → length next ≤ n
      → cells begun ++ (cells (take n (filled next)) ++ line) ≡ cells (begun ++ next) ++ (cells (replicate (n - length next) 255) ++ line)
  piece-parts next begun line h =
      let idle : List ℕ = replicate (n - length next) 255 in
      ap (λ xs. cells begun ++ (cells xs ++ line)) (take-filled n next h few)
      ∙ ap (λ xs. cells begun ++ (xs ++ line)) (map-append (λ b. Some b) next idle)
      ∙ ap (λ xs. cells begun ++ xs) (append_assoc (cells next) (cells idle) line)
      ∙ sym (append_assoc (cells begun) (cells next) (cells idle ++ line))
      ∙ ap (λ xs. xs ++ (cells idle ++ line)) (sym (map-append (λ b. Some b) begun next))

  -- a slot with nothing to send
  idle-slot : (line : List (Option ℕ)) → told layout (cells (take n (filled (take n []))) ++ line) ≡ told layout line
  idle-slot line =
      let none : take {A = ℕ} n [] ≡ [] = take_all n [] (omega arith) in
      ap (λ xs. told layout (cells (take n (filled xs)) ++ line)) none ∙ ap (told layout) (piece-parts [] [] line (omega arith)) ∙ idle-bytes (n - 0) line

  -- a slot of a message in flight, by what the slots behind it tell
  busy-slot : (slots : List (Slot M)) (odd : Bool) (begun left : List ℕ) (m : M) → Tells layout spell Fine n slots
      → 0 < length left → begun ++ left ≡ spell m → Fine m → AreInTurn n (drop n left) (spelled_slots spell slots)
      → told layout (cells begun ++ (cells (take n (filled (take n left))) ++ line_from spell n odd (drop n left) slots))
      ≡ completed n (suc (length slots)) left m ++ heard spell n slots
  busy-slot slots odd begun left m tells rest is fine turn =
      let next : List ℕ = take n left in
      let idle : List ℕ = replicate (n - length next) 255 in
      let line : List (Option ℕ) = line_from spell n odd (drop n left) slots in
      let within : length next ≤ n = omega (arith, length-take n left) in
      let parts = ap (told layout) (piece-parts next begun line within) in
      elim (cases_lt n (length left)) [
        | inl more ↦
            let none : n - length next ≡ 0 = omega (arith, length-take n left) in
            let size : 0 < length (drop n left) = omega (arith, length-drop n left) in
            let joined : (begun ++ next) ++ drop n left ≡ spell m = append_assoc begun next (drop n left) ∙ ap (λ xs. begun ++ xs) (take-append-drop n left) ∙ is in
            parts
            ∙ ap (λ k. told layout (cells (begun ++ next) ++ (cells (replicate k 255) ++ line))) none
            ∙ tells.busy odd (begun ++ next) (drop n left) m size joined fine turn
            ∙ ap (λ xs. xs ++ heard spell n slots) (sym (completed-less n (length slots) left m more))
        | inr last ↦
            let all : begun ++ next ≡ spell m = ap (λ xs. begun ++ xs) (take_all n left last) ∙ is in
            let none : drop n left ≡ [] = drop_of_length-le left last in
            parts
            ∙ ap (λ xs. told layout (cells xs ++ (cells idle ++ line))) all
            ∙ hunts.first m (cells idle ++ line) fine
            ∙ ap (λ xs. Ok m ∷ xs) (idle-bytes (n - length next) line
            ∙ ap (λ xs. told layout (line_from spell n odd xs slots)) none
            ∙ tells.free odd (subst (λ xs. AreInTurn n xs (spelled_slots spell slots)) none turn))
            ∙ ap (λ xs. xs ++ heard spell n slots) (sym (completed-now n (length slots) left m last))
      ]

  -- a message for which there is room is told
  carried-told : (room : Bool) (m : M) (rest : List M) → cond room (found {F = F} m ∷ []) [] ++ map found rest ≡ map found (cond room (m ∷ []) [] ++ rest)
  carried-told true m rest = refl
  carried-told false m rest = refl

  -- the first slot, with nothing left before it
  first-free : (loaded : Option M) (yellow : Bool) (slots : List (Slot M)) (odd : Bool) → Tells layout spell Fine n slots → ForSome loaded Fine
      → AreInTurn n [] (spelled_slots spell (record { loaded = loaded; yellow = yellow } ∷ slots))
      → told layout (line_from spell n odd [] (record { loaded = loaded; yellow = yellow } ∷ slots)) ≡ heard spell n (record { loaded = loaded; yellow = yellow } ∷ slots)
  unfolding frames_from whole
  first-free None yellow slots odd tells fine turn =
      let none : drop {A = ℕ} n [] ≡ [] = drop_of_length-le [] (omega arith) in
      idle-slot (line_from spell n (not odd) (drop n []) slots)
      ∙ ap (λ xs. told layout (line_from spell n (not odd) xs slots)) none
      ∙ tells.free (not odd) (subst (λ xs. AreInTurn n xs (spelled_slots spell slots)) none turn.1)
  first-free (Some m) yellow slots odd tells fine turn =
      let size : 0 < length (spell m) = omega (arith, hunts.some, hunts.long m (fine m refl)) in
      busy-slot slots (not odd) [] (spell m) m tells size refl (fine m refl) turn.1
      ∙ carried-told (leb (length (spell m)) (n * suc (length slots))) m (whole spell n slots)

  -- or behind the bytes that were sent of a message in flight
  first-busy : (loaded : Option M) (yellow : Bool) (slots : List (Slot M)) (odd : Bool) (begun left : List ℕ) (m : M) → Tells layout spell Fine n slots
      → 0 < length left → begun ++ left ≡ spell m → Fine m
      → AreInTurn n left (spelled_slots spell (record { loaded = loaded; yellow = yellow } ∷ slots))
      → told layout (cells begun ++ line_from spell n odd left (record { loaded = loaded; yellow = yellow } ∷ slots))
      ≡ completed n (suc (length slots)) left m ++ heard spell n (record { loaded = loaded; yellow = yellow } ∷ slots)
  unfolding frames_from whole
  first-busy None yellow slots odd begun left m tells rest is fine turn = busy-slot slots (not odd) begun left m tells rest is fine turn.1
  first-busy (Some other) yellow slots odd begun left m tells rest is fine turn =
      let none : left ≡ [] = turn.0 refl in
      absurd (omega (arith, ap length none))

  -- no slots
  no-slots : Tells layout spell Fine n []
  unfolding frames_from whole
  no-slots = record {
    free = λ odd turn. hunts.few [] hunts.some;
    busy = λ odd begun left m rest is fine turn.
        let size : length begun + length left ≡ size = sym (length-append begun left) ∙ ap length is ∙ hunts.long m fine in
        let room : leb (length left) (n * 0) ≡ false = grind (arith, nat_tests) in
        ap (told layout) (append-nil (cells begun)) ∙ hunts.few begun (omega arith) ∙ sym (ap (λ b. cond b (Ok m ∷ []) [] ++ []) room);
  }

  -- slots of messages, each loaded when nothing was left of the one before, tell those that were sent whole
  pub tells : (slots : List (Slot M)) → AllByRecursion (λ slot. ForSome slot.loaded Fine) slots → Tells layout spell Fine n slots
  tells [] fine = no-slots
  tells (slot ∷ slots) fine =
      let rest = tells slots fine.1 in
      record {
        free = λ odd turn. first-free slot.loaded slot.yellow slots odd rest fine.0 turn;
        busy = λ odd begun left m some is whole_is turn. first-busy slot.loaded slot.yellow slots odd begun left m rest some is whole_is turn;
      }
