-- A message that equals one which began on its line, and the only entry with which that did.
use Rattle.std.specs.Prelude.{Contains, find, ℤ, option_map, reverse, slice_get}
use Rattle.std.specs.Ordering.{int_eq}
use Rattle.std.proofs.Common.{◌≡◌, ℕ, ◌<◌, Bool, true, false, ◌==◌, List, [], ◌∷◌, ◌++◌, Option, None, Some, take, inl, inr, refl, ap, sym, subst, ◌∙◌, arith}
use Rattle.std.proofs.lemmas.Bool.{and_parts, cases_lt, eq-eqb, eqb-true}
use Rattle.std.proofs.lemmas.Bool.Decides.{Decides-int_eq}
use Rattle.ld_base.specs.Message.{Contents}
use Rattle.ld_base.specs.declared.fields.Fields.{Fields}
use Rattle.ld_base.specs.declared.message.Echo.{Echo}
use Rattle.ld_base.specs.declared.phases.Phases.{Phases}
use Rattle.pingpong.specs.declared.journal.Entry.{Entry}
use Rattle.relay_message.specs.Messages.{added}
use Rattle.relay_core.proofs.Calls.{added-is}
use Rattle.sample_store.specs.Along.{along_from}
use Rattle.line_journal.specs.Crossings.{Arrivals, Beginnings, are_same_phases, beginnings_with, begun_with, is_same, is_same_echo, slot_time}
use Rattle.line_journal.specs.LineHistory.{AreRising}
use Rattle.line_journal.specs.declared.crossing.Beginning.{Beginning}
use Rattle.line_journal.proofs.InForces.{find-passes}
use Rattle.line_journal.proofs.LineLists.{Beginnings-push, slot_time-is}
use Rattle.line_journal.proofs.Rising.{Beginnings-rise}
use Rattle.true_time.specs.Places.{Began}
use Rattle.true_time.proofs.Alongs.{IsGrowing, along-grows, comes-with, contains-later}
use Rattle.true_time.proofs.Elements.{in-found, in-front, in-mapped, in-turn, maps-in, none-in}
use Rattle.true_time.proofs.Elements.InFront.{in_first, in_rest}

-- messages that say the same in every field are one message
int-same : (a b : ℤ) → int_eq a b ≡ true → a ≡ b
int-same a b same = (Decides-int_eq a b).0 same

int-self : (a : ℤ) → int_eq a a ≡ true
int-self a = (Decides-int_eq a a).1 refl

same-echo : {sent came sent' came' : ℕ} → sent ≡ sent' → came ≡ came' → ◌≡◌ {A = Echo} (record { sent = sent; came = came }) (record { sent = sent'; came = came' })
same-echo sent came = cc

echo-same : (one other : Option Echo) → is_same_echo one other ≡ true → one ≡ other
echo-same None None same = refl
echo-same (Some a) (Some b) same =
    let parts = and_parts (a.sent == b.sent) (a.came == b.came) same in
    let sent = eqb-true a.sent b.sent parts.0 in
    let came = eqb-true a.came b.came parts.1 in
    ap (λ echo. Some echo) (same-echo sent came)
echo-same None (Some b) same = absurd (cc)
echo-same (Some a) None same = absurd (cc)

echo-self : (one : Option Echo) → is_same_echo one one ≡ true
echo-self None = refl
echo-self (Some a) = rw (eq-eqb a.sent a.sent refl, eq-eqb a.came a.came refl) refl

same-phases : {a b c a' b' c' : ℤ} → a ≡ a' → b ≡ b' → c ≡ c' → ◌≡◌ {A = Phases} (record { a = a; b = b; c = c }) (record { a = a'; b = b'; c = c' })
same-phases a b c = cc

phases-same : (one other : Phases) → are_same_phases one other ≡ true → one ≡ other
phases-same one other same =
    let last = and_parts _ _ same in
    let first = and_parts _ _ last.0 in
    let a = int-same one.a other.a first.0 in
    let b = int-same one.b other.b first.1 in
    let c = int-same one.c other.c last.1 in
    same-phases a b c

same-contents : {from to number sent from' to' number' sent' : ℕ} {echo echo' : Option Echo} {phases phases' : Phases}
    → from ≡ from' → to ≡ to' → number ≡ number' → sent ≡ sent' → echo ≡ echo' → phases ≡ phases'
    → ◌≡◌ {A = Contents} (record { from = from; to = to; number = number; sent = sent; echo = echo; phases = phases })
    (record { from = from'; to = to'; number = number'; sent = sent'; echo = echo'; phases = phases' })
same-contents from to number sent echo phases = cc

pub is_same-true : (one other : Contents) → is_same one other ≡ true → one ≡ other
is_same-true one other same =
    let phases = and_parts _ _ same in
    let echo = and_parts _ _ phases.0 in
    let sent = and_parts _ _ echo.0 in
    let number = and_parts _ _ sent.0 in
    let to = and_parts _ _ number.0 in
    let same_from = eqb-true one.from other.from to.0 in
    let same_to = eqb-true one.to other.to to.1 in
    let same_number = eqb-true one.number other.number number.1 in
    let same_sent = eqb-true one.sent other.sent sent.1 in
    let same_echo = echo-same one.echo other.echo echo.1 in
    let same_phases = phases-same one.phases other.phases phases.1 in
    same-contents same_from same_to same_number same_sent same_echo same_phases

pub is_same-self : (m : Contents) → is_same m m ≡ true
is_same-self m =
    rw (eq-eqb m.from m.from refl, eq-eqb m.to m.to refl, eq-eqb m.number m.number refl, eq-eqb m.sent m.sent refl, echo-self m.echo, int-self m.phases.a, int-self m.phases.b, int-self m.phases.c) refl

-- the beginning of a message with an entry: its sender had this last arrival
abbrev pub beginning_of : Fields → ℕ → ℕ → List Entry → ℕ → Entry → Contents → Beginning
beginning_of f from to journal place entry m = record { message = m; time = entry.time; heard = slice_get (reverse (Arrivals f from to (take place journal))) 0 }

Beginnings-grows : (f : Fields) (from to : ℕ) → IsGrowing (Beginnings f from to)
Beginnings-grows f from to = along-grows (λ before so_far entry. beginnings_with f from to before entry)

Beginnings-none : (f : Fields) (from to : ℕ) → Beginnings f from to [] ≡ []
unfolding along_from
Beginnings-none f from to = refl

beginnings-added : (f : Fields) (from to : ℕ) (before : List Entry) (entry : Entry) → added (Beginnings f from to) before (entry ∷ []) ≡ beginnings_with f from to before entry
beginnings-added f from to before entry = added-is (Beginnings f from to) before (entry ∷ []) (beginnings_with f from to before entry) (Beginnings-push f from to before entry)

-- a beginning came with an entry
pub beginning-came : (f : Fields) (from to : ℕ) (journal : List Entry) (n : ℕ) (b : Beginning) → Contains (Beginnings f from to (take n journal)) b
    → (place : ℕ) × (entry : Entry) × (place < n) × Began f from to journal place entry b.message × (b ≡ beginning_of f from to journal place entry b.message)
beginning-came f from to journal n b has =
    let found = comes-with (Beginnings f from to) (Beginnings-grows f from to) (Beginnings-none f from to) journal n b has in
    let here = subst (λ bs. Contains bs b) (beginnings-added f from to (take found.place journal) found.element) found.brought in
    let (m, inside, is) = in-mapped (beginning_of f from to journal found.place found.element) (begun_with f from to (take found.place journal) found.element) b here in
    let same : m ≡ b.message = ap (λ x. x.message) is in (
      found.place,
      found.element,
      found.early,
      record { is_at = found.is_at; begun = subst (λ x. Contains (begun_with f from to (take found.place journal) found.element) x) same inside },
      sym is ∙ ap (beginning_of f from to journal found.place found.element) same,
    )

pub begins-later : (f : Fields) (from to : ℕ) (journal : List Entry) (place n : ℕ) (entry : Entry) (m : Contents) → place < n → Began f from to journal place entry m
    → Contains (Beginnings f from to (take n journal)) (beginning_of f from to journal place entry m)
begins-later f from to journal place n entry m early began =
    contains-later (Beginnings f from to) (Beginnings-grows f from to) journal place n entry _ early began.is_at
    (subst (λ bs. Contains bs (beginning_of f from to journal place entry m)) (sym (beginnings-added f from to (take place journal) entry))
    (maps-in (beginning_of f from to journal place entry) (begun_with f from to (take place journal) entry) m began.begun))

-- the numbers rise, so a message begins once
never-twice : (f : Fields) (from to : ℕ) (journal : List Entry) (i j : ℕ) (one other : Entry) (m : Contents) → i < j → Began f from to journal i one m → Began f from to journal j other m → ⊥
never-twice f from to journal i j one other m before began again =
    let earlier = begins-later f from to journal i j one m before began in
    let here = maps-in (beginning_of f from to journal j other) (begun_with f from to (take j journal) other) m again.begun in
    let all = Beginnings-push f from to (take j journal) other in
    let less = in-turn (λ earlier later. earlier.message.number < later.message.number) (Beginnings f from to (take j journal)) (beginnings_with f from to (take j journal) other)
    (beginning_of f from to journal i one m) (beginning_of f from to journal j other m)
    (subst AreRising all (Beginnings-rise f from to (take j journal ++ other ∷ []))) earlier here in
    omega (arith, less)

pub began-once : (f : Fields) (from to : ℕ) (journal : List Entry) (i j : ℕ) (one other : Entry) (m : Contents) → Began f from to journal i one m → Began f from to journal j other m → i ≡ j
began-once f from to journal i j one other m began again = elim (cases_lt i j) [
  | inl before ↦ absurd (never-twice f from to journal i j one other m before began again)
  | inr behind ↦ elim (cases_lt j i) [
    | inl after ↦ absurd (never-twice f from to journal j i other one m after again began)
    | inr same ↦ omega (arith, behind, same)
  ]
]

none-passes : {A : Type 0} (test : A → Bool) (xs : List A) (x : A) → Contains xs x → test x ≡ true → find test xs ≡ None → ⊥
none-passes test [] x has passes none = none-in x has
none-passes {A = A} test (y ∷ xs) x has passes none = go (test y) refl (none-passes test xs x)
  where
    go : (b : Bool) → test y ≡ b → (Contains xs x → test x ≡ true → find test xs ≡ None → ⊥) → ⊥
    go true hit rest = (let here = rw hit at none in cc)
    go false missed rest = elim (in-front y xs x has) [
      | in_first same ↦ (let both = sym missed ∙ ap test same ∙ passes in cc)
      | in_rest further ↦ rest further passes (rw missed at none)
    ]

-- one that passes is found, or one before it
pub one-found : {A : Type 0} (test : A → Bool) (xs : List A) (x : A) → Contains xs x → test x ≡ true → (y : A) × (find test xs ≡ Some y)
one-found {A = A} test xs x has passes = go (find test xs) refl
  where
    go : (found : Option A) → find test xs ≡ found → (y : A) × (find test xs ≡ Some y)
    go None none = absurd (none-passes test xs x has passes none)
    go (Some y) some = (y, some)

-- what is looked for on a line is there exactly where it began
pub found-began : (f : Fields) (from to : ℕ) (journal : List Entry) (n : ℕ) (m : Contents) (b : Beginning) → find (λ x. is_same m x.message) (Beginnings f from to (take n journal)) ≡ Some b
    → (place : ℕ) × (entry : Entry) × (place < n) × Began f from to journal place entry m × (b ≡ beginning_of f from to journal place entry m)
found-began f from to journal n m b found =
    let (place, entry, early, began, is) = beginning-came f from to journal n b (in-found (λ x. is_same m x.message) (Beginnings f from to (take n journal)) b found) in
    let same : b.message ≡ m = sym (is_same-true m b.message (find-passes (λ x. is_same m x.message) (Beginnings f from to (take n journal)) b found)) in
    (place, entry, early, subst (Began f from to journal place entry) same began, is ∙ ap (beginning_of f from to journal place entry) same)

pub began-found : (f : Fields) (from to : ℕ) (journal : List Entry) (n place : ℕ) (entry : Entry) (m : Contents) → place < n → Began f from to journal place entry m
    → find (λ x. is_same m x.message) (Beginnings f from to (take n journal)) ≡ Some (beginning_of f from to journal place entry m)
began-found f from to journal n place entry m early began =
    let (b, found) = one-found (λ x. is_same m x.message) (Beginnings f from to (take n journal)) (beginning_of f from to journal place entry m)
    (begins-later f from to journal place n entry m early began) (is_same-self m) in
    let (at, there, before, again, is) = found-began f from to journal n m b found in
    let same : at ≡ place = began-once f from to journal at place there entry m again began in
    let entries : ◌≡◌ {A = Option Entry} (Some there) (Some entry) = sym again.is_at ∙ ap (slice_get journal) same ∙ began.is_at in
    let one : there ≡ entry = cc in
    found ∙ ap (λ x. Some x) (is ∙ ap (λ k. beginning_of f from to journal k there m) same ∙ ap (λ e. beginning_of f from to journal place e m) one)

-- the same for the time of its slot
pub slot-began : (f : Fields) (from to : ℕ) (journal : List Entry) (n : ℕ) (m : Contents) (t : ℕ) → slot_time f from to (take n journal) m ≡ Some t
    → (place : ℕ) × (entry : Entry) × (place < n) × Began f from to journal place entry m × (t ≡ entry.time)
slot-began f from to journal n m t is = go (find (λ b. is_same m b.message) (Beginnings f from to (take n journal))) refl
  where
    go : (found : Option Beginning) → find (λ b. is_same m b.message) (Beginnings f from to (take n journal)) ≡ found
        → (place : ℕ) × (entry : Entry) × (place < n) × Began f from to journal place entry m × (t ≡ entry.time)
    go None none = absurd (let nothing = sym is ∙ slot_time-is f from to (take n journal) m ∙ ap (option_map (λ b. b.time)) none in cc)
    go (Some b) some =
        let time = sym is ∙ slot_time-is f from to (take n journal) m ∙ ap (option_map (λ b. b.time)) some in
        let (place, entry, early, began, whole) = found-began f from to journal n m b some in
        (place, entry, early, began, (let same = ap (λ x. x.time) whole in cc))

pub began-slot : (f : Fields) (from to : ℕ) (journal : List Entry) (n place : ℕ) (entry : Entry) (m : Contents) → place < n → Began f from to journal place entry m
    → slot_time f from to (take n journal) m ≡ Some entry.time
began-slot f from to journal n place entry m early began =
    slot_time-is f from to (take n journal) m ∙ ap (option_map (λ b. b.time)) (began-found f from to journal n place entry m early began)
