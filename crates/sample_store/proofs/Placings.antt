-- The answers to a peer's value, each by its tests.
use Rattle.std.specs.Prelude.{ℤ, pos, negsuc, ◌≤ℤ◌, unsigned_abs, nat_le, nat_lt, Some, None}
use Rattle.std.proofs.Common.{◌≡◌, ℕ, ◌+◌, ◌*◌, ◌/◌, ◌<◌, ◌≤◌, true, false, refl, ap, ◌∙◌, arith}
use Rattle.std.proofs.lemmas.Bool.Decides.{nat_tests}
use Rattle.std.proofs.lemmas.Int.{ints}
use Rattle.std.proofs.Math.Nat.{mul-le-mul_right, div-mul-le_self, lt-div-mul-add}
use Rattle.ld_base.specs.declared.phases.Phases.{Phases}
use Rattle.sample_store.specs.Answers.{place_answer}
use Rattle.sample_store.specs.Stock.{held_at}
use Rattle.sample_store.specs.declared.ring.Ring.{Ring}
use Rattle.sample_store.specs.declared.store.Placed.TheVariants.{Ahead, Double, Stored}

past : (spacing now k : ℕ) → 0 < spacing → now / spacing + 1 < k → now + spacing < k * spacing
past spacing now k some far =
    let more : (now / spacing + 2) * spacing ≤ k * spacing = mul-le-mul_right spacing (omega arith) in
    let below : now < now / spacing * spacing + spacing = lt-div-mul-add some in
    omega arith

within : (spacing now k : ℕ) → k ≤ now / spacing + 1 → k * spacing ≤ now + spacing
within spacing now k near =
    let less : k * spacing ≤ (now / spacing + 1) * spacing = mul-le-mul_right spacing near in
    let below : now / spacing * spacing ≤ now = div-mul-le_self now spacing in
    omega arith

ahead : (spacing limit now : ℕ) (ring : Ring) (z : ℤ) → 0 < spacing → pos 0 ≤ℤ z → now / spacing + 1 < unsigned_abs z
    → Ahead z ≡ place_answer spacing limit now (held_at ring) z
ahead spacing limit now ring (negsuc k) some sign far = absurd (omega (arith, ints))
ahead spacing limit now ring (pos k) some sign far =
    let beyond : now + spacing < k * spacing = past spacing now k some far in
    let young : nat_le (k * spacing + limit) now ≡ false = grind (arith, nat_tests) in
    let test : nat_lt (now + spacing) (k * spacing) ≡ true = grind (arith, nat_tests) in
    rw (young, test) refl

double : (spacing limit now : ℕ) (ring : Ring) (z : ℤ) (values : Phases) → pos 0 ≤ℤ z → unsigned_abs z ≤ now / spacing + 1
    → now < unsigned_abs z * spacing + limit → held_at ring (unsigned_abs z) ≡ Some values → Double (unsigned_abs z) ≡ place_answer spacing limit now (held_at ring) z
double spacing limit now ring (negsuc k) values sign near young held = absurd (omega (arith, ints))
double spacing limit now ring (pos k) values sign near young held =
    let close : k * spacing ≤ now + spacing = within spacing now k near in
    let test : nat_le (k * spacing + limit) now ≡ false = grind (arith, nat_tests) in
    let tests : nat_lt (now + spacing) (k * spacing) ≡ false = grind (arith, nat_tests) in
    rw (test, tests, held) refl

stored : (spacing limit now : ℕ) (ring : Ring) (z : ℤ) → pos 0 ≤ℤ z → unsigned_abs z ≤ now / spacing + 1
    → now < unsigned_abs z * spacing + limit → held_at ring (unsigned_abs z) ≡ None → Stored (unsigned_abs z) ≡ place_answer spacing limit now (held_at ring) z
stored spacing limit now ring (negsuc k) sign near young held = absurd (omega (arith, ints))
stored spacing limit now ring (pos k) sign near young held =
    let close : k * spacing ≤ now + spacing = within spacing now k near in
    let test : nat_le (k * spacing + limit) now ≡ false = grind (arith, nat_tests) in
    let tests : nat_lt (now + spacing) (k * spacing) ≡ false = grind (arith, nat_tests) in
    rw (test, tests, held) refl

-- the same for a number that is known by another name
pub Ahead-is : (spacing limit now : ℕ) (ring : Ring) (z named : ℤ) → z ≡ named → 0 < spacing → pos 0 ≤ℤ z → now / spacing + 1 < unsigned_abs z
    → Ahead z ≡ place_answer spacing limit now (held_at ring) named
Ahead-is spacing limit now ring z named is some sign far = ahead spacing limit now ring z some sign far ∙ ap (place_answer spacing limit now (held_at ring)) is

pub Double-is : (spacing limit now : ℕ) (ring : Ring) (z named : ℤ) (values : Phases) → z ≡ named → pos 0 ≤ℤ z → unsigned_abs z ≤ now / spacing + 1
    → now < unsigned_abs z * spacing + limit → held_at ring (unsigned_abs z) ≡ Some values → Double (unsigned_abs z) ≡ place_answer spacing limit now (held_at ring) named
Double-is spacing limit now ring z named values is sign near young held =
    double spacing limit now ring z values sign near young held ∙ ap (place_answer spacing limit now (held_at ring)) is

pub Stored-is : (spacing limit now : ℕ) (ring : Ring) (z named : ℤ) → z ≡ named → pos 0 ≤ℤ z → unsigned_abs z ≤ now / spacing + 1
    → now < unsigned_abs z * spacing + limit → held_at ring (unsigned_abs z) ≡ None → Stored (unsigned_abs z) ≡ place_answer spacing limit now (held_at ring) named
Stored-is spacing limit now ring z named is sign near young held = stored spacing limit now ring z sign near young held ∙ ap (place_answer spacing limit now (held_at ring)) is
