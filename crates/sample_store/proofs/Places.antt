-- What a peer's value makes of a store and of what it stands for.
use Rattle.std.specs.Prelude.{ℤ, pos, negsuc, nat_le, nat_lt, is_none, is_some, Option, Some, None, slice_set}
use Rattle.std.proofs.Common.{◌≡◌, ◌≢◌, ℕ, ◌+◌, ◌-◌, ◌*◌, ◌%◌, ◌<◌, ◌≤◌, true, false, List, [], ◌∷◌, ◌++◌, length, inl, inr, refl, ap, sym, ◌∙◌, arith, append-nil}
use Rattle.std.proofs.lemmas.Bool.{cases_Bool, cases_eq, cases_lt}
use Rattle.std.proofs.lemmas.Bool.Decides.{nat_tests}
use Rattle.std.proofs.lemmas.List.{get_or-set_same, get_or-set_other}
use Rattle.std.proofs.Math.Nat.{mul-le-mul_right}
use Rattle.ld_base.specs.declared.phases.Phases.{Phases}
use Rattle.offset_track.specs.Track.{Chosen}
use Rattle.pingpong.specs.Exchange.{estimate2}
use Rattle.sample_store.specs.Aligned.{Aligned}
use Rattle.sample_store.specs.Answers.{place_answer}
use Rattle.sample_store.specs.Calls.{Call, Offered, offers_of, Given}
use Rattle.sample_store.specs.JudgedSet.{next_set}
use Rattle.sample_store.specs.Offers.{Offer, Value, numbered, next_number, place_at, under, taken_by, placed_by, Taken, Placed}
use Rattle.sample_store.specs.Stock.{Stock, StandsFor, IsPeer, Puts, held_at, ring_of}
use Rattle.sample_store.specs.declared.ring.Numbered.{Numbered}
use Rattle.sample_store.specs.declared.ring.Ring.{Ring}
use Rattle.sample_store.specs.declared.store.Placed.TheVariants.{Stored}
use Rattle.sample_store.proofs.Alongs.{along-push}
use Rattle.sample_store.proofs.JudgedSets.{offers_of-append}
use Rattle.sample_store.proofs.Numbers.{numbered-other, held-push, test_same, test_other}
use Rattle.sample_store.proofs.Owns.{apart, Given-offered}

-- a value that is put under its aligned number
pub record IsStored (spacing limit now : ℕ) (ring : Ring) (z : ℤ) (n : ℕ) : Type 0 where
  pub is : z ≡ pos n
  pub young : now < n * spacing + limit
  pub near : n * spacing ≤ now + spacing
  pub free : held_at ring n ≡ None

none_held : (held : Option Phases) → is_some held ≡ false → held ≡ None
none_held None none = refl
none_held (Some x) none = absurd (cc)

pub IsStored-answer : (spacing limit now : ℕ) (ring : Ring) (z : ℤ) (n : ℕ) → place_answer spacing limit now (held_at ring) z ≡ Stored n → IsStored spacing limit now ring z n
IsStored-answer spacing limit now ring (negsuc k) n answer = absurd (cc)
IsStored-answer spacing limit now ring (pos k) n answer = elim (cases_Bool (nat_le (k * spacing + limit) now)) [
  | inl old ↦ let stale = rw old at answer in absurd (cc)
  | inr young ↦ elim (cases_Bool (nat_lt (now + spacing) (k * spacing))) [
    | inl far ↦ let ahead = rw (young, far) at answer in absurd (cc)
    | inr near ↦ elim (cases_Bool (is_some (held_at ring k))) [
      | inl taken ↦ let double = rw (young, near, taken) at answer in absurd (cc)
      | inr free ↦
          let stored = rw (young, near, free) at answer in
          let same : k ≡ n = cc in
          rw (← same) (record { is = refl; young = grind (arith, nat_tests); near = grind (arith, nat_tests); free = none_held (held_at ring k) free })
    ]
  ]
]

-- the other way, for a number that isn't negative
stored_answer : (spacing limit now : ℕ) (ring : Ring) (k : ℕ) → now < k * spacing + limit → k * spacing ≤ now + spacing → held_at ring k ≡ None
    → place_answer spacing limit now (held_at ring) (pos k) ≡ Stored k
stored_answer spacing limit now ring k young near free =
    let test : nat_le (k * spacing + limit) now ≡ false = grind (arith, nat_tests) in
    let tests : nat_lt (now + spacing) (k * spacing) ≡ false = grind (arith, nat_tests) in
    rw (test, tests, free) refl

-- a value that isn't put has no place
place_at-left : (spacing limit now : ℕ) (ring : Ring) (placed : List Numbered) (z : ℤ) → ((n : ℕ) → place_answer spacing limit now (held_at ring) z ≢ Stored n)
    → ((k : ℕ) → now < k * spacing + limit → held_at ring k ≡ numbered k placed) → place_at spacing limit now placed z ≡ None
place_at-left spacing limit now ring placed (negsuc k) left held = refl
place_at-left spacing limit now ring placed (pos k) left held = elim (cases_Bool (nat_lt now (k * spacing + limit))) [
  | inr old ↦ rw old refl
  | inl young ↦ elim (cases_Bool (nat_le (k * spacing) (now + spacing))) [
    | inr far ↦ rw (young, far) refl
    | inl near ↦ elim (cases_Bool (is_none (numbered k placed))) [
      | inr double ↦ rw (young, near, double) refl
      | inl free ↦
          let is_young : now < k * spacing + limit = grind (arith, nat_tests) in
          let is_near : k * spacing ≤ now + spacing = grind (arith, nat_tests) in
          absurd (left k (stored_answer spacing limit now ring k is_young is_near (held k is_young ∙ is_free (numbered k placed) free)))
    ]
  ]
]
  where
    is_free : (found : Option Phases) → is_none found ≡ true → found ≡ None
    is_free None none = refl
    is_free (Some x) none = absurd (cc)

place_at-stored : (spacing limit now : ℕ) (ring : Ring) (placed : List Numbered) (z : ℤ) (n : ℕ) → IsStored spacing limit now ring z n
    → numbered n placed ≡ None → place_at spacing limit now placed z ≡ Some n
place_at-stored spacing limit now ring placed z n stored none =
    let young = stored.young in
    let near = stored.near in
    let test : nat_lt now (n * spacing + limit) ≡ true = grind (arith, nat_tests) in
    let tests : nat_le (n * spacing) (now + spacing) ≡ true = grind (arith, nat_tests) in
    rw (stored.is, test, tests, none) refl

-- an answer asks only for values that are younger than the limit
pub place_answer-alike : (spacing limit now : ℕ) (held found : ℕ → Option Phases) (z : ℤ) → ((k : ℕ) → now < k * spacing + limit → held k ≡ found k)
    → place_answer spacing limit now held z ≡ place_answer spacing limit now found z
place_answer-alike spacing limit now held found (negsuc k) alike = refl
place_answer-alike spacing limit now held found (pos k) alike = elim (cases_Bool (nat_le (k * spacing + limit) now)) [
  | inl old ↦ rw old refl
  | inr young ↦ let same : held k ≡ found k = alike k (grind (arith, nat_tests)) in rw (young, same) refl
]

-- so it is by all values that were placed before
pub place_answer-over_all : (stock : Stock) (calls : List Call) (now peer : ℕ) (z : ℤ) → stock.now ≤ now → IsPeer stock peer → StandsFor stock calls
    → place_answer stock.fields.spacing stock.fields.limit now (held_at (ring_of stock peer)) z
    ≡ place_answer stock.fields.spacing stock.fields.limit now (λ n. numbered n (Placed stock.fields.spacing stock.fields.limit peer (offers_of calls))) z
place_answer-over_all stock calls now peer z later is_peer stands =
    place_answer-alike stock.fields.spacing stock.fields.limit now (held_at (ring_of stock peer))
    (λ n. numbered n (Placed stock.fields.spacing stock.fields.limit peer (offers_of calls))) z (λ k young. stands.peers peer is_peer k (omega arith))

-- numbers in one place of a ring lie too far apart for both to be young
driven_out : (k n spacing limit now : ℕ) (xs : List Numbered) → limit ≤ 48 * spacing → n * spacing ≤ now + spacing → now < n * spacing + limit
    → ((k : ℕ) → now + spacing < k * spacing → numbered k xs ≡ None)
    → k ≢ n → k % 64 ≡ n % 64 → now < k * spacing + limit → numbered k xs ≡ None
driven_out k n spacing limit now xs few near young ahead differ place later = elim (cases_lt k n) [
  | inl below ↦
      let far = mul-le-mul_right spacing (apart k n differ place below) in
      absurd (omega arith)
  | inr past ↦
      let far = mul-le-mul_right spacing (apart n k (λ same. differ (sym same)) (sym place) (omega arith)) in
      ahead k (omega arith)
]

-- a store that put a value
abbrev pub with_value : Stock → ℕ → ℕ → Ring → Stock
with_value stock now peer ring = record stock { now = now; rings = slice_set stock.rings (peer - 1) ring }

Taken-value : (spacing : ℕ) (offers : List Offer) (fresh : Chosen) (peer number : ℕ) (values : Phases)
    → Taken spacing (offers ++ Value fresh peer number values ∷ []) ≡ Taken spacing offers
Taken-value spacing offers fresh peer number values =
    along-push (λ before taken offer. taken_by spacing taken offer) offers (Value fresh peer number values) ∙ append-nil (Taken spacing offers)

Placed-value : (spacing limit peer : ℕ) (offers : List Offer) (fresh : Chosen) (number : ℕ) (values : Phases)
    → Placed spacing limit peer (offers ++ Value fresh peer number values ∷ [])
    ≡ Placed spacing limit peer offers ++ under (place_at spacing limit fresh.at (Placed spacing limit peer offers) (Aligned spacing number (estimate2 fresh.exchange))) values
Placed-value spacing limit peer offers fresh number values =
    along-push (λ before placed offer. placed_by spacing limit peer placed offer) offers (Value fresh peer number values) ∙ rw (test_same peer) refl

Placed-other : (spacing limit other : ℕ) (offers : List Offer) (fresh : Chosen) (peer number : ℕ) (values : Phases) → peer ≢ other
    → Placed spacing limit other (offers ++ Value fresh peer number values ∷ []) ≡ Placed spacing limit other offers
Placed-other spacing limit other offers fresh peer number values differ =
    along-push (λ before placed offer. placed_by spacing limit other placed offer) offers (Value fresh peer number values)
    ∙ rw (test_other peer other differ) (append-nil (Placed spacing limit other offers))

Given-placed : (stock : Stock) (calls : List Call) (offer : Offer) → StandsFor stock calls → stock.given_next ≡ next_set (Given stock.fields stock.me (calls ++ Offered offer ∷ []))
Given-placed stock calls offer stands = stands.given_next ∙ ap next_set (sym (Given-offered stock.fields stock.me calls offer))

pub StandsFor-stored : (stock : Stock) (calls : List Call) (fresh : Chosen) (peer number n : ℕ) (values : Phases) (ring : Ring)
    → stock.fields.limit ≤ 48 * stock.fields.spacing → peer - 1 < length stock.rings → 1 ≤ stock.me → stock.now ≤ fresh.at → IsPeer stock peer
    → IsStored stock.fields.spacing stock.fields.limit fresh.at (ring_of stock peer) (Aligned stock.fields.spacing number (estimate2 fresh.exchange)) n
    → Puts (ring_of stock peer) ring n values
    → StandsFor stock calls → StandsFor (with_value stock fresh.at peer ring) (calls ++ Offered (Value fresh peer number values) ∷ [])
StandsFor-stored stock calls fresh peer number n values ring few inside is_station later is_peer stored puts stands =
    let f = stock.fields in
    let offers = offers_of calls in
    let offer = Value fresh peer number values in
    let young : stock.now < n * f.spacing + f.limit = omega (arith, stored.young) in
    let none : numbered n (Placed f.spacing f.limit peer offers) ≡ None = sym (stands.peers peer is_peer n young) ∙ stored.free in
    let place = place_at-stored f.spacing f.limit fresh.at (ring_of stock peer) (Placed f.spacing f.limit peer offers) (Aligned f.spacing number (estimate2 fresh.exchange)) n stored none in
    let more : offers_of (calls ++ Offered offer ∷ []) ≡ offers ++ offer ∷ [] = offers_of-append calls (Offered offer ∷ []) in
    let taken : Taken f.spacing (offers_of (calls ++ Offered offer ∷ [])) ≡ Taken f.spacing offers = ap (Taken f.spacing) more ∙ Taken-value f.spacing offers fresh peer number values in
    let placed : Placed f.spacing f.limit peer (offers_of (calls ++ Offered offer ∷ [])) ≡ Placed f.spacing f.limit peer offers ++ record { number = n; values = values } ∷ [] =
    ap (Placed f.spacing f.limit peer) more ∙ Placed-value f.spacing f.limit peer offers fresh number values
    ∙ ap (λ w. Placed f.spacing f.limit peer offers ++ under w values) place in
    let others = λ (other : ℕ) (differ : peer ≢ other). ap (Placed f.spacing f.limit other) more ∙ Placed-other f.spacing f.limit other offers fresh peer number values differ in
    record {
      own_next = stands.own_next ∙ ap next_number (sym taken);
      own = λ k young.
          let apart : stock.me - 1 ≢ peer - 1 = λ same. is_peer.other (omega (arith, is_peer.in_range)) in
          ap (λ r. held_at r k) (get_or-set_other stock.rings (peer - 1) (stock.me - 1) ring (record { places = [] }) apart)
          ∙ stands.own k (omega arith)
          ∙ sym (ap (numbered k) taken);
      peers = λ other is k young. elim (cases_eq peer other) [
        | inl same ↦ rw (← same)
            (ap (λ r. held_at r k) (get_or-set_same stock.rings (peer - 1) ring (record { places = [] }) inside)
            ∙ held-push (ring_of stock peer) ring (Placed f.spacing f.limit peer offers) n values f.spacing f.limit stock.now fresh.at puts later
            (stands.peers peer is_peer) none
            (λ k differ place young. driven_out k n f.spacing f.limit fresh.at (Placed f.spacing f.limit peer offers) few stored.near stored.young
            (λ k far. stands.ahead peer k (omega arith)) differ place young)
            k young
            ∙ sym (ap (numbered k) placed))
        | inr differ ↦
            let apart : other - 1 ≢ peer - 1 = λ same. differ (omega (arith, is.in_range, is_peer.in_range)) in
            ap (λ r. held_at r k) (get_or-set_other stock.rings (peer - 1) (other - 1) ring (record { places = [] }) apart)
            ∙ stands.peers other (record { in_range = is.in_range; other = is.other }) k (omega arith)
            ∙ sym (ap (numbered k) (others other differ))
      ];
      ahead = λ other k far. elim (cases_eq peer other) [
        | inl same ↦ rw (← same)
            (ap (numbered k) placed
            ∙ numbered-other (Placed f.spacing f.limit peer offers) n k values (λ is. absurd (omega (arith, stored.near, ap (λ m. m * f.spacing) is)))
            ∙ stands.ahead peer k (omega arith))
        | inr differ ↦ ap (numbered k) (others other differ) ∙ stands.ahead other k (omega arith)
      ];
      given_next = Given-placed stock calls offer stands;
    }

pub StandsFor-unplaced : (stock : Stock) (calls : List Call) (fresh : Chosen) (peer number : ℕ) (values : Phases) → stock.now ≤ fresh.at → IsPeer stock peer
    → ((n : ℕ) → place_answer stock.fields.spacing stock.fields.limit fresh.at (held_at (ring_of stock peer)) (Aligned stock.fields.spacing number (estimate2 fresh.exchange)) ≢ Stored n)
    → StandsFor stock calls → StandsFor stock (calls ++ Offered (Value fresh peer number values) ∷ [])
StandsFor-unplaced stock calls fresh peer number values later is_peer left stands =
    let f = stock.fields in
    let offers = offers_of calls in
    let offer = Value fresh peer number values in
    let none = place_at-left f.spacing f.limit fresh.at (ring_of stock peer) (Placed f.spacing f.limit peer offers) (Aligned f.spacing number (estimate2 fresh.exchange)) left
    (λ k young. stands.peers peer is_peer k (omega arith)) in
    let more : offers_of (calls ++ Offered offer ∷ []) ≡ offers ++ offer ∷ [] = offers_of-append calls (Offered offer ∷ []) in
    let taken : Taken f.spacing (offers_of (calls ++ Offered offer ∷ [])) ≡ Taken f.spacing offers = ap (Taken f.spacing) more ∙ Taken-value f.spacing offers fresh peer number values in
    let placed : (other : ℕ) → Placed f.spacing f.limit other (offers_of (calls ++ Offered offer ∷ [])) ≡ Placed f.spacing f.limit other offers =
    λ other. elim (cases_eq peer other) [
      | inl same ↦ rw (← same)
          (ap (Placed f.spacing f.limit peer) more ∙ Placed-value f.spacing f.limit peer offers fresh number values
          ∙ ap (λ w. Placed f.spacing f.limit peer offers ++ under w values) none ∙ append-nil (Placed f.spacing f.limit peer offers))
      | inr differ ↦ ap (Placed f.spacing f.limit other) more ∙ Placed-other f.spacing f.limit other offers fresh peer number values differ
    ] in
    record {
      own_next = stands.own_next ∙ ap next_number (sym taken);
      own = λ k young. stands.own k young ∙ sym (ap (numbered k) taken);
      peers = λ other is k young. stands.peers other is k young ∙ sym (ap (numbered k) (placed other));
      ahead = λ other k far. ap (numbered k) (placed other) ∙ stands.ahead other k far;
      given_next = Given-placed stock calls offer stands;
    }
