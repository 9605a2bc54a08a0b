-- The set that a store gives, and what it makes of what the store stands for.
use Rattle.std.specs.Prelude.{nat_le, nat_lt, ◌&&◌, ◌==◌, if◌then◌else◌, Option, Some, None, option_to_list}
use Rattle.std.proofs.Common.{◌≡◌, ℕ, ◌+◌, ◌*◌, ◌<◌, ◌≤◌, Bool, true, false, List, [], ◌∷◌, ◌++◌, inl, inr, refl, ap, sym, ◌∙◌, arith, append-nil}
use Rattle.std.proofs.lemmas.Bool.{cases_Bool, cases_eq}
use Rattle.std.proofs.lemmas.Bool.Decides.{nat_tests}
use Rattle.ld_base.specs.declared.fields.Fields.{Fields}
use Rattle.ld_base.specs.declared.phases.Phases.{Phases}
use Rattle.ld_base.specs.declared.phases.SampleSet.{SampleSet}
use Rattle.sample_store.specs.Answers.{kept_in, whole_at, set_answer}
use Rattle.sample_store.specs.Calls.{Call, Asked, offers_of, Given}
use Rattle.sample_store.specs.JudgedSet.{part, together, set_of, next_set, given_of}
use Rattle.sample_store.specs.Offers.{numbered, next_number, Taken, Placed}
use Rattle.sample_store.specs.Stock.{Stock, StandsFor, held_at, ring_of}
use Rattle.sample_store.specs.declared.ring.Ring.{Ring}
use Rattle.sample_store.proofs.JudgedSets.{offers_of-append, Given-push}
use Rattle.sample_store.proofs.Numbers.{test_other}

-- what is kept of a station is its part of the set, while that is young
kept_in-part : (stock : Stock) (calls : List Call) (n station : ℕ) → 1 ≤ station → stock.now < n * stock.fields.spacing + stock.fields.limit
    → StandsFor stock calls
    → kept_in stock.fields.stations station (ring_of stock station) n ≡ part stock.fields stock.me (offers_of calls) n station
kept_in-part stock calls n station first young stands = elim (cases_Bool (nat_lt stock.fields.stations station)) [
  | inl beyond ↦ rw beyond refl
  | inr on_line ↦ elim (cases_eq station stock.me) [
    | inl same ↦
        let test : (station == stock.me) ≡ true = grind (arith, nat_tests) in
        rw (on_line, test) (ap (λ s. held_at (ring_of stock s) n) same ∙ stands.own n young)
    | inr differ ↦
        let test : (station == stock.me) ≡ false = test_other station stock.me differ in
        let last : station ≤ stock.fields.stations = grind (arith, nat_tests) in
        rw (on_line, test) (stands.peers station (record { in_range = (first, last); other = differ }) n young)
  ]
]

whole_at-set_of : (stock : Stock) (calls : List Call) (n : ℕ) → stock.now < n * stock.fields.spacing + stock.fields.limit → StandsFor stock calls
    → whole_at stock.fields.stations stock.rings n ≡ set_of stock.fields stock.me (offers_of calls) n
whole_at-set_of stock calls n young stands =
    let f = stock.fields in
    let offers = offers_of calls in
    let first = kept_in-part stock calls n 1 (omega arith) young stands in
    let second = kept_in-part stock calls n 2 (omega arith) young stands in
    let third = kept_in-part stock calls n 3 (omega arith) young stands in
    ap (λ a. together n a (kept_in f.stations 2 (ring_of stock 2) n) (kept_in f.stations 3 (ring_of stock 3) n)) first
    ∙ ap (λ b. together n (part f stock.me offers n 1) b (kept_in f.stations 3 (ring_of stock 3) n)) second
    ∙ ap (λ c. together n (part f stock.me offers n 1) (part f stock.me offers n 2) c) third

-- a set is given or not by its number alone
same_either : {A : Type 0} (test : Bool) (x : A) → (if test then x else x) ≡ x
same_either true x = refl
same_either false x = refl

given_of-together : (f : Fields) (now next n : ℕ) (a b c : Option Phases)
    → given_of f now next (together n a b c) ≡ option_to_list (if nat_lt now (n * f.spacing + f.limit) && nat_le next n then together n a b c else None)
given_of-together f now next n (Some a) (Some b) (Some c) = elim (cases_Bool (nat_lt now (n * f.spacing + f.limit))) [
  | inr old ↦ rw old refl
  | inl young ↦ elim (cases_Bool (nat_le next n)) [
    | inr given ↦ rw (young, given) refl
    | inl above ↦ rw (young, above) refl
  ]
]
given_of-together f now next n (Some a) (Some b) None = ap option_to_list (sym (same_either (nat_lt now (n * f.spacing + f.limit) && nat_le next n) None))
given_of-together f now next n (Some a) None c = ap option_to_list (sym (same_either (nat_lt now (n * f.spacing + f.limit) && nat_le next n) None))
given_of-together f now next n None b c = ap option_to_list (sym (same_either (nat_lt now (n * f.spacing + f.limit) && nat_le next n) None))

set_answer-is : (stock : Stock) (calls : List Call) (now n : ℕ) → stock.now ≤ now → StandsFor stock calls
    → set_answer stock.fields stock.given_next stock.rings now n
    ≡ (if nat_lt now (n * stock.fields.spacing + stock.fields.limit) && nat_le stock.given_next n then set_of stock.fields stock.me (offers_of calls) n else None)
set_answer-is stock calls now n later stands = elim (cases_Bool (nat_lt now (n * stock.fields.spacing + stock.fields.limit))) [
  | inr old ↦ rw old refl
  | inl test ↦
      let young : now < n * stock.fields.spacing + stock.fields.limit = grind (arith, nat_tests) in
      ap (λ set. if nat_lt now (n * stock.fields.spacing + stock.fields.limit) && nat_le stock.given_next n then set else None)
      (whole_at-set_of stock calls n (omega arith) stands)
]

-- the sets given with one question more
pub Given-asked : (stock : Stock) (calls : List Call) (now n : ℕ) → stock.now ≤ now → StandsFor stock calls
    → Given stock.fields stock.me (calls ++ Asked now n ∷ [])
    ≡ Given stock.fields stock.me calls ++ option_to_list (set_answer stock.fields stock.given_next stock.rings now n)
Given-asked stock calls now n later stands =
    let f = stock.fields in
    let me = stock.me in
    let offers = offers_of calls in
    let given = Given f me calls in
    let answer = set_answer-is stock calls now n later stands
    ∙ ap (λ next. if nat_lt now (n * f.spacing + f.limit) && nat_le next n then set_of f me offers n else None) stands.given_next in
    Given-push f me calls (Asked now n)
    ∙ ap (λ sets. given ++ sets)
    (given_of-together f now (next_set given) n (part f me offers n 1) (part f me offers n 2) (part f me offers n 3) ∙ sym (ap option_to_list answer))

-- what is known of a set that is given
record IsGiven (next n : ℕ) (set : SampleSet) : Type 0 where
  number : set.number ≡ n
  above : next ≤ n

together-number : (n : ℕ) (a b c : Option Phases) (set : SampleSet) → together n a b c ≡ Some set → set.number ≡ n
together-number n (Some a) (Some b) (Some c) set is = let same : set ≡ record { number = n; values = a ∷ b ∷ c ∷ [] } = cc in rw same refl
together-number n (Some a) (Some b) None set is = absurd (cc)
together-number n (Some a) None c set is = absurd (cc)
together-number n None b c set is = absurd (cc)

IsGiven-answer : (f : Fields) (next : ℕ) (rings : List Ring) (now n : ℕ) (set : SampleSet) → set_answer f next rings now n ≡ Some set → IsGiven next n set
IsGiven-answer f next rings now n set answer = elim (cases_Bool (nat_lt now (n * f.spacing + f.limit))) [
  | inr old ↦ let none = rw old at answer in absurd (cc)
  | inl young ↦ elim (cases_Bool (nat_le next n)) [
    | inr given ↦ let none = rw (young, given) at answer in absurd (cc)
    | inl above ↦ record { number = together-number n _ _ _ set (rw (young, above) at answer); above = grind (arith, nat_tests) }
  ]
]

next_set-push : (sets : List SampleSet) (set : SampleSet) → next_set sets ≤ set.number → next_set (sets ++ set ∷ []) ≡ set.number + 1
next_set-push [] set above = omega arith
next_set-push (x ∷ sets) set above = rw (next_set-push sets set (omega arith)) (omega arith)

-- a question changes nothing but the sets given
StandsFor-next : (stock : Stock) (calls : List Call) (now n next : ℕ) → next ≡ next_set (Given stock.fields stock.me (calls ++ Asked now n ∷ []))
    → StandsFor stock calls → StandsFor (record stock { given_next = next }) (calls ++ Asked now n ∷ [])
StandsFor-next stock calls now n next is stands =
    let f = stock.fields in
    let same : offers_of (calls ++ Asked now n ∷ []) ≡ offers_of calls = offers_of-append calls (Asked now n ∷ []) ∙ append-nil (offers_of calls) in
    record {
      own_next = stands.own_next ∙ ap (λ xs. next_number (Taken f.spacing xs)) (sym same);
      own = λ k young. stands.own k young ∙ ap (λ xs. numbered k (Taken f.spacing xs)) (sym same);
      peers = λ peer is_peer k young.
          stands.peers peer (record { in_range = is_peer.in_range; other = is_peer.other }) k young
          ∙ ap (λ xs. numbered k (Placed f.spacing f.limit peer xs)) (sym same);
      ahead = λ peer k far. ap (λ xs. numbered k (Placed f.spacing f.limit peer xs)) same ∙ stands.ahead peer k far;
      given_next = is;
    }

pub StandsFor-not_given : (stock : Stock) (calls : List Call) (now n : ℕ) → stock.now ≤ now
    → set_answer stock.fields stock.given_next stock.rings now n ≡ None → StandsFor stock calls → StandsFor stock (calls ++ Asked now n ∷ [])
StandsFor-not_given stock calls now n later is stands =
    let given = Given-asked stock calls now n later stands ∙ ap (λ set. Given stock.fields stock.me calls ++ option_to_list set) is in
    let next = stands.given_next ∙ ap next_set (sym (given ∙ append-nil (Given stock.fields stock.me calls))) in
    let same = StandsFor-next stock calls now n stock.given_next next stands in
    record {
      own_next = same.own_next;
      own = same.own;
      peers = λ peer is_peer k young. same.peers peer (record { in_range = is_peer.in_range; other = is_peer.other }) k young;
      ahead = same.ahead;
      given_next = same.given_next;
    }

pub StandsFor-given : (stock : Stock) (calls : List Call) (now n : ℕ) (set : SampleSet) → stock.now ≤ now
    → set_answer stock.fields stock.given_next stock.rings now n ≡ Some set
    → StandsFor stock calls → StandsFor (record stock { given_next = n + 1 }) (calls ++ Asked now n ∷ [])
StandsFor-given stock calls now n set later is stands =
    let given = Given-asked stock calls now n later stands ∙ ap (λ set. Given stock.fields stock.me calls ++ option_to_list set) is in
    let known = IsGiven-answer stock.fields stock.given_next stock.rings now n set is in
    let above : next_set (Given stock.fields stock.me calls) ≤ set.number = omega (arith, known.number, known.above, stands.given_next) in
    let next = ap next_set given ∙ next_set-push (Given stock.fields stock.me calls) set above ∙ ap (λ k. k + 1) known.number in
    StandsFor-next stock calls now n (n + 1) (sym next) stands
