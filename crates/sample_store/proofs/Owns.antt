-- What an own sample makes of a store and of what it stands for.
use Rattle.std.specs.Prelude.{nat_le, nat_lt, option_map, Option, Some, None, slice_set}
use Rattle.std.specs.Option.{option_or}
use Rattle.std.proofs.Common.{◌≡◌, ◌≢◌, ℕ, ◌+◌, ◌-◌, ◌*◌, ◌/◌, ◌%◌, ◌<◌, ◌≤◌, true, List, [], ◌∷◌, ◌++◌, length, inl, inr, refl, ap, sym, ◌∙◌, arith, append-nil}
use Rattle.std.proofs.lemmas.Bool.{cases_Bool, cases_lt}
use Rattle.std.proofs.lemmas.Bool.Decides.{nat_tests}
use Rattle.std.proofs.lemmas.List.{get_or-set_same, get_or-set_other}
use Rattle.std.proofs.Math.Nat.{div-mul-le_self, mul-le-mul_right}
use Rattle.ld_base.specs.declared.fields.Fields.{Fields}
use Rattle.ld_base.specs.declared.phases.Phases.{Phases}
use Rattle.ld_base.specs.Settings.{setting_fault, key_out_of_range, misfit, message_ticks}
use Rattle.ld_base.specs.declared.settings.BadSetting.TheVariants.{Range}
use Rattle.sample_store.specs.Answers.{own_answer}
use Rattle.sample_store.specs.Calls.{Call, Offered, offers_of, Given}
use Rattle.sample_store.specs.JudgedSet.{next_set}
use Rattle.sample_store.specs.Offers.{Offer, Own, numbered, next_number, own_number, under, taken_by, placed_by, Taken, Placed}
use Rattle.sample_store.specs.Stock.{Stock, StandsFor, Puts, held_at, ring_of}
use Rattle.sample_store.specs.declared.ring.Ring.{Ring}
use Rattle.sample_store.specs.declared.store.OwnTaken.TheVariants.{Took}
use Rattle.sample_store.proofs.Alongs.{along-push}
use Rattle.sample_store.proofs.JudgedSets.{offers_of-append, Given-push}
use Rattle.sample_store.proofs.Numbers.{numbered-above, next_number-push, held-push}

-- a sample that is taken
pub record IsTook (spacing next now n : ℕ) : Type 0 where
  pub is : n ≡ now / spacing
  pub on_grid : now % spacing ≤ 1
  pub above : next ≤ n

pub IsTook-answer : (spacing next now n : ℕ) → own_answer spacing next now ≡ Took n → IsTook spacing next now n
IsTook-answer spacing next now n answer = elim (cases_Bool (nat_le (now % spacing) 1)) [
  | inl on_grid ↦ elim (cases_Bool (nat_le next (now / spacing))) [
    | inl above ↦
        let took = rw (on_grid, above) at answer in
        let is : now / spacing ≡ n = cc in
        record { is = sym is; on_grid = grind (arith, nat_tests); above = grind (arith, nat_tests) }
    | inr below ↦ let again = rw (on_grid, below) at answer in absurd (cc)
  ]
  | inr off ↦ let off_grid = rw off at answer in absurd (cc)
]

own_number-took : (spacing now n : ℕ) (taken : List _) → IsTook spacing (next_number taken) now n → own_number spacing taken now ≡ Some n
own_number-took spacing now n taken took = rw took.is (grind (arith, nat_tests, took))

pub IsTook-since : (spacing next now n : ℕ) → IsTook spacing next now n → n * spacing ≤ now
IsTook-since spacing next now n took = rw took.is (div-mul-le_self now spacing)

-- numbers in one place of a ring lie 64 apart
pub apart : (k n : ℕ) → k ≢ n → k % 64 ≡ n % 64 → k < n → k + 64 ≤ n
apart k n differ place below = omega arith

-- so a sample that would be driven out is too old
too_old : (k n spacing limit now : ℕ) → limit ≤ 48 * spacing → n * spacing ≤ now → k + 64 ≤ n → now < k * spacing + limit → ⊥
too_old k n spacing limit now few since far young =
    let more : (k + 64) * spacing ≤ n * spacing = mul-le-mul_right spacing far in
    omega arith

-- accepted settings judge samples of at most 48 spacings
none-either : {A : Type 0} (first second : Option A) → option_or first second ≡ None → second ≡ None
none-either None second none = none
none-either (Some x) second none = absurd (cc)

misfit-over : (f : Fields) → 48 * f.spacing < f.limit → misfit f ≡ None → ⊥
misfit-over f over none =
    let test : nat_lt (48 * f.spacing) f.limit ≡ true = grind (arith, nat_tests) in
    elim (cases_Bool (nat_lt f.spacing (message_ticks f.channels))) [
      | inl slow ↦ let refused = rw slow at none in absurd (cc)
      | inr quick ↦ let refused = rw (quick, test) at none in absurd (cc)
    ]

pub limit-accepted : (f : Fields) → setting_fault f ≡ None → f.limit ≤ 48 * f.spacing
unfolding setting_fault
limit-accepted f accepted = elim (cases_lt (48 * f.spacing) f.limit) [
  | inl over ↦ absurd (misfit-over f over (none-either (option_map (λ k. Range k) (key_out_of_range f)) (misfit f) accepted))
  | inr fits ↦ fits
]

-- a store that took a sample
abbrev pub with_own : Stock → ℕ → ℕ → Ring → Stock
with_own stock now n ring = record stock { now = now; own_next = n + 1; rings = slice_set stock.rings (stock.me - 1) ring }

Placed-own : (spacing limit peer : ℕ) (offers : List Offer) (now : ℕ) (values : Phases)
    → Placed spacing limit peer (offers ++ Own now values ∷ []) ≡ Placed spacing limit peer offers
Placed-own spacing limit peer offers now values =
    along-push (λ before placed offer. placed_by spacing limit peer placed offer) offers (Own now values) ∙ append-nil (Placed spacing limit peer offers)

Taken-own : (spacing : ℕ) (offers : List Offer) (now : ℕ) (values : Phases)
    → Taken spacing (offers ++ Own now values ∷ []) ≡ Taken spacing offers ++ under (own_number spacing (Taken spacing offers) now) values
Taken-own spacing offers now values = along-push (λ before taken offer. taken_by spacing taken offer) offers (Own now values)

pub Given-offered : (f : Fields) (me : ℕ) (calls : List Call) (offer : Offer) → Given f me (calls ++ Offered offer ∷ []) ≡ Given f me calls
Given-offered f me calls offer = Given-push f me calls (Offered offer) ∙ append-nil (Given f me calls)

pub StandsFor-took : (stock : Stock) (calls : List Call) (now n : ℕ) (values : Phases) (ring : Ring)
    → stock.fields.limit ≤ 48 * stock.fields.spacing → stock.me - 1 < length stock.rings → stock.now ≤ now
    → IsTook stock.fields.spacing stock.own_next now n → n * stock.fields.spacing ≤ now → Puts (ring_of stock stock.me) ring n values
    → (1 ≤ stock.me)
    → StandsFor stock calls → StandsFor (with_own stock now n ring) (calls ++ Offered (Own now values) ∷ [])
StandsFor-took stock calls now n values ring few inside later took since puts is_station stands =
    let f = stock.fields in
    let offers = offers_of calls in
    let next = stands.own_next in
    let above : next_number (Taken f.spacing offers) ≤ n = omega (arith, took.above) in
    let number : own_number f.spacing (Taken f.spacing offers) now ≡ Some n =
    own_number-took f.spacing now n (Taken f.spacing offers) (record { is = took.is; on_grid = took.on_grid; above = above }) in
    let more : offers_of (calls ++ Offered (Own now values) ∷ []) ≡ offers ++ Own now values ∷ [] = offers_of-append calls (Offered (Own now values) ∷ []) in
    let taken : Taken f.spacing (offers_of (calls ++ Offered (Own now values) ∷ [])) ≡ Taken f.spacing offers ++ record { number = n; values = values } ∷ [] =
    ap (Taken f.spacing) more ∙ Taken-own f.spacing offers now values ∙ ap (λ w. Taken f.spacing offers ++ under w values) number in
    let placed = λ (peer : ℕ). ap (Placed f.spacing f.limit peer) more ∙ Placed-own f.spacing f.limit peer offers now values in
    record {
      own_next = sym (ap next_number taken ∙ next_number-push (Taken f.spacing offers) n values above);
      own = λ k young.
          let here = get_or-set_same stock.rings (stock.me - 1) ring (record { places = [] }) inside in
          ap (λ r. held_at r k) here
          ∙ held-push (ring_of stock stock.me) ring (Taken f.spacing offers) n values f.spacing f.limit stock.now now puts later stands.own
          (numbered-above (Taken f.spacing offers) n above)
          (λ k differ place young. elim (cases_lt k n) [
            | inl below ↦ absurd (too_old k n f.spacing f.limit now few since (apart k n differ place below) young)
            | inr past ↦ numbered-above (Taken f.spacing offers) k (omega arith)
          ])
          k young
          ∙ sym (ap (numbered k) taken);
      peers = λ peer is k young.
          let other : peer - 1 ≢ stock.me - 1 = λ same. is.other (omega (arith, is.in_range)) in
          ap (λ r. held_at r k) (get_or-set_other stock.rings (stock.me - 1) (peer - 1) ring (record { places = [] }) other)
          ∙ stands.peers peer (record { in_range = is.in_range; other = is.other }) k (omega arith)
          ∙ sym (ap (numbered k) (placed peer));
      ahead = λ peer k far. ap (numbered k) (placed peer) ∙ stands.ahead peer k (omega arith);
      given_next = stands.given_next ∙ ap next_set (sym (Given-offered f stock.me calls (Own now values)));
    }

own_number-left : (spacing now : ℕ) (taken : List _) → ((n : ℕ) → own_answer spacing (next_number taken) now ≢ Took n) → own_number spacing taken now ≡ None
own_number-left spacing now taken left = elim (cases_Bool (nat_le (now % spacing) 1)) [
  | inl on_grid ↦ elim (cases_Bool (nat_le (next_number taken) (now / spacing))) [
    | inl above ↦ absurd (left (now / spacing) (rw (on_grid, above) refl))
    | inr below ↦ rw (on_grid, below) refl
  ]
  | inr off ↦ rw off refl
]

pub StandsFor-left : (stock : Stock) (calls : List Call) (now : ℕ) (values : Phases)
    → ((n : ℕ) → own_answer stock.fields.spacing stock.own_next now ≢ Took n)
    → StandsFor stock calls → StandsFor stock (calls ++ Offered (Own now values) ∷ [])
StandsFor-left stock calls now values left stands =
    let f = stock.fields in
    let offers = offers_of calls in
    let none : own_number f.spacing (Taken f.spacing offers) now ≡ None =
    own_number-left f.spacing now (Taken f.spacing offers) (λ n. rw stands.own_next at (left n)) in
    let more : offers_of (calls ++ Offered (Own now values) ∷ []) ≡ offers ++ Own now values ∷ [] = offers_of-append calls (Offered (Own now values) ∷ []) in
    let taken : Taken f.spacing (offers_of (calls ++ Offered (Own now values) ∷ [])) ≡ Taken f.spacing offers =
    ap (Taken f.spacing) more ∙ Taken-own f.spacing offers now values ∙ ap (λ w. Taken f.spacing offers ++ under w values) none
    ∙ append-nil (Taken f.spacing offers) in
    let placed = λ (peer : ℕ). ap (Placed f.spacing f.limit peer) more ∙ Placed-own f.spacing f.limit peer offers now values in
    record {
      own_next = stands.own_next ∙ ap next_number (sym taken);
      own = λ k young. stands.own k young ∙ sym (ap (numbered k) taken);
      peers = λ peer is k young. stands.peers peer is k young ∙ sym (ap (numbered k) (placed peer));
      ahead = λ peer k far. ap (numbered k) (placed peer) ∙ stands.ahead peer k far;
      given_next = stands.given_next ∙ ap next_set (sym (Given-offered f stock.me calls (Own now values)));
    }
