-- What a store's offers bring: own samples, values of peers, and sets whose parts all stand under their number.
use Rattle.std.specs.Prelude.{Contains, nat_le, nat_lt, ◌==◌, is_none, slice_index_or}
use Rattle.std.proofs.Common.{◌≡◌, ◌≢◌, ℕ, zero, suc, ◌+◌, ◌-◌, ◌*◌, ◌/◌, ◌%◌, ◌<◌, ◌≤◌, ℤ, pos, negsuc, Bool, true, false, cond, ◌&&◌, List, [], ◌∷◌, Option, None, Some, inl, inr, refl, ap, sym, subst, ◌∙◌, arith}
use Rattle.std.proofs.Math.Nat.{div-mul-le_self}
use Rattle.std.proofs.lemmas.Bool.{cases_Bool, eqb-true, leb-true, ltb-true, ne_eqb, eq-eqb, le-ltb}
use Rattle.ld_base.specs.declared.fields.Fields.{Fields}
use Rattle.ld_base.specs.Phases.{no_current}
use Rattle.ld_base.specs.declared.phases.Phases.{Phases}
use Rattle.ld_base.specs.declared.phases.SampleSet.{SampleSet}
use Rattle.offset_track.specs.Track.{Chosen}
use Rattle.pingpong.specs.Exchange.{estimate2}
use Rattle.sample_store.specs.Aligned.{Aligned}
use Rattle.sample_store.specs.JudgedSet.{given_of, judged_at, part, set_of, together}
use Rattle.sample_store.specs.Offers.{Offer, Own, Value, Placed, Taken, numbered, next_number, place_at, placed_by, taken_by, under}
use Rattle.sample_store.specs.declared.ring.Numbered.{Numbered}
use Rattle.true_time.proofs.Elements.{none-in, one-in}

-- an own sample that is taken: its stamp lies at its number's multiple of the spacing, or a tick later
pub record IsTakenAt (spacing : ℕ) (offer : Offer) (sample : Numbered) : Type 0 where
  pub at : ℕ
  pub offered : offer ≡ Own at sample.values
  pub since : sample.number * spacing ≤ at
  pub until : at ≤ sample.number * spacing + 1

taken-at : (spacing at : ℕ) (values : Phases) → at % spacing ≤ 1 → IsTakenAt spacing (Own at values) (record { number = at / spacing; values = values })
taken-at spacing at values on_grid = record { at = at; offered = refl; since = div-mul-le_self at spacing; until = omega (arith, on_grid) }

pub taken-by : (spacing : ℕ) (taken : List Numbered) (offer : Offer) (sample : Numbered) → Contains (taken_by spacing taken offer) sample → IsTakenAt spacing offer sample
taken-by spacing taken (Value fresh peer number values) sample has = absurd (none-in sample has)
taken-by spacing taken (Own at values) sample has =
    go (nat_le (at % spacing) 1) (nat_le (next_number taken) (at / spacing)) refl has
  where
    go : (on_grid above : Bool) → nat_le (at % spacing) 1 ≡ on_grid → Contains (under (cond (on_grid && above) (Some (at / spacing)) None) values) sample
        → IsTakenAt spacing (Own at values) sample
    go true true is has = subst (IsTakenAt spacing (Own at values)) (one-in _ sample has) (taken-at spacing at values (leb-true (at % spacing) 1 is))
    go true false is has = absurd (none-in sample has)
    go false above is has = absurd (none-in sample has)

-- a value of a peer that is placed, under the number to which its exchange aligns it
pub record IsPlacedBy (spacing peer : ℕ) (offer : Offer) (value : Numbered) : Type 0 where
  pub fresh : Chosen
  pub number : ℕ
  pub offered : offer ≡ Value fresh peer number value.values
  pub aligned : Aligned spacing number (estimate2 fresh.exchange) ≡ pos value.number

place-is : (spacing limit now : ℕ) (placed : List Numbered) (z : ℤ) (n : ℕ) → place_at spacing limit now placed z ≡ Some n → z ≡ pos n
place-is spacing limit now placed (negsuc k) n is = absurd (cc)
place-is spacing limit now placed (pos k) n is =
    go (nat_lt now (k * spacing + limit) && nat_le (k * spacing) (now + spacing) && is_none (numbered k placed)) is
  where
    go : (free : Bool) → cond free (Some k) None ≡ Some n → pos k ≡ pos n
    go true is = cc
    go false is = absurd (cc)

under-is : (put : Option ℕ) (values : Phases) (value : Numbered) → Contains (under put values) value → (put ≡ Some value.number) × (values ≡ value.values)
under-is None values value has = absurd (none-in value has)
under-is (Some n) values value has = let same = one-in (record { number = n; values = values }) value has in (ap (λ v. Some v.number) same, ap (λ v. v.values) same)

pub placed-by : (spacing limit peer : ℕ) (placed : List Numbered) (offer : Offer) (value : Numbered) → Contains (placed_by spacing limit peer placed offer) value
    → IsPlacedBy spacing peer offer value
placed-by spacing limit peer placed (Own at values) value has = absurd (none-in value has)
placed-by spacing limit peer placed (Value fresh from number values) value has = go (from == peer) refl has
  where
    put : Option ℕ
    put = place_at spacing limit fresh.at placed (Aligned spacing number (estimate2 fresh.exchange))

    go : (theirs : Bool) → (from == peer) ≡ theirs → Contains (cond theirs (under put values) []) value → IsPlacedBy spacing peer (Value fresh from number values) value
    go false is has = absurd (none-in value has)
    go true is has =
        let are = under-is put values value has in
        record {
          fresh = fresh;
          number = number;
          offered = ap (λ p. Value fresh p number values) (eqb-true from peer is) ∙ ap (Value fresh peer number) are.1;
          aligned = place-is spacing limit fresh.at placed (Aligned spacing number (estimate2 fresh.exchange)) value.number are.0;
        }

-- what is found under a number stands there
pub numbered-in : (n : ℕ) (xs : List Numbered) (values : Phases) → numbered n xs ≡ Some values → Contains xs (record { number = n; values = values })
numbered-in n [] values is = absurd (cc)
numbered-in n (x ∷ xs) values is = elim (cases_Bool (x.number == n)) [
  | inl hit ↦
      let found = rw hit at is in
      let same : x.values ≡ values = cc in
      let number : x.number ≡ n = eqb-true x.number n hit in
      (zero, omega arith, numbered-same x n values number same)
  | inr missed ↦ let later = numbered-in n xs values (rw missed at is) in (suc later.0, omega (arith, later.1), later.2)
]
  where
    numbered-same : (x : Numbered) (n : ℕ) (values : Phases) → x.number ≡ n → x.values ≡ values → x ≡ record { number = n; values = values }
    numbered-same x n values number same =
        let renumbered : ◌≡◌ {A = Numbered} x (record { number = n; values = x.values }) = ap (λ k. record { number = k; values = x.values }) number in
        renumbered ∙ ap (λ v. record { number = n; values = v }) same

-- a set that is judged is whole, and younger than the limit
pub record IsWhole (f : Fields) (me : ℕ) (offers : List Offer) (now : ℕ) (set : SampleSet) : Type 0 where
  pub young : now < set.number * f.spacing + f.limit
  pub parts : (station : ℕ) → 1 ≤ station → station ≤ 3 → part f me offers set.number station ≡ Some (slice_index_or set.values (station - 1) no_current)

together-whole : (f : Fields) (me : ℕ) (offers : List Offer) (now n : ℕ) (a b c : Option Phases) (set : SampleSet)
    → part f me offers n 1 ≡ a → part f me offers n 2 ≡ b → part f me offers n 3 ≡ c → together n a b c ≡ Some set
    → now < set.number * f.spacing + f.limit → IsWhole f me offers now set
together-whole f me offers now n (Some a) (Some b) (Some c) set first second third is young =
    let same : record { number = n; values = a ∷ b ∷ c ∷ [] } ≡ set = cc in
    subst (IsWhole f me offers now) same (record { young = subst (λ (s : SampleSet). now < s.number * f.spacing + f.limit) (sym same) young; parts = parts })
  where
    parts : (station : ℕ) → 1 ≤ station → station ≤ 3 → part f me offers n station ≡ Some (slice_index_or (a ∷ b ∷ c ∷ []) (station - 1) no_current)
    parts zero low high = absurd (omega (arith, low))
    parts (suc zero) low high = first
    parts (suc (suc zero)) low high = second
    parts (suc (suc (suc zero))) low high = third
    parts (suc (suc (suc (suc k)))) low high = absurd (omega (arith, high))
together-whole f me offers now n (Some a) (Some b) None set first second third is young = absurd (cc)
together-whole f me offers now n (Some a) None c set first second third is young = absurd (cc)
together-whole f me offers now n None b c set first second third is young = absurd (cc)

given-whole : (f : Fields) (me : ℕ) (offers : List Offer) (now next n : ℕ) (whole : Option SampleSet) (set : SampleSet) → set_of f me offers n ≡ whole
    → Contains (given_of f now next whole) set → IsWhole f me offers now set
given-whole f me offers now next n None set of has = absurd (none-in set has)
given-whole f me offers now next n (Some s) set of has = go (nat_lt now (s.number * f.spacing + f.limit)) (nat_le next s.number) refl has
  where
    go : (young above : Bool) → nat_lt now (s.number * f.spacing + f.limit) ≡ young → Contains (cond (young && above) (s ∷ []) []) set → IsWhole f me offers now set
    go true true is has =
        subst (IsWhole f me offers now) (one-in s set has)
        (together-whole f me offers now n (part f me offers n 1) (part f me offers n 2) (part f me offers n 3) s refl refl refl of (ltb-true now (s.number * f.spacing + f.limit) is))
    go true false is has = absurd (none-in set has)
    go false above is has = absurd (none-in set has)

pub judged-whole : (f : Fields) (me : ℕ) (offers : List Offer) (now next : ℕ) (put : Option ℕ) (set : SampleSet) → Contains (judged_at f me offers now next put) set
    → IsWhole f me offers now set
judged-whole f me offers now next None set has = absurd (none-in set has)
judged-whole f me offers now next (Some n) set has = given-whole f me offers now next n (set_of f me offers n) set refl has

-- its own values are among the samples taken
pub own-part : (f : Fields) (me : ℕ) (offers : List Offer) (n : ℕ) (values : Phases) → me ≤ f.stations → part f me offers n me ≡ Some values
    → Contains (Taken f.spacing offers) (record { number = n; values = values })
own-part f me offers n values there is =
    let on_line : nat_lt f.stations me ≡ false = le-ltb f.stations me there in
    numbered-in n (Taken f.spacing offers) values (rw (on_line, eq-eqb me me refl) at is)

-- and those of a peer among the values placed
pub peers-part : (f : Fields) (me peer : ℕ) (offers : List Offer) (n : ℕ) (values : Phases) → peer ≤ f.stations → peer ≢ me → part f me offers n peer ≡ Some values
    → Contains (Placed f.spacing f.limit peer offers) (record { number = n; values = values })
peers-part f me peer offers n values there differ is =
    let on_line : nat_lt f.stations peer ≡ false = le-ltb f.stations peer there in
    numbered-in n (Placed f.spacing f.limit peer offers) values (rw (on_line, ne_eqb peer me differ) at is)
