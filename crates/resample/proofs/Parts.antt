-- What was mixed of two messages: from which of them, by which exchange, and with which weight.
use Rattle.std.specs.Prelude.{ℤ, pos, negsuc, ◌^◌, nat_lt, Option, None, Some, option_map}
use Rattle.std.specs.List.{last_or}
use Rattle.std.specs.Option.{option_and_then}
use Rattle.std.proofs.Common.{◌≡◌, ℕ, ◌*◌, ◌<◌, ◌≤◌, true, List, inl, inr, refl, ap, sym, subst, ◌∙◌, arith}
use Rattle.std.proofs.lemmas.Bool.{cases_Bool}
use Rattle.ld_base.specs.Message.{Contents}
use Rattle.ld_base.specs.declared.fields.Fields.{Fields}
use Rattle.ld_base.specs.declared.phases.Phases.{Phases}
use Rattle.pingpong.specs.Exchange.{Stamps, estimate2}
use Rattle.resample.specs.Between.{IsBetween, own_number, sample_number, weight}
use Rattle.resample.specs.Mixed.{Heard, MixedOf, mixed_at, mixed_by, mixed_with, in_force_at, follows}
use Rattle.resample.specs.Values.{mixed_phases, LieBetween}
use Rattle.resample.specs.declared.mixed.Mixed.{Mixed}
use Rattle.resample.proofs.OwnNumbers.{IsBetween-own_number, weight-below}
use Rattle.resample.proofs.Weighing.{mixed_value-between, mixed_value-first}

-- the parts of what is mixed of two messages
pub record IsMixed (spacing : ℕ) (earlier m : Contents) (e : Stamps) (n : ℤ) (mixed : Mixed) : Type 0 where
  pub number : n ≡ pos mixed.own
  pub first : mixed.first ≡ earlier.number
  pub weight : mixed.weight ≡ weight spacing earlier.number (estimate2 e) mixed.own
  pub exchange : mixed.exchange ≡ e
  pub values : mixed.values ≡ mixed_phases spacing mixed.weight earlier.phases m.phases

IsMixed-at : (spacing : ℕ) (earlier m : Contents) (e : Stamps) (n : ℕ) → IsMixed spacing earlier m e (pos n) (mixed_at spacing earlier m e n)
IsMixed-at spacing earlier m e n = record { number = refl; first = refl; weight = refl; exchange = refl; values = refl }

IsMixed-some : (spacing : ℕ) (earlier m : Contents) (e : Stamps) (n : ℤ) (mixed : Mixed)
    → option_map (mixed_at spacing earlier m e) (sample_number n) ≡ Some mixed → IsMixed spacing earlier m e n mixed
IsMixed-some spacing earlier m e (negsuc n) mixed is = absurd (cc)
IsMixed-some spacing earlier m e (pos n) mixed is = elim (cases_Bool (nat_lt n (2 ^ 32))) [
  | inl inside ↦
      let told = rw inside at is in
      let same : mixed_at spacing earlier m e n ≡ mixed = cc in
      subst (λ (x : Mixed). IsMixed spacing earlier m e (pos n) x) same (IsMixed-at spacing earlier m e n)
  | inr outside ↦ let none = rw outside at is in absurd (cc)
]

-- the same of a message and the one before it, by the exchange that was in force
pub record IsMixedOf (f : Fields) (before : List Heard) (h : Heard) (mixed : Mixed) : Type 0 where
  pub earlier : Heard
  pub e : Stamps
  pub is_last : last_or None before ≡ Some earlier
  pub follows : follows earlier.message h.message ≡ true
  pub in_force : in_force_at f before h ≡ Some e
  pub parts : IsMixed f.spacing earlier.message h.message e (own_number f.spacing earlier.message.number (estimate2 e)) mixed

by_exchange : (f : Fields) (before : List Heard) (h earlier : Heard) (mixed : Mixed) (chosen : Option Stamps) → in_force_at f before h ≡ chosen
    → last_or None before ≡ Some earlier → follows earlier.message h.message ≡ true
    → option_and_then (mixed_by f.spacing earlier.message h.message) chosen ≡ Some mixed → IsMixedOf f before h mixed
by_exchange f before h earlier mixed None forced last follows is = absurd (cc)
by_exchange f before h earlier mixed (Some e) forced last follows is = record {
  earlier = earlier;
  e = e;
  is_last = last;
  follows = follows;
  in_force = forced;
  parts = IsMixed-some f.spacing earlier.message h.message e (own_number f.spacing earlier.message.number (estimate2 e)) mixed is;
}

by_last : (f : Fields) (before : List Heard) (h : Heard) (mixed : Mixed) (last : Option Heard) → last_or None before ≡ last
    → mixed_with f.spacing (option_map (λ earlier. earlier.message) last) h.message (in_force_at f before h) ≡ Some mixed
    → IsMixedOf f before h mixed
by_last f before h mixed None was is = absurd (cc)
by_last f before h mixed (Some earlier) was is = elim (cases_Bool (follows earlier.message h.message)) [
  | inl follows ↦ by_exchange f before h earlier mixed (in_force_at f before h) refl was follows (rw follows at is)
  | inr not_so ↦ let none = rw not_so at is in absurd (cc)
]

pub IsMixedOf-some : (f : Fields) (before : List Heard) (h : Heard) (mixed : Mixed) → MixedOf f before h ≡ Some mixed → IsMixedOf f before h mixed
IsMixedOf-some f before h mixed is = by_last f before h mixed (last_or None before) refl is

-- so the own number lies between both
between-parts : (spacing : ℕ) (earlier m : Contents) (e : Stamps) (mixed : Mixed) → 0 < spacing
    → IsMixed spacing earlier m e (own_number spacing earlier.number (estimate2 e)) mixed
    → IsBetween spacing mixed.first (estimate2 mixed.exchange) (pos mixed.own)
between-parts spacing earlier m e mixed some parts =
    rw (parts.first, parts.exchange, ← parts.number) (IsBetween-own_number spacing earlier.number (estimate2 e) some)

weight-parts : (spacing : ℕ) (earlier m : Contents) (e : Stamps) (mixed : Mixed) → 0 < spacing
    → IsMixed spacing earlier m e (own_number spacing earlier.number (estimate2 e)) mixed → mixed.weight < 2 * spacing
weight-parts spacing earlier m e mixed some parts =
    rw (parts.weight, ← parts.first, ← parts.exchange)
    (weight-below spacing mixed.first (estimate2 mixed.exchange) mixed.own (between-parts spacing earlier m e mixed some parts))

pub own-between : (f : Fields) (before : List Heard) (h : Heard) (mixed : Mixed) → 0 < f.spacing → MixedOf f before h ≡ Some mixed
    → IsBetween f.spacing mixed.first (estimate2 mixed.exchange) (pos mixed.own)
own-between f before h mixed some is =
    let of = IsMixedOf-some f before h mixed is in
    between-parts f.spacing of.earlier.message h.message of.e mixed some of.parts

weight-inside : (f : Fields) (before : List Heard) (h : Heard) (mixed : Mixed) → 0 < f.spacing → MixedOf f before h ≡ Some mixed
    → mixed.weight < 2 * f.spacing
weight-inside f before h mixed some is =
    let of = IsMixedOf-some f before h mixed is in
    weight-parts f.spacing of.earlier.message h.message of.e mixed some of.parts

phases-between : (spacing w : ℕ) (one other : Phases) → 0 < spacing → w ≤ 2 * spacing → LieBetween one other (mixed_phases spacing w one other)
phases-between spacing w one other some inside = record {
  a = mixed_value-between spacing w one.a other.a some inside;
  b = mixed_value-between spacing w one.b other.b some inside;
  c = mixed_value-between spacing w one.c other.c some inside;
}

phases-first : (spacing : ℕ) (one other : Phases) → 0 < spacing → mixed_phases spacing 0 one other ≡ one
phases-first spacing one other some =
    rw (mixed_value-first spacing one.a other.a some, mixed_value-first spacing one.b other.b some, mixed_value-first spacing one.c other.c some) refl

-- the message before is the one that is named
same-last : (f : Fields) (before : List Heard) (h earlier : Heard) (mixed : Mixed) → last_or None before ≡ Some earlier
    → MixedOf f before h ≡ Some mixed → mixed.values ≡ mixed_phases f.spacing mixed.weight earlier.message.phases h.message.phases
same-last f before h earlier mixed last is =
    let of = IsMixedOf-some f before h mixed is in
    let twice : Some of.earlier ≡ Some earlier = sym of.is_last ∙ last in
    let one : of.earlier ≡ earlier = cc in
    of.parts.values ∙ ap (λ x. mixed_phases f.spacing mixed.weight x.message.phases h.message.phases) one

pub values-between : (f : Fields) (before : List Heard) (h earlier : Heard) (mixed : Mixed) → 0 < f.spacing
    → last_or None before ≡ Some earlier → MixedOf f before h ≡ Some mixed → LieBetween earlier.message.phases h.message.phases mixed.values
values-between f before h earlier mixed some last is =
    let inside = weight-inside f before h mixed some is in
    rw (same-last f before h earlier mixed last is)
    (phases-between f.spacing mixed.weight earlier.message.phases h.message.phases some (omega arith))

pub values-first : (f : Fields) (before : List Heard) (h earlier : Heard) (mixed : Mixed) → 0 < f.spacing
    → last_or None before ≡ Some earlier → MixedOf f before h ≡ Some mixed → mixed.weight ≡ 0 → mixed.values ≡ earlier.message.phases
values-first f before h earlier mixed some last is none =
    same-last f before h earlier mixed last is
    ∙ ap (λ w. mixed_phases f.spacing w earlier.message.phases h.message.phases) none
    ∙ phases-first f.spacing earlier.message.phases h.message.phases some
