-- How long an exchange takes, and how old it grows, by two clocks.
use Rattle.std.specs.Prelude.{◌-◌, ◌/◌, int_lt, ℤ, pos, ◌≤ℤ◌, ◌-ℤ◌, nat_le}
use Rattle.std.proofs.Common.{◌≡◌, ℕ, ◌+◌, ◌≤◌, true, false, arith}
use Rattle.std.proofs.lemmas.Bool.{and_from, le-leb}
use Rattle.std.proofs.lemmas.Int.{ints}
use Rattle.offset_track.specs.InForce.{is_candidate, is_slow}
use Rattle.pingpong.specs.Exchange.{Stamps, round_trip}
use Rattle.calm_channel.proofs.Spacing.{IsPaced, stamps-rise}

not_above : (a b : ℤ) → b ≤ℤ a → int_lt a b ≡ false
not_above a b le = grind (arith, ints)

short : (slow a1 b2 b3 a4 : ℕ) → a4 + b2 ≤ slow + a1 + b3 → ((pos a4 -ℤ pos a1) -ℤ (pos b3 -ℤ pos b2)) ≤ℤ pos slow
short slow a1 b2 b3 a4 less = omega (arith, ints, less)

module _ (own other : ℕ → ℕ) (own_paced : IsPaced own) (other_paced : IsPaced other)
    (sent came turned back : ℕ) (there : sent ≤ came) (held : came ≤ turned) (home : turned ≤ back) where
  abbrev pub exchange : Stamps
  exchange = record { a1 = own sent / 1000000; b2 = other came / 1000000; b3 = other turned / 1000000; a4 = own back / 1000000 }

  -- an exchange whose messages were on their way for so long, and between them not longer than a message is waited for
  pub not_slow : (slow : ℕ) → turned - came ≤ 10200 → (came - sent) + (back - turned) ≤ 220000 → (came - sent) + (back - turned) + 55 ≤ slow
      → is_slow slow exchange ≡ false
  not_slow slow short_hold few enough =
      let out = own_paced.most sent back (omega (arith, there, held, home)) in
      let hold = other_paced.least came turned held in
      not_above (pos slow) (round_trip exchange)
      (short slow (own sent / 1000000) (other came / 1000000) (other turned / 1000000) (own back / 1000000)
      (omega (arith, out, hold, short_hold, few, enough, there, held, home)))

  -- and it is a candidate for as long as its age allows
  pub is_young : (age now : ℕ) → sent ≤ now → now - sent ≤ 250000 → (now - sent) + 51 ≤ age → is_candidate age (own now / 1000000) exchange ≡ true
  is_young age now before few enough =
      let gained = own_paced.most sent now before in
      let later : own sent / 1000000 ≤ own now / 1000000 = stamps-rise own own_paced sent now before in
      and_from (nat_le (own sent / 1000000) (own now / 1000000)) (nat_le (own now / 1000000) (own sent / 1000000 + age))
      (le-leb (own sent / 1000000) (own now / 1000000) later)
      (le-leb (own now / 1000000) (own sent / 1000000 + age) (omega (arith, gained, few, enough, before)))
