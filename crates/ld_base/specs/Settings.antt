-- Which settings are accepted, and the first fault of those that are not.
use Rattle.std.specs.Prelude.{◌≡◌, ℕ, ◌*◌, ◌≤◌, ◌≤ℤ◌, Bool, true, ◌&&◌, ◌||◌, ◌==◌, not, nat_lt, nat_le, int_le, if◌then◌else◌, pos, negsuc, unsigned_abs, List, [], ◌∷◌, Option, Some, None, option_map, find}
use Rattle.std.specs.Int.{div_ceil}
use Rattle.std.specs.Option.{option_or}
use Rattle.ld_base.specs.declared.fields.Fields.{Fields}
use Rattle.ld_base.specs.declared.fields.Key.{Key}
use Rattle.ld_base.specs.declared.fields.Key.TheVariants as key
use Rattle.ld_base.specs.declared.settings.BadSetting.{BadSetting}
use Rattle.ld_base.specs.declared.settings.BadSetting.TheVariants.{Range, ChannelTooSlow, LimitTooLong, SameWords}

-- the least and the greatest value of each key, of `p` without its sign
abbrev pub range_of : Key → ℕ × ℕ
range_of key.Stations = (2, 3)
range_of key.Channels = (1, 12)
range_of key.Spacing = (500, 10000)
range_of key.Cycle = (4, 20)
range_of key.Drift = (0, 200)
range_of key.Slow = (1, 200000)
range_of key.Age = (1000, 10000000)
range_of key.Limit = (1, 480000)
range_of key.Silent = (1, 1000000)
range_of key.Count = (1, 32)
range_of key.Pickup = (1, 32767)
range_of key.Rn = (1, 10000)
range_of key.Rd = (1, 10000)
range_of key.P = (0, 10000)
range_of key.Q = (1, 10000)
range_of key.WordA = (128, 255)
range_of key.WordB = (128, 255)
range_of key.Misses = (1, 10)

-- a number in a range
abbrev pub IsWithin : ℕ × ℕ → ℕ → Type 0
IsWithin range n = (range.0 ≤ n) × (n ≤ range.1)

-- whether a number lies in a range
abbrev pub is_within : ℕ × ℕ → ℕ → Bool
is_within range n = nat_le range.0 n && nat_le n range.1

-- a count of samples that a cycle may have
abbrev pub is_cycle : ℕ → Bool
is_cycle c = (c == 4) || (c == 8) || (c == 12) || (c == 16) || (c == 20)

-- the table of settings: each key, and whether its field is one that it may have
abbrev pub ranges : Fields → List (Key × Bool)
ranges f =
    (key.Stations, is_within (range_of key.Stations) f.stations) ∷
    (key.Channels, is_within (range_of key.Channels) f.channels) ∷
    (key.Spacing, is_within (range_of key.Spacing) f.spacing) ∷
    (key.Cycle, is_cycle f.cycle) ∷
    (key.Drift, is_within (range_of key.Drift) f.drift) ∷
    (key.Slow, is_within (range_of key.Slow) f.slow) ∷
    (key.Age, is_within (range_of key.Age) f.age) ∷
    (key.Limit, is_within (range_of key.Limit) f.limit) ∷
    (key.Silent, is_within (range_of key.Silent) f.silent) ∷
    (key.Count, is_within (range_of key.Count) f.count) ∷
    (key.Pickup, is_within (range_of key.Pickup) f.pickup) ∷
    (key.Rn, is_within (range_of key.Rn) f.rn) ∷
    (key.Rd, is_within (range_of key.Rd) f.rd && nat_le f.rd f.rn) ∷
    (key.P, is_within (range_of key.P) (unsigned_abs f.p)) ∷
    (key.Q, is_within (range_of key.Q) (unsigned_abs f.q) && int_le (pos 0) f.q) ∷
    (key.WordA, is_within (range_of key.WordA) f.worda) ∷
    (key.WordB, is_within (range_of key.WordB) f.wordb) ∷
    (key.Misses, is_within (range_of key.Misses) f.misses) ∷ []

-- the first key of the table whose field lies outside its range
unfoldable pub key_out_of_range : Fields → Option Key
key_out_of_range f = option_map (λ r. r.0) (find (λ r. not r.1) (ranges f))

-- the ticks that the 36 bytes of a message take on that many channels, one byte each in a slot of 125 ticks
abbrev pub message_ticks : ℕ → ℕ
message_ticks channels = div_ceil 36 channels * 125

-- the longest age limit of samples: 48 spacings
abbrev pub longest_limit : ℕ → ℕ
longest_limit spacing = 48 * spacing

-- what stands against settings whose fields lie in their ranges
abbrev pub misfit : Fields → Option BadSetting
misfit f =
    if nat_lt f.spacing (message_ticks f.channels) then Some (ChannelTooSlow (message_ticks f.channels))
    else if nat_lt (longest_limit f.spacing) f.limit then Some (LimitTooLong (longest_limit f.spacing))
    else if f.worda == f.wordb then Some SameWords
    else None

-- the first fault of settings: a field outside its range, or else a misfit
unfoldable pub setting_fault : Fields → Option BadSetting
setting_fault f = option_or (option_map (λ k. Range k) (key_out_of_range f)) (misfit f)

-- the ranges of accepted settings, one by one
pub record AreInRange (f : Fields) : Type 0 where
  pub stations : IsWithin (range_of key.Stations) f.stations
  pub channels : IsWithin (range_of key.Channels) f.channels
  pub spacing : IsWithin (range_of key.Spacing) f.spacing
  pub cycle : is_cycle f.cycle ≡ true
  pub drift : IsWithin (range_of key.Drift) f.drift
  pub slow : IsWithin (range_of key.Slow) f.slow
  pub age : IsWithin (range_of key.Age) f.age
  pub limit : IsWithin (range_of key.Limit) f.limit
  pub silent : IsWithin (range_of key.Silent) f.silent
  pub count : IsWithin (range_of key.Count) f.count
  pub pickup : IsWithin (range_of key.Pickup) f.pickup
  pub rn : IsWithin (range_of key.Rn) f.rn
  pub rd : IsWithin (1, f.rn) f.rd
  pub p : IsWithin (range_of key.P) (unsigned_abs f.p)
  pub q : IsWithin (range_of key.Q) (unsigned_abs f.q) × (pos 0 ≤ℤ f.q)
  pub worda : IsWithin (range_of key.WordA) f.worda
  pub wordb : IsWithin (range_of key.WordB) f.wordb
  pub misses : IsWithin (range_of key.Misses) f.misses

-- the default settings of a line with that many stations and channels
abbrev pub usual : ℕ → ℕ → Fields
usual stations channels = record {
  stations = stations;
  channels = channels;
  spacing = 1000;
  cycle = 20;
  drift = 50;
  slow = 60000;
  age = 1000000;
  limit = 20000;
  silent = 20000;
  count = 4;
  pickup = 500;
  rn = 6;
  rd = 1;
  p = negsuc 1304;
  q = pos 9914;
  worda = 155;
  wordb = 223;
  misses = 3;
}
