-- The keys of settings: their names, their order, and the values of settings by them. (This project's own.)
use Rattle.std.specs.Prelude.{ℕ, Bool, ℤ, pos, List, [], ◌∷◌, Option, Some, None, find, bytes_eq, codes, if◌then◌else◌}
use Rattle.ld_base.specs.declared.fields.Fields.{Fields}
use Rattle.ld_base.specs.declared.fields.Key.{Key}
use Rattle.ld_base.specs.declared.fields.Key.TheVariants as key
use Rattle.setting_rows.specs.declared.setting.Known.{Known}
use Rattle.setting_rows.specs.declared.setting.Known.TheVariants as known
use Rattle.setting_rows.specs.declared.setting.Setting.{Setting}
use Rattle.setting_rows.specs.declared.setting.Setting.TheVariants as setting

-- the name of a row that is passed over
abbrev pub is_remark : List ℕ → Bool
is_remark name = bytes_eq name (codes "#")

-- the name of a row that sets a setting
abbrev pub is_set : List ℕ → Bool
is_set name = bytes_eq name (codes "set")

-- the name of each key
abbrev pub key_name : Key → List ℕ
key_name key.Stations = codes "stations"
key_name key.Channels = codes "channels"
key_name key.Spacing = codes "spacing"
key_name key.Cycle = codes "cycle"
key_name key.Drift = codes "drift"
key_name key.Slow = codes "slow"
key_name key.Age = codes "age"
key_name key.Limit = codes "limit"
key_name key.Silent = codes "silent"
key_name key.Count = codes "count"
key_name key.Pickup = codes "pickup"
key_name key.Rn = codes "rn"
key_name key.Rd = codes "rd"
key_name key.P = codes "p"
key_name key.Q = codes "q"
key_name key.WordA = codes "worda"
key_name key.WordB = codes "wordb"
key_name key.Misses = codes "misses"

-- the keys, in the order of the table of settings
abbrev pub keys : List Key
keys =
    key.Stations ∷
    key.Channels ∷
    key.Spacing ∷
    key.Cycle ∷
    key.Drift ∷
    key.Slow ∷
    key.Age ∷
    key.Limit ∷
    key.Silent ∷
    key.Count ∷
    key.Pickup ∷
    key.Rn ∷
    key.Rd ∷
    key.P ∷
    key.Q ∷
    key.WordA ∷
    key.WordB ∷
    key.Misses ∷ []

-- the place of a key in the table of settings
abbrev pub key_place : Key → ℕ
key_place key.Stations = 0
key_place key.Channels = 1
key_place key.Spacing = 2
key_place key.Cycle = 3
key_place key.Drift = 4
key_place key.Slow = 5
key_place key.Age = 6
key_place key.Limit = 7
key_place key.Silent = 8
key_place key.Count = 9
key_place key.Pickup = 10
key_place key.Rn = 11
key_place key.Rd = 12
key_place key.P = 13
key_place key.Q = 14
key_place key.WordA = 15
key_place key.WordB = 16
key_place key.Misses = 17

-- the value of a key in settings
abbrev pub value_of : Fields → Key → ℤ
value_of f key.Stations = pos f.stations
value_of f key.Channels = pos f.channels
value_of f key.Spacing = pos f.spacing
value_of f key.Cycle = pos f.cycle
value_of f key.Drift = pos f.drift
value_of f key.Slow = pos f.slow
value_of f key.Age = pos f.age
value_of f key.Limit = pos f.limit
value_of f key.Silent = pos f.silent
value_of f key.Count = pos f.count
value_of f key.Pickup = pos f.pickup
value_of f key.Rn = pos f.rn
value_of f key.Rd = pos f.rd
value_of f key.P = f.p
value_of f key.Q = f.q
value_of f key.WordA = pos f.worda
value_of f key.WordB = pos f.wordb
value_of f key.Misses = pos f.misses

-- the key of a name
unfoldable pub key_of : List ℕ → Option Key
key_of name = find (λ k. bytes_eq name (key_name k)) keys

-- what a name sets that is no key: in a scenario its end
abbrev pub end_of : Known → List ℕ → Option Setting
end_of known.Scenario name = if bytes_eq name (codes "end") then Some setting.End else None
end_of known.Recording name = None

-- the setting of a key, or what else the name sets
abbrev pub or_end : Known → List ℕ → Option Key → Option Setting
or_end known name (Some k) = Some (setting.Line k)
or_end known name None = end_of known name

-- what a name sets in a text
abbrev pub setting_of : Known → List ℕ → Option Setting
setting_of known name = or_end known name (key_of name)
