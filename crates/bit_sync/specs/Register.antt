-- What a register holds.
use Rattle.std.specs.Prelude.{ℕ, ◌+◌, ◌*◌, ◌^◌}
use Rattle.bit_sync.specs.declared.register.Register.TheInside.{Inside}

-- its 272 bits as a number
abbrev pub register : Inside → ℕ
register r = r.oldest * 2 ^ 256 + r.middle * 2 ^ 128 + r.newest
