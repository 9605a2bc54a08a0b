-- What a receiver is seen as.
use Rattle.std.specs.Prelude.{◌≤◌}
use Rattle.bit_sync.specs.StandsFor.{Kept}
use Rattle.bit_sync.specs.Step.{FitsLock, kept, rules_of}
use Rattle.bit_sync.specs.declared.receiver.Receiver.TheInside.{Inside}

-- what it keeps
abbrev pub kept_of : Inside → Kept
kept_of r = kept (rules_of r.profile) r.lock r.register

-- its channels and its loss count are in range, and so is its lock
pub record IsReceiver (r : Inside) : Type 0 where
  pub channels : (1 ≤ r.profile.channels) × (r.profile.channels ≤ 12)
  pub misses : (1 ≤ r.profile.misses) × (r.profile.misses ≤ 10)
  pub lock : FitsLock r.profile.misses r.lock
