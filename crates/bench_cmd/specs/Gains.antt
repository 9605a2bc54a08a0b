-- Where the present frame of a reading begins.
use Rattle.std.specs.Prelude.{ℕ, false, List, Option, Some, None}
use Rattle.std.specs.List.{flat_map}
use Rattle.bit_sync.specs.Frames.{Event, Place, gots}
use Rattle.bit_sync.specs.Frames.Place.{hunts, locked}
use Rattle.bench_cmd.specs.FramesText.{payload_of}

-- the bit at which the present frame begins, where there is a lock
abbrev pub begin_of : Place → Option ℕ
begin_of (hunts h) = None
begin_of (locked at odd missed) = Some at

-- a place at which it begins so
abbrev pub place_at : Option ℕ → Place
place_at None = hunts 0
place_at (Some at) = locked at false 0

-- the payload of the frames among some events
abbrev pub payload_among : ℕ → List Event → List (Option ℕ)
payload_among channels events = flat_map (payload_of channels) (gots events)
