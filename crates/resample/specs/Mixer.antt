-- What a mixer keeps of the messages that it heard, and which lists of them it stands for.
use Rattle.std.specs.Prelude.{◌≡◌, List, Option, None, option_map}
use Rattle.std.specs.List.{last_or}
use Rattle.ld_base.specs.Message.{Contents}
use Rattle.ld_base.specs.declared.fields.Fields.{Fields}
use Rattle.offset_track.specs.Track.{Held}
use Rattle.offset_track.specs.Track as track
use Rattle.resample.specs.Mixed.{Heard, exchanges}

-- the settings, the exchanges with the peer, and its last message
pub record Kept : Type 0 where
  pub fields : Fields
  pub track : Held
  pub last : Option Contents

-- a mixer stands for the messages that it heard, oldest first
pub record StandsFor (mixer : Kept) (heard : List Heard) : Type 0 where
  pub track : track.StandsFor mixer.track (exchanges heard)
  pub last : mixer.last ≡ option_map (λ h. h.message) (last_or None heard)
