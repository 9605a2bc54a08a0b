-- What a track keeps of the exchanges that it was offered, and which lists of them it stands for.
use Rattle.std.specs.Prelude.{◌≡◌, ℕ, List, take, ◌∷◌, if◌then◌else◌}
use Rattle.pingpong.specs.Exchange.{Stamps}
use Rattle.offset_track.specs.InForce.{is_slow, kept}

-- the two settings, and the exchanges that are kept, the newest first
pub record Held : Type 0 where
  pub slow : ℕ
  pub age : ℕ
  pub newest_first : List Stamps

-- an exchange that was chosen, and the stamp for which
pub record Chosen : Type 0 where
  pub exchange : Stamps
  pub at : ℕ

-- a track with one exchange more
abbrev pub with_exchange : Held → Stamps → Held
with_exchange track e = record track { newest_first = if is_slow track.slow e then track.newest_first else take 8 (e ∷ track.newest_first) }

-- a track stands for the exchanges that it was offered, oldest first
pub record StandsFor (track : Held) (offered : List Stamps) : Type 0 where
  pub kept : track.newest_first ≡ kept (λ e. e) track.slow offered
