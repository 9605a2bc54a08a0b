-- Mixed: the current of a peer at an own instant, from the two messages between whose samples that instant lies. (This project's own.)
use Rattle.std.specs.Prelude.{ℕ, ◌+◌, Bool, true, not, ◌==◌, ◌||◌, if◌then◌else◌, List, [], ◌∷◌, ◌++◌, filter_map, Option, None, is_none, option_map}
use Rattle.std.specs.List.{last_or}
use Rattle.std.specs.Option.{option_and_then, option_map_or}
use Rattle.ld_base.specs.Message.{Contents}
use Rattle.ld_base.specs.declared.fields.Fields.{Fields}
use Rattle.offset_track.specs.InForce.{InForce}
use Rattle.pingpong.specs.Exchange.{Stamps, estimate2, exchange_of}
use Rattle.resample.specs.Between.{own_number, sample_number, weight}
use Rattle.resample.specs.Values.{mixed_phases}
use Rattle.resample.specs.declared.mixed.Mixed.{Mixed}

-- a message of a peer, and the stamp at which it was heard
pub record Heard : Type 0 where
  pub message : Contents
  pub at : ℕ

-- the exchanges that the messages heard complete, oldest first
abbrev pub exchanges : List Heard → List Stamps
exchanges heard = filter_map (λ h. exchange_of h.message h.at) heard

-- the exchange in force at the last message heard, its own counted
abbrev pub in_force_at : Fields → List Heard → Heard → Option Stamps
in_force_at f before h = InForce (λ e. e) f.slow f.age h.at (exchanges (before ++ h ∷ []))

-- whether a message is numbered right behind another, so that no sample lies between theirs
abbrev pub follows : Contents → Contents → Bool
follows earlier m = earlier.number + 1 == m.number

-- the mixed values at the own sample n, between the samples of two messages, by an exchange
abbrev pub mixed_at : ℕ → Contents → Contents → Stamps → ℕ → Mixed
mixed_at spacing earlier m e n = record {
  own = n;
  first = earlier.number;
  weight = weight spacing earlier.number (estimate2 e) n;
  exchange = e;
  values = mixed_phases spacing (weight spacing earlier.number (estimate2 e) n) earlier.phases m.phases;
}

-- the same at the own sample that lies between them, where its number is one that a sample has
abbrev pub mixed_by : ℕ → Contents → Contents → Stamps → Option Mixed
mixed_by spacing earlier m e = option_map (mixed_at spacing earlier m e) (sample_number (own_number spacing earlier.number (estimate2 e)))

-- the mixed values of a message and the last one before it, by the exchange in force, where it has both and follows
abbrev pub mixed_with : ℕ → Option Contents → Contents → Option Stamps → Option Mixed
mixed_with spacing last m chosen =
    option_and_then (λ earlier. if follows earlier m then option_and_then (mixed_by spacing earlier m) chosen else None) last

-- Mixed: of a message and the one before it, by the exchange that was in force when it was heard
abbrev pub MixedOf : Fields → List Heard → Heard → Option Mixed
MixedOf f before h = mixed_with f.spacing (option_map (λ earlier. earlier.message) (last_or None before)) h.message (in_force_at f before h)

-- whether nothing is mixed of a message: none was heard before, or its number isn't the next one, or nothing is in force, or the own
-- number is none that a sample has
abbrev pub has_none : Fields → List Heard → Heard → Bool
has_none f before h =
    option_map_or
    (λ earlier. not (follows earlier.message h.message)
    || option_map_or (λ e. is_none (sample_number (own_number f.spacing earlier.message.number (estimate2 e)))) (in_force_at f before h) true)
    (last_or None before) true
