-- What one more message adds to what was heard, and when nothing is mixed of it.
use Rattle.std.specs.Prelude.{filter_map, not, ◌||◌, Option, Some, None, is_none, option_map}
use Rattle.std.specs.List.{last_or}
use Rattle.std.specs.Option.{option_and_then, option_map_or, option_to_list}
use Rattle.std.proofs.Common.{◌≡◌, ℕ, List, [], ◌∷◌, ◌++◌, true, inl, inr, refl, ap, ◌∙◌}
use Rattle.std.proofs.lemmas.Bool.{cases_Bool}
use Rattle.std.proofs.lemmas.List.Elements.{filter_map-append}
use Rattle.ld_base.specs.Message.{Contents}
use Rattle.ld_base.specs.declared.fields.Fields.{Fields}
use Rattle.offset_track.specs.Track.{Held}
use Rattle.offset_track.specs.Track as tracks
use Rattle.pingpong.specs.Exchange.{Stamps, estimate2, exchange_of}
use Rattle.resample.specs.Between.{own_number, sample_number}
use Rattle.resample.specs.Mixed.{Heard, MixedOf, exchanges, follows, has_none, in_force_at, mixed_at, mixed_by, mixed_with}

one : {A B : Type 0} (f : A → Option B) (x : A) (o : Option B) → f x ≡ o → filter_map f (x ∷ []) ≡ option_to_list o
one f x None is = rw is refl
one f x (Some y) is = rw is refl

pub exchanges-more : (heard : List Heard) (h : Heard) → exchanges (heard ++ h ∷ []) ≡ exchanges heard ++ option_to_list (exchange_of h.message h.at)
exchanges-more heard h =
    filter_map-append (λ h. exchange_of h.message h.at) heard (h ∷ [])
    ∙ ap (λ added. exchanges heard ++ added) (one (λ h. exchange_of h.message h.at) h (exchange_of h.message h.at) refl)

pub last_or-more : {A : Type 0} (o : Option A) (xs : List A) (x : A) → last_or o (xs ++ x ∷ []) ≡ Some x
last_or-more o [] x = refl
last_or-more o (y ∷ xs) x = last_or-more (Some y) xs x

-- nothing is mixed where the own number is none that a sample has
is_none-map : {A B : Type 0} (f : A → B) (o : Option A) → is_none (option_map f o) ≡ is_none o
is_none-map f None = refl
is_none-map f (Some x) = refl

none-by : (spacing : ℕ) (earlier m : Contents) (chosen : Option Stamps) → is_none (option_and_then (mixed_by spacing earlier m) chosen)
    ≡ option_map_or (λ e. is_none (sample_number (own_number spacing earlier.number (estimate2 e)))) chosen true
none-by spacing earlier m None = refl
none-by spacing earlier m (Some e) = is_none-map (mixed_at spacing earlier m e) (sample_number (own_number spacing earlier.number (estimate2 e)))

none-with : (f : Fields) (last : Option Heard) (m : Contents) (chosen : Option Stamps)
    → is_none (mixed_with f.spacing (option_map (λ earlier. earlier.message) last) m chosen)
    ≡ option_map_or
    (λ earlier. not (follows earlier.message m)
    || option_map_or (λ e. is_none (sample_number (own_number f.spacing earlier.message.number (estimate2 e)))) chosen true)
    last true
none-with f None m chosen = refl
none-with f (Some earlier) m chosen = elim (cases_Bool (follows earlier.message m)) [
  | inl follows ↦ rw follows (none-by f.spacing earlier.message m chosen)
  | inr not_so ↦ rw not_so refl
]

pub MixedOf-none : (f : Fields) (before : List Heard) (h : Heard) → is_none (MixedOf f before h) ≡ has_none f before h
MixedOf-none f before h = none-with f (last_or None before) h.message (in_force_at f before h)

-- the track stands for the exchanges with that of one more message
pub kept-more : (old new : Held) (heard : List Heard) (h : Heard) (exchange : Option Stamps) → exchange ≡ exchange_of h.message h.at
    → ((offered : List Stamps) → tracks.StandsFor old offered → tracks.StandsFor new (offered ++ option_to_list exchange))
    → tracks.StandsFor old (exchanges heard) → tracks.StandsFor new (exchanges (heard ++ h ∷ []))
kept-more old new heard h exchange is more stands = rw (exchanges-more heard h, ← is) (more (exchanges heard) stands)
