-- A line over which frames come as they are sent.
use Rattle.std.specs.Prelude.{◌≡◌, ℕ, Bool, not, List, [], ◌∷◌}
use Rattle.std.specs.List.{flat_map}
use Rattle.ld_base.specs.Words.{HeaderWords}
use Rattle.c3794_frame.specs.Frame.{IsFrame}
use Rattle.c3794_frame.specs.FrameOf.{Layout, frame_bits}

-- frames with that count of channels, whose header words alternate from this one
abbrev pub AreSent : ℕ → Bool → List Layout → Type 0
AreSent channels odd [] = Unit {0}
AreSent channels odd (f ∷ sent) = IsFrame f × (f.channels ≡ channels) × (f.odd ≡ odd) × AreSent channels (not odd) sent

-- the bits of frames, one after the other
abbrev pub sent_bits : HeaderWords → List Layout → List ℕ
sent_bits words sent = flat_map (frame_bits words) sent
