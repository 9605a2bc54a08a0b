-- The names of the records behind a scenario's settings. (This project's own.)
use Rattle.std.specs.Prelude.{ℕ, List, [], ◌∷◌, Option, find, bytes_eq, codes}
use Rattle.waveform_reader.specs.declared.kind.Kind.{Kind}
use Rattle.waveform_reader.specs.declared.kind.Kind.TheVariants as kind

-- the name of each kind of record behind the settings
abbrev pub kind_name : Kind → List ℕ
kind_name kind.Clock = codes "clock"
kind_name kind.Rate = codes "rate"
kind_name kind.Hold = codes "hold"
kind_name kind.Wave = codes "wave"
kind_name kind.Delay = codes "delay"
kind_name kind.Lose = codes "lose"
kind_name kind.Flip = codes "flip"
kind_name kind.Repeat = codes "repeat"
kind_name kind.Cut = codes "cut"
kind_name kind.Slip = codes "slip"
kind_name kind.FailSend = codes "failsend"
kind_name kind.FailTake = codes "failtake"

-- the kinds
abbrev pub kinds : List Kind
kinds = kind.Clock ∷ kind.Rate ∷ kind.Hold ∷ kind.Wave ∷ kind.Delay ∷ kind.Lose ∷ kind.Flip ∷ kind.Repeat ∷ kind.Cut ∷ kind.Slip ∷ kind.FailSend ∷ kind.FailTake ∷ []

-- the kind of record of a name
unfoldable pub kind_of : List ℕ → Option Kind
kind_of name = find (λ k. bytes_eq name (kind_name k)) kinds
