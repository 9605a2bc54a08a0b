-- The script of a directed line: what its rules do to the frames that are sent, and when they come. (This project's own.)
use Rattle.std.specs.Prelude.{◌≡◌, ℕ, ◌+◌, ◌-◌, min, max, Bool, true, false, ◌&&◌, nat_le, nat_lt, if◌then◌else◌, List, [], ◌∷◌, ◌++◌, length, map, fold, take, drop, Option, Some, None, unwrap_or, Result, Ok, Err, slice_set, slice_index}
use Rattle.std.specs.List.{filter, list_any}
use Rattle.ld_base.specs.declared.rule.Act.{Act}
use Rattle.ld_base.specs.declared.rule.Act.TheVariants as act
use Rattle.ld_base.specs.declared.rule.Rule.{Rule}
use Rattle.ld_base.specs.declared.wire.WireError.{WireError}
use Rattle.ld_base.specs.declared.wire.WireError.TheVariants as wire

-- bits on their way, and the tick at which they are due
pub record Due : Type 0 where
  pub due : ℕ
  pub bits : List ℕ

-- a line's rules, in their order, and its queue, by due tick and then by the order of queueing
pub record Script : Type 0 where
  pub rules : List Rule
  pub queue : List Due

-- a rule other than a delay covers the ticks from its first to its last
abbrev pub covers : ℕ → Rule → Bool
covers t rule = nat_le rule.first t && nat_le t rule.last

-- what the rules that cover a tick do, in their order
abbrev pub acts_at : List Rule → ℕ → List Act
acts_at rules t = map (λ rule. rule.act) (filter (covers t) rules)

abbrev pub is_send_failure : Act → Bool
is_send_failure act.FailSend = true
is_send_failure other = false

abbrev pub is_take_failure : Act → Bool
is_take_failure act.FailTake = true
is_take_failure other = false

abbrev pub is_loss : Act → Bool
is_loss act.Lose = true
is_loss other = false

-- a `send` at a tick fails
abbrev pub send_fails : List Rule → ℕ → Bool
send_fails rules t = list_any is_send_failure (acts_at rules t)

-- a `take` at a tick fails
abbrev pub take_fails : List Rule → ℕ → Bool
take_fails rules t = list_any is_take_failure (acts_at rules t)

-- the ticks of an act that is a delay, or else those of the delay before
abbrev pub delay_of : ℕ → Act → ℕ
delay_of before (act.Delay ticks) = ticks
delay_of before other = before

-- the delay after one rule more: a delay counts from its first tick on
abbrev pub delay_after : ℕ → ℕ → Rule → ℕ
delay_after t before rule = if nat_le rule.first t then delay_of before rule.act else before

-- the delay at a tick: that of the last delay which counts by then, or 1000
abbrev pub delay_at : List Rule → ℕ → ℕ
delay_at rules t = fold (delay_after t) 1000 rules

-- bits after one act: a flip inverts its bit
abbrev pub flipped : List ℕ → Act → List ℕ
flipped bits (act.Flip at) = slice_set bits at (1 - slice_index bits at)
flipped bits other = bits

-- how many bits the first slip takes away
abbrev pub slip_of : List Act → ℕ
slip_of [] = 0
slip_of (act.Slip bits ∷ acts) = bits
slip_of (other ∷ acts) = slip_of acts

-- how many bits the first cut leaves in front
abbrev pub cut_of : List Act → Option ℕ
cut_of [] = None
cut_of (act.Cut bits ∷ acts) = Some bits
cut_of (other ∷ acts) = cut_of acts

-- the bits of a frame after all flips and the first slip
abbrev pub damaged : List Act → List ℕ → List ℕ
damaged acts bits = drop (slip_of acts) (fold flipped bits acts)

-- the chunks of some bits: one, or two where they are cut short of their end, the rest a tick later
abbrev pub cut_at : Option ℕ → ℕ → List ℕ → List Due
cut_at None due bits = record { due = due; bits = bits } ∷ []
cut_at (Some count) due bits =
    if nat_lt count (length bits) then record { due = due; bits = take count bits } ∷ record { due = due + 1; bits = drop count bits } ∷ []
    else record { due = due; bits = bits } ∷ []

-- the chunks that repeats add, each so many ticks after the first
abbrev pub repeats : List Act → ℕ → List ℕ → List Due
repeats [] due bits = []
repeats (act.Repeat extra ∷ acts) due bits = record { due = due + extra; bits = bits } ∷ repeats acts due bits
repeats (other ∷ acts) due bits = repeats acts due bits

-- the chunks of a frame under these acts, the first of them due at that tick
abbrev pub chunks_of : List Act → ℕ → List ℕ → List Due
chunks_of acts due bits =
    if list_any is_loss acts then [] else cut_at (cut_of acts) due (damaged acts bits) ++ repeats acts due (damaged acts bits)

-- a queue with one chunk more, which stands behind all that aren't due later
abbrev pub queued : List Due → Due → List Due
queued [] chunk = chunk ∷ []
queued (first ∷ rest) chunk = if nat_lt chunk.due first.due then chunk ∷ first ∷ rest else first ∷ queued rest chunk

-- the script after a frame was sent at a tick
abbrev pub after_send : Script → ℕ → List ℕ → Script
after_send script t frame =
    record { rules = script.rules; queue = fold queued script.queue (chunks_of (acts_at script.rules t) (t + delay_at script.rules t) frame) }

-- the bits of the first chunk, where it is due
abbrev pub first_due : List Due → ℕ → Option (List ℕ)
first_due [] t = None
first_due (first ∷ rest) t = if nat_le first.due t then Some first.bits else None

-- the queue without its first chunk, where that is due
abbrev pub after_due : List Due → ℕ → List Due
after_due [] t = []
after_due (first ∷ rest) t = if nat_le first.due t then rest else first ∷ rest

-- the script after a `take` at a tick that didn't fail
abbrev pub after_take : Script → ℕ → Script
after_take script t = record { rules = script.rules; queue = after_due script.queue t }

-- the lesser of two ticks that may be missing
abbrev pub earlier : Option ℕ → Option ℕ → Option ℕ
earlier None other = other
earlier (Some tick) None = Some tick
earlier (Some tick) (Some other) = Some (min tick other)

-- the least tick from t on at which a rule makes a `take` fail
abbrev pub failing_from : ℕ → Rule → Option ℕ
failing_from t rule = if is_take_failure rule.act && nat_le (max t rule.first) rule.last then Some (max t rule.first) else None

-- the least tick from t on at which a `take` fails
abbrev pub next_failing : List Rule → ℕ → Option ℕ
next_failing rules t = fold (λ least rule. earlier least (failing_from t rule)) None rules

-- the least tick from t on at which a chunk is due; one that is overdue counts as due at t
abbrev pub next_due : List Due → ℕ → Option ℕ
next_due [] t = None
next_due (first ∷ rest) t = Some (max t first.due)

-- the next tick: the least from t on at which a `take` fails or a chunk is due, or else the greater of 20000000 and t
abbrev pub next_tick : Script → ℕ → ℕ
next_tick script t = unwrap_or (earlier (next_failing script.rules t) (next_due script.queue t)) (max 20000000 t)

-- what a `send` of a frame does on a script, for each of its answers
abbrev pub SendsBy : {T : Type 0} → Script → Option Script → ℕ → List ℕ → Result T WireError → Type 0
SendsBy old new t frame (Ok _) = (send_fails old.rules t ≡ false) × (new ≡ Some (after_send old t frame))
SendsBy old new t frame (Err wire.Failed) = (send_fails old.rules t ≡ true) × (new ≡ Some old)
SendsBy old new t frame (Err wire.NoMemory) = (send_fails old.rules t ≡ false) × (new ≡ Some old)

-- what a `take` does on a script, for each of its answers: a chunk is told by its bits
abbrev pub TakesBy : {E : Type 0} → Script → Option Script → ℕ → Result (Option (List ℕ)) E → Type 0
TakesBy old new t (Ok chunk) = (take_fails old.rules t ≡ false) × (chunk ≡ first_due old.queue t) × (new ≡ Some (after_take old t))
TakesBy old new t (Err _) = (take_fails old.rules t ≡ true) × (new ≡ Some old)

-- what `quiet_until` of a wire that tells its script answers at a tick
abbrev pub QuietBy : Script → ℕ → ℕ → Type 0
QuietBy script t answer = answer ≡ next_tick script t
