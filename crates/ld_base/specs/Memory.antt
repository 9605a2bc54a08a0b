-- Sources, sinks and wires over memory, whose calls fail where a list says so.
use Rattle.std.specs.Prelude.{ℕ, Bool, nat_eq, nat_le, if◌then◌else◌, List, [], ◌∷◌, Option, Some, None}
use Rattle.std.specs.List.{list_any}

-- a source: the bytes that are left, the calls that are to fail by their counts from 0, the calls and the faults so far
pub record Supply : Type 0 where
  pub left : List ℕ
  pub failing : List ℕ
  pub calls : ℕ
  pub faults : ℕ

-- a sink: the bytes written, the room for them in all, the calls that are to fail, the calls and the faults so far
pub record Store : Type 0 where
  pub bytes : List ℕ
  pub room : ℕ
  pub failing : List ℕ
  pub calls : ℕ
  pub faults : ℕ

-- a wire: the chunks that it is still to give, each with its tick, the sends and the takes that are to fail, the sends, the
-- takes and the faults so far
pub record Hand : Type 0 where
  pub left : List (ℕ × List ℕ)
  pub failsend : List ℕ
  pub failtake : List ℕ
  pub sends : ℕ
  pub takes : ℕ
  pub faults : ℕ

-- whether the call of that count is to fail
abbrev pub is_listed : List ℕ → ℕ → Bool
is_listed failing call = list_any (λ n. nat_eq n call) failing

-- the bits of the first chunk, where its tick isn't later
abbrev pub given_at : List (ℕ × List ℕ) → ℕ → Option (List ℕ)
given_at [] t = None
given_at (chunk ∷ rest) t = if nat_le chunk.0 t then Some chunk.1 else None

-- the chunks that are left then
abbrev pub left_at : List (ℕ × List ℕ) → ℕ → List (ℕ × List ℕ)
left_at [] t = []
left_at (chunk ∷ rest) t = if nat_le chunk.0 t then rest else chunk ∷ rest
