-- Messages: what hunting finds in a line of payload bytes, over any layout of messages. (This project's own rule.)
use Rattle.std.specs.Prelude.{ℕ, zero, suc, ◌-◌, List, [], ◌∷◌, ◌++◌, length, map, drop, flat_map, Option, Some, None, option_map, Result, Ok, Err}
use Rattle.std.specs.Option.{option_and_then, option_to_list}
use Rattle.std.specs.Result.{result_ok, result_err}
use Rattle.std.specs.List.{filter_map}

-- a layout: how many bytes a message has, and what so many bytes tell: a message, the fault for which they are refused, or
-- nothing, where they don't begin as a message does
pub record Layout (M F : Type 0) : Type 0 where
  pub size : ℕ
  pub read : List ℕ → Option (Result M F)

-- a line is a list of bytes with gaps between them; these are the cells of some bytes
abbrev pub cells : List ℕ → List (Option ℕ)
cells bytes = map (λ byte. Some byte) bytes

-- and these the cells of a piece, which is some bytes or a gap
abbrev pub piece_cells : Option (List ℕ) → List (Option ℕ)
piece_cells (Some bytes) = cells bytes
piece_cells None = None ∷ []

-- the line of some pieces
abbrev pub line_of : List (Option (List ℕ)) → List (Option ℕ)
line_of pieces = flat_map piece_cells pieces

-- the first bytes of a line, that many: None where it is shorter or a gap stands among them
unfoldable pub front : ℕ → List (Option ℕ) → Option (List ℕ)
front zero line = Some []
front (suc count) [] = None
front (suc count) (None ∷ line) = None
front (suc count) (Some byte ∷ line) = option_map (λ bytes. byte ∷ bytes) (front count line)

-- what a place tells, with the line from there on: nothing until its last byte has come
abbrev pub told_at : {M F : Type 0} → Layout M F → List (Option ℕ) → Option (Result M F)
told_at layout line = option_and_then layout.read (front layout.size line)

-- how many places behind a place lie inside its message
abbrev pub covered : {M F : Type 0} → ℕ → Option (Result M F) → ℕ
covered size (Some (Ok message)) = size - 1
covered size (Some (Err fault)) = 0
covered size None = 0

-- what the places of a line tell in turn, but for so many first ones
unfoldable pub told_behind : {M F : Type 0} → Layout M F → List (Option ℕ) → ℕ → List (Result M F)
told_behind layout [] skipped = []
told_behind layout (cell ∷ line) (suc skipped) = told_behind layout line skipped
told_behind layout (cell ∷ line) zero =
    let told = told_at layout (cell ∷ line) in
    option_to_list told ++ told_behind layout line (covered layout.size told)

-- what the places of a line tell in turn: each place is tested, unless it lies inside an earlier message
abbrev pub told : {M F : Type 0} → Layout M F → List (Option ℕ) → List (Result M F)
told layout line = told_behind layout line 0

-- the messages of a line
abbrev pub messages : {M F : Type 0} → Layout M F → List (Option ℕ) → List M
messages layout line = filter_map result_ok (told layout line)

-- and the faults of the places that are refused
abbrev pub refusals : {M F : Type 0} → Layout M F → List (Option ℕ) → List F
refusals layout line = filter_map result_err (told layout line)

-- what more at the end of a line adds to a function of it
abbrev pub added : {A B : Type 0} → (List A → List B) → List A → List A → List B
added of line more = drop (length (of line)) (of (line ++ more))
