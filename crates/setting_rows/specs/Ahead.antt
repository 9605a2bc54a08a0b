-- The rows of a text that are still ahead.
use Rattle.std.specs.Prelude.{◌≡◌, ℕ, ◌+◌, Bool, true, false, List, [], ◌∷◌, length, None, Some, slice_get}
use Rattle.row_reader.specs.Faults.{first_fault}
use Rattle.row_reader.specs.Rows.{Row}
use Rattle.setting_rows.specs.Head.{Head, body_rows, head_of, head_rows, heading_faults, is_heading, no_settings}
use Rattle.setting_rows.specs.declared.setting.Known.{Known}

-- how many rows were taken, and those that are left
pub record Ahead : Type 0 where
  pub taken : ℕ
  pub left : List Row

-- the row that was read ahead, where there was one, and those behind it
abbrev pub left_of : Bool → Row → List Row → List Row
left_of false row rows = []
left_of true row rows = row ∷ rows

-- a row is the next, and stands among the settings
pub record IsNextHeading (left : List Row) (row : Row) : Type 0 where
  pub next : slice_get left 0 ≡ Some row
  pub heading : is_heading row ≡ true

-- the settings in front of some rows were read
pub record HasHead (known : Known) (old new : Ahead) (head : Head) : Type 0 where
  pub whole : head ≡ head_of known old.left
  pub good : first_fault (old.taken + 1) (heading_faults known no_settings (head_rows old.left)) ≡ None
  pub taken : new.taken ≡ old.taken + length (head_rows old.left)
  pub left : new.left ≡ body_rows old.left
