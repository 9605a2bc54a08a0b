-- Which lines a hunter stands for.
use Rattle.std.specs.Prelude.{◌≡◌, ℕ, List, ◌++◌, Option}
use Rattle.relay_message.specs.Messages.{Layout, cells, told}

-- however the line goes on, what its places tell is what they tell now, and then what those of the kept bytes will
pub record StandsFor {M F : Type 0} (layout : Layout M F) (kept : List ℕ) (line : List (Option ℕ)) : Type 0 where
  pub next : (more : List (Option ℕ)) → told layout (line ++ more) ≡ told layout line ++ told layout (cells kept ++ more)
