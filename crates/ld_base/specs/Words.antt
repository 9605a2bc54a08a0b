-- The two header words of a line.
use Rattle.std.specs.Prelude.{ℕ, ◌≤◌, ◌<◌, ◌≢◌}

-- the numbers of word A and of word B: a word is its number times 256, and 15
pub record HeaderWords : Type 0 where
  pub a : ℕ
  pub b : ℕ

-- each begins with a 1, and they differ
pub record AreWords (words : HeaderWords) : Type 0 where
  pub a : (128 ≤ words.a) × (words.a < 256)
  pub b : (128 ≤ words.b) × (words.b < 256)
  pub differ : words.a ≢ words.b
