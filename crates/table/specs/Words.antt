-- What a read of a word of the table promises.
use Rattle.std.specs.Prelude.{◌≡◌, ℕ, ◌<◌}

-- r is the word `of`
pub record Reads (of r : ℕ) : Type 0 where
  pub is : r ≡ of
  pub small : r < 4294967296
