-- What the code's own reader of decimal numbers answers: a number that is at most m.
use Rattle.std.specs.Prelude.{List, ℕ, leb, Option}
use Rattle.std.proofs.Math.Option as math
use Rattle.text.specs.Field.{when, ◌>>=◌, decimal}
use Rattle.text.specs.Place.{field_at, field_end, as_field}
use Rattle.text.specs.declared.Field.{Field}

abbrev pub up_to : ℕ → math.Option ℕ → math.Option ℕ
up_to m o = o >>= λ n. when (leb n m) n

unfoldable pub decimal_at : ℕ → List ℕ → ℕ → Option (Field ℕ)
decimal_at m s at = as_field (up_to m (decimal (field_at s at))) (field_end s at)
