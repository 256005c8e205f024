-- Bytes written to a place.
use Rattle.std.specs.Prelude.{◌≡◌, List, ℕ, ◌+◌, length}
use Rattle.std.proofs.Math.Seq.{paste}

-- the buffer with the bytes r from byte `at` on
unfoldable pub written : List ℕ → ℕ → List ℕ → List ℕ
written buffer at r = paste buffer at r (length r)

-- the bytes r were written from byte `at` on, up to byte `end`
pub record Wrote (before : List ℕ) (at : ℕ) (r after : List ℕ) (end : ℕ) : Type 0 where
  pub is : after ≡ written before at r
  pub ends : end ≡ at + length r
  pub same : length after ≡ length before
