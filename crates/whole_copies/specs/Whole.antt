-- Records that stay as they are. No meaning of document 01 stands here.
use Rattle.std.specs.Prelude.{◌≡◌, List, ℕ}
use Rattle.same_bytes.specs.Same.{Adjoin}

-- the leaves of a plan's n entries stay as they are, and together they are the whole record, on both sides
pub record WholeCopy (s d : ℕ) (plan : List ℕ) (n : ℕ) (ws wd : List ℕ) : Type 0 where
  pub sizes : s ≡ d
  pub all : Adjoin plan ws wd 0 0 0 n s
