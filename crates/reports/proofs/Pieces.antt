-- Records that stand in two lists, one behind the other. Assumes nothing.
use mathlib.Core.Path.{◌≡◌}
use mathlib.Core.List.{List, ◌++◌, append_assoc, append-nil}
use Prim.Native.Nat.{ℕ, zero, suc, ◌+◌, ◌*◌, ◌≤◌, ◌<◌}
use native.Mathlib.Nat.{le_refl, add-zero, add-suc, add-mul}
use native.Mathlib.Omega.{arith}
use lib.ListN.{length, take, length-append}
use lib.Seq.{length-take-le, take-append-le, take-take, drop_at, drop-drop}
use Rattle.records.specs.Records.{record_at, joined}
use Rattle.records.proofs.ManyRecords.{same_record}

-- the first n records of a buffer
module _ (w n : ℕ) (l : List ℕ) (room : n * w ≤ length l) where
  pub in_front : (i : ℕ) → i < n → record_at w i (take (n * w) l) ≡ record_at w i l
  in_front i h = same_record w n i (take (n * w) l) l (omega (arith, length-take-le (n * w) l room)) room (take-take (n * w) (n * w) l (le_refl (n * w))) h

  pub front_length : length (take (n * w) l) ≡ n * w
  front_length = length-take-le (n * w) l room

-- a records in p, and more of them behind in q
module _ (w a : ℕ) (p q : List ℕ) (sized : length p ≡ a * w) where
  pub in_first_lem : (i : ℕ) → i < a → record_at w i (p ++ q) ≡ record_at w i p
  in_first_lem i h = same_record w a i (p ++ q) p (omega (arith, length-append p q)) (omega arith) (take-append-le (a * w) p q (omega arith)) h

  pub in_second_lem : (i : ℕ) → record_at w (a + i) (p ++ q) ≡ record_at w i q
  in_second_lem i = rw (add-mul, ← drop-drop (i * w) (a * w) (p ++ q), drop_at p q (a * w) sized)

pub joined_cut : (f : ℕ → List ℕ) (a b : ℕ) → joined f (a + b) ≡ joined f a ++ joined (λ i. f (a + i)) b
unfolding joined
joined_cut f a zero = rw (add-zero, append-nil)
joined_cut f a (suc b) = rw (add-suc, joined_cut f a b, append_assoc)
