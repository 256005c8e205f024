-- Bytes written to a place, and more bytes behind them. Assumes nothing.
use mathlib.Core.Path.{◌≡◌, refl, sym, ap, ◌∙◌}
use mathlib.Core.List.{List, [], ◌++◌, append_assoc}
use Prim.Native.Nat.{ℕ, ◌+◌, ◌≤◌}
use native.Mathlib.Nat.{le_refl}
use native.Mathlib.Omega.{arith}
use lib.ListN.{length, take, drop, length-append}
use lib.Seq.{paste, paste-zero, take-length, take-paste, drop-paste, drop-drop, length-paste}
use Rattle.text.specs.Written.{written, Wrote}

pub written_is : (d : List ℕ) (at : ℕ) (r : List ℕ) → written d at r ≡ take at d ++ r ++ drop (at + length r) d
unfolding written
written_is d at r = ap (λ (l : List ℕ). take at d ++ l ++ drop (at + length r) d) (take-length r)

-- from the start on
pub written_front : (d r : List ℕ) → written d 0 r ≡ r ++ drop (length r) d
written_front d r = let e : 0 + length r ≡ length r = omega arith in written_is d 0 r ∙ ap (λ (n : ℕ). r ++ drop n d) e

module _ (d : List ℕ) (at : ℕ) where
  pub written_length : (r : List ℕ) → at + length r ≤ length d → length (written d at r) ≡ length d
  unfolding written
  written_length r h = length-paste d at r (length r) h (le_refl (length r))

  module _ (r : List ℕ) (h : at + length r ≤ length d) where
    front : take (at + length r) (written d at r) ≡ take at d ++ r
    unfolding written
    front =
        take-paste d at r (length r) (omega arith) (le_refl (length r)) ∙ ap (λ (l : List ℕ). take at d ++ l) (take-length r)

    behind : drop (at + length r) (written d at r) ≡ drop (at + length r) d
    unfolding written
    behind = drop-paste d at r (length r) (omega arith) (le_refl (length r))

    further : (n : ℕ) → drop (at + length r + n) (written d at r) ≡ drop (at + length r + n) d
    further n =
        sym (drop-drop n (at + length r) (written d at r)) ∙ ap (λ (l : List ℕ). drop n l) behind ∙ drop-drop n (at + length r) d

    -- two writes, one behind the other, are one
    pub written_append : (s : List ℕ) → written (written d at r) (at + length r) s ≡ written d at (r ++ s)
    written_append s =
        let e : at + length (r ++ s) ≡ at + length r + length s = omega (arith, length-append r s) in
        written_is (written d at r) (at + length r) s
        ∙ rw (front, further (length s), written_is d at (r ++ s), e) (ap (λ (l : List ℕ). l ++ drop (at + length r + length s) d) (append_assoc (take at d) r s))

  pub wrote : {r e : List ℕ} {m : ℕ} → at + length r ≤ length d → (m ≡ at + length r) × (e ≡ paste d at r (length r)) → Wrote d at r e m
  unfolding written
  wrote {r} h p =
      record { is = p.1; ends = p.0; same = ap length p.1 ∙ length-paste d at r (length r) h (le_refl (length r)) }

  pub wrote_none : Wrote d at [] d at
  unfolding written
  wrote_none = record { is = paste-zero d at []; ends = omega arith; same = refl }

  pub wrote_then : {r s e f : List ℕ} {m n : ℕ} → at + length r ≤ length d → Wrote d at r e m → Wrote e m s f n → Wrote d at (r ++ s) f n
  wrote_then {r} {s} h p q =
      record {
        is = q.is ∙ rw (p.ends, p.is) (written_append r h s);
        ends = omega (arith, q.ends, p.ends, length-append r s);
        same = q.same ∙ p.same;
      }
