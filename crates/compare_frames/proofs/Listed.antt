-- A list of two logs whose length is known. Assumes nothing.
use mathlib.Core.Path.{◌≡◌, refl, sym, ap, subst, ◌∙◌}
use mathlib.Core.List.{List, [], ◌∷◌, ◌++◌, append-nil}
use Prim.Native.Nat.{ℕ, ◌+◌, ◌≤◌, ◌<◌}
use native.Mathlib.Omega.{arith}
use borrow.Author.Tests.{le-leb, lt-leb}
use lib.ListN.{length, length-append}
use Rattle.answer.specs.declared.Answer.TheVariants.{Done, Room}
use Rattle.datatype.specs.Datatype.{Datatype}
use Rattle.text.specs.Written.{Wrote}
use Rattle.text.proofs.Written.{written_front}
use Rattle.differences.specs.Differences.{Difference, differences, lines, header, shown}
use Rattle.compare_frames.specs.Listed.{text_with, list_checked, Leaves}

no_more : (l : List ℕ) → length l ≡ 0 → l ≡ []
no_more [] e = refl
no_more (x ∷ l) e = absurd (omega (arith, e))

-- a list as long as the header is the header
header_alone : (ds : List Difference) → length (shown ds) ≡ 23 → shown ds ≡ header
unfolding shown
header_alone ds e =
    let none : length (lines ds) ≡ 0 = omega (arith, e, length-append header (lines ds)) in
    ap (λ (l : List ℕ). header ++ l) (no_more (lines ds) none) ∙ append-nil header

module _ (n : ℕ) (first second list : List ℕ) (S D : Datatype) {len : ℕ} (is : len ≡ length (text_with n first second S D)) where
  pub no_room : length list < len → Leaves n first second list (list_checked n first second (length list) S D) Room list
  no_room h = rw (lt-leb (length (text_with n first second S D)) (length list) (omega (arith, is))) (record { answers = refl; lists = refl })

  module _ (room : len ≤ length list) where
    pub list_written : {after : List ℕ} {r : ℕ} → Wrote list 0 (text_with n first second S D) after r
        → Leaves n first second list (list_checked n first second (length list) S D) (Done r) after
    list_written w =
        rw (le-leb (length (text_with n first second S D)) (length list) (omega (arith, is)))
        (record { answers = ap Done (omega (arith, w.ends)); lists = w.is ∙ written_front list (text_with n first second S D) })

    pub header_written : len ≡ 23 → {after : List ℕ} {r : ℕ} → Wrote list 0 header after r
        → Leaves n first second list (list_checked n first second (length list) S D) (Done r) after
    header_written e {after} {r} w =
        list_written (subst (λ (l : List ℕ). Wrote list 0 l after r) (sym (header_alone (differences S D n first second) (sym is ∙ e))) w)
