-- Blocks one after the other, where the results lie behind the sources of all of them, are one block. Assumes nothing.
use mathlib.Core.Path.{◌≡◌, refl, sym, ap, ap₂, ◌∙◌}
use mathlib.Core.Logic.{⊎_elim}
use mathlib.Core.List.{List, [], ◌++◌, append_assoc}
use Prim.Native.Nat.{ℕ, ◌+◌, ◌*◌, ◌-◌, ◌≤◌, ◌<◌}
use native.Mathlib.Nat.{le_of_eq, le_refl, eq-or-lt_of_le, add-mul, zero-mul}
use native.Mathlib.Omega.{arith}
use lib.ListN.{length, take, drop, length-append, length-drop, take-append-drop}
use lib.Seq.{take-add, take_at, drop_at, drop-drop, length-take-le}
use Rattle.easy.proofs.Lent.{tail_lent, lent_whole}
use Rattle.plans.specs.PlanWords.{Ready, entries_of}
use Rattle.loops.specs.Steps.{put}
use Rattle.loops.proofs.Lists.{part_agree, put_length, put_take, put_drop, put_here}
use Rattle.blocks.specs.Blocks.{each_of, raised_over}
use Rattle.blocks.proofs.Columns.{columns_length}
use Rattle.block_parts.proofs.Chunks.{chunk_start, chunk_turn}
use Rattle.staged_block.proofs.Staged.{front}

-- two parts that adjoin are one
put_next : (a x y : ℕ) (q r l : List ℕ) → a + x + y ≤ length l → length q ≡ x → put (a + x) y r (put a x q l) ≡ put a (x + y) (q ++ r) l
put_next a x y q r l fits lq =
    let low : a + x ≤ length l = omega arith in
    let sum : a + x + y ≡ a + (x + y) = omega arith in
    let before : take (a + x) (put a x q l) ≡ take a l ++ q =
    take-add a x (put a x q l) ∙ ap₂ (λ (u v : List ℕ). u ++ v) (put_take a x q l low lq a (le_refl a)) (put_here a x q l low lq) in
    let behind : drop (a + x + y) (put a x q l) ≡ drop (a + (x + y)) l = put_drop a x q l low lq (a + x + y) (omega arith) ∙ ap (λ (k : ℕ). drop k l) sum in
    ap₂ (λ (u v : List ℕ). u ++ (r ++ v)) before behind
    ∙ append_assoc (take a l) q (r ++ drop (a + (x + y)) l)
    ∙ ap (λ (u : List ℕ). take a l ++ u) (sym (append_assoc q r (drop (a + (x + y)) l)))

module _ {s d : ℕ} {plan : List ℕ} {n : ℕ} {ws wd words : List ℕ} (p : Ready s d plan n ws wd words) where
  -- what the first j records of the source a become over those of b
  abbrev of : List ℕ → List ℕ → ℕ → List ℕ
  of a b j = each_of (entries_of p) s d (take (j * s) a) j (take (j * d) b)

  module _ (a b : List ℕ) (j k : ℕ) (reads : j * s + k * s ≤ length a) (writes : j * d + k * d ≤ length b) where
    of_length : length (each_of (entries_of p) s d (take (j * s) a) j (take (j * d) b)) ≡ j * d
    of_length =
        let lb : length (take (j * d) b) ≡ j * d = length-take-le (j * d) b (omega arith) in
        columns_length s d (take (j * s) a) j (entries_of p) (take (j * d) b) p.sound (le_of_eq (sym lb)) ∙ lb

    -- k records more
    of_more : (each_of (entries_of p) s d (take ((j + k) * s) a) (j + k) (take ((j + k) * d) b)
        ≡ each_of (entries_of p) s d (take (j * s) a) j (take (j * d) b) ++ each_of (entries_of p) s d (take (k * s) (drop (j * s) a)) k (take (k * d) (drop (j * d) b)))
        × (raised_over (entries_of p) s (take ((j + k) * s) a) (j + k) ≡ raised_over (entries_of p) s (take (j * s) a) j + raised_over (entries_of p) s (take (k * s) (drop (j * s) a)) k)
    of_more =
        let la : length (take (j * s) a) ≡ j * s = length-take-le (j * s) a (omega arith) in
        let lb : length (take (j * d) b) ≡ j * d = length-take-le (j * d) b (omega arith) in
        let a1 : List ℕ = take (k * s) (drop (j * s) a) in
        let b1 : List ℕ = take (k * d) (drop (j * d) b) in
        let src : List ℕ = take (j * s) a ++ a1 in
        let dst : List ℕ = take (j * d) b ++ b1 in
        let es : take ((j + k) * s) a ≡ src = rw (add-mul j k s) (take-add (j * s) (k * s) a) in
        let ed : take ((j + k) * d) b ≡ dst = rw (add-mul j k d) (take-add (j * d) (k * d) b) in
        let lb1 : length b1 ≡ k * d = length-take-le (k * d) (drop (j * d) b) (rw length-drop (omega arith)) in
        let room : j * d + k * d ≤ length dst = rw length-append (omega arith) in
        let first = front s d (entries_of p) p.sound j (take (j * s) a) a1 (take (j * d) b) b1 la lb in
        let was : List ℕ = each_of (entries_of p) s d src j dst in
        let rest : List ℕ = each_of (entries_of p) s d (take (length src - j * s) (drop (j * s) src)) k (take (length was - j * d) (drop (j * d) was)) in
        let turn = chunk_turn p src dst j k room {dst = was} {out = rest} (refl, refl) (refl, refl) in
        let ds : take (length src - j * s) (drop (j * s) src) ≡ a1 = tail_lent (j * s) src ∙ drop_at (take (j * s) a) a1 (j * s) la in
        let dd : take (length was - j * d) (drop (j * d) was) ≡ b1 = tail_lent (j * d) was ∙ ap (drop (j * d)) first.0 ∙ drop_at (of a b j) b1 (j * d) of_length in
        let td : take (j * d) was ≡ of a b j = ap (take (j * d)) first.0 ∙ take_at (of a b j) b1 (j * d) of_length in (
          ap₂ (λ (x y : List ℕ). each_of (entries_of p) s d x (j + k) y) es ed ∙ sym turn.0 ∙ lent_whole (j * d) was rest
              ∙ ap₂ (λ (x y : List ℕ). x ++ y) td (ap₂ (λ (x y : List ℕ). each_of (entries_of p) s d x k y) ds dd),
          ap (λ (x : List ℕ). raised_over (entries_of p) s x (j + k)) es ∙ sym turn.1
              ∙ ap₂ (λ (x y : ℕ). x + y) first.1 (ap (λ (x : List ℕ). raised_over (entries_of p) s x k) ds),
        )

  -- ---- in place, from record i on

  -- the first j records of those from record i on are made
  abbrev pub Made : List ℕ → List ℕ → ℕ → ℕ → List ℕ → ℕ → Type 0
  Made buf₀ bg i j buf raised =
      (buf ≡ put (i * d) (j * d) (each_of (entries_of p) s d (take (j * s) (drop (i * s) buf₀)) j (take (j * d) (drop (i * d) bg))) buf₀)
      × (raised ≡ raised_over (entries_of p) s (take (j * s) (drop (i * s) buf₀)) j)

  module _ (buf₀ bg : List ℕ) (i : ℕ) where
    pub made_none : Made buf₀ bg i 0 buf₀ 0
    made_none =
        let none = chunk_start (entries_of p) s d [] [] in
        let z : i * d + 0 ≡ i * d = omega arith in
        rw (zero-mul d, zero-mul s, ← none.0, ← none.1, z) (sym (take-append-drop (i * d) buf₀), refl)

    module _ (j k : ℕ) (hs : i * s + (j * s + k * s) ≤ length buf₀) (hd : i * d + (j * d + k * d) ≤ length buf₀) (hb : i * d + (j * d + k * d) ≤ length bg)
        (apart : 1 ≤ j → i * s + (j * s + k * s) ≤ i * d) {buf : List ℕ} {raised : ℕ} (made : Made buf₀ bg i j buf raised) where
      was_length : length (each_of (entries_of p) s d (take (j * s) (drop (i * s) buf₀)) j (take (j * d) (drop (i * d) bg))) ≡ j * d
      was_length = of_length (drop (i * s) buf₀) (drop (i * d) bg) j k (rw length-drop (omega arith)) (rw length-drop (omega arith))

      -- what the block reads is as it was
      reads : take (k * s) (drop ((i + j) * s) buf) ≡ take (k * s) (drop (j * s) (drop (i * s) buf₀))
      reads =
          rw (add-mul i j s, drop-drop (j * s) (i * s) buf₀)
          (⊎_elim
          (λ (e : 0 ≡ j). ap (λ (x : List ℕ). take (k * s) (drop (i * s + j * s) x)) (untouched e))
          (λ (h : 0 < j).
          let low : i * s + (j * s + k * s) ≤ i * d = apart h in
          let same : take (i * s + j * s + k * s) buf ≡ take (i * s + j * s + k * s) buf₀ =
          ap (take (i * s + j * s + k * s)) made.0 ∙ put_take (i * d) (j * d) (of (drop (i * s) buf₀) (drop (i * d) bg) j) buf₀ (omega arith) was_length (i * s + j * s + k * s) (omega arith) in
          part_agree (i * s + j * s) (k * s) buf buf₀ (omega (arith, long)) (omega arith) same)
          (eq-or-lt_of_le (omega arith)))
        where
          long : length buf ≡ length buf₀
          long = ap length made.0 ∙ put_length (i * d) (j * d) (of (drop (i * s) buf₀) (drop (i * d) bg) j) buf₀ (omega arith) was_length

          untouched : 0 ≡ j → buf ≡ buf₀
          untouched e = (rw (← e) at made.0) ∙ sym made_none.0

      pub made_more : {e : List ℕ} {one : ℕ}
          → (e ≡ put ((i + j) * d) (k * d) (each_of (entries_of p) s d (take (k * s) (drop ((i + j) * s) buf)) k (take (k * d) (drop ((i + j) * d) bg))) buf)
          × (one ≡ raised_over (entries_of p) s (take (k * s) (drop ((i + j) * s) buf)) k)
          → Made buf₀ bg i (j + k) e (raised + one)
      made_more {e} {one} call =
          let a : List ℕ = drop (i * s) buf₀ in
          let b : List ℕ = drop (i * d) bg in
          let more = of_more a b j k (rw length-drop (omega arith)) (rw length-drop (omega arith)) in
          let ground : take (k * d) (drop ((i + j) * d) bg) ≡ take (k * d) (drop (j * d) b) = rw (add-mul i j d, drop-drop (j * d) (i * d) bg) refl in
          let new : List ℕ = each_of (entries_of p) s d (take (k * s) (drop (j * s) a)) k (take (k * d) (drop (j * d) b)) in
          let fits : i * d + j * d + k * d ≤ length buf₀ = omega arith in (
            call.0 ∙ rw (reads, ground, add-mul i j d, made.0, add-mul j k d) (put_next (i * d) (j * d) (k * d) (of a b j) new buf₀ fits was_length ∙ ap (λ (x : List ℕ). put (i * d) (j * d + k * d) x buf₀) (sym (rw (add-mul j k d) at more.0))),
            ap₂ (λ (x y : ℕ). x + y) made.1 (call.1 ∙ ap (λ (x : List ℕ). raised_over (entries_of p) s x k) reads) ∙ sym more.1,
          )
