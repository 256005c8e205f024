-- A block in place: staged, laid over its background and written. Assumes nothing.
use mathlib.Core.Path.{◌≡◌, refl, sym, ap, ap₂, ◌∙◌}
use mathlib.Core.Bool.{Bool, true, false, cond}
use mathlib.Core.List.{List, ◌++◌}
use Prim.Native.Nat.{ℕ, ◌+◌, ◌*◌, ◌-◌, ◌≤◌, ◌<◌}
use native.Mathlib.Nat.{le_of_eq}
use native.Mathlib.Omega.{arith}
use borrow.Rule.Slice.PartMut.{put_mid}
use lib.ListN.{length, take, drop, length-append, length-drop, take-append-drop}
use lib.Seq.{length-take-le}
use Rattle.easy.proofs.Lent.{tail_lent}
use Rattle.records.specs.Records as Records
use Rattle.records.specs.Plan.{Entry, AllSound}
use Rattle.loops.specs.Steps.{put}
use Rattle.loops.proofs.Lists.{lent_front, put_here, put_put}
use Rattle.blocks.specs.Blocks.{each_of, raised_over}
use Rattle.blocks.proofs.Columns.{record_front, columns_append, columns_alike, raised_alike}

module _ (s d : ℕ) (es : List Entry) (sound : AllSound s d es) (k : ℕ) where
  -- k records at the start of the source and of the destination are all that is read and written
  pub front : (p q x y : List ℕ) → length p ≡ k * s → length x ≡ k * d
      → (each_of es s d (p ++ q) k (x ++ y) ≡ each_of es s d p k x ++ y) × (raised_over es s (p ++ q) k ≡ raised_over es s p k)
  front p q x y lp lx =
      let room : k * d ≤ length x = le_of_eq (sym lx) in
      let more : k * d ≤ length (x ++ y) = rw length-append (omega arith) in
      let same : (i : ℕ) → i < k → Records.record_at s i (p ++ q) ≡ Records.record_at s i p = λ i h. record_front s k i p q h (le_of_eq (sym lp)) in
      (columns_alike s d k es sound (p ++ q) p same (x ++ y) more ∙ columns_append s d k es sound p x y room, raised_alike s d k es sound (p ++ q) p same)

  -- g is the staging part before, g1 after, b the k records under the converted ones, e1 the part of buf with them, e2 with the converted ones
  staged_over : (buf b g g1 e1 e2 : List ℕ) (from at r : ℕ) → from + k * s ≤ length buf → at + k * d ≤ length buf → length b ≡ k * d
      → g1 ≡ take (k * s) (take (length buf - from) (drop from buf)) ++ drop (k * s) g
      → e1 ≡ b ++ drop (k * d) (drop at buf)
      → (let b1 : List ℕ = put_mid at (length buf - at) buf e1 in
      let part : List ℕ = take (length b1 - at) (drop at b1) in
      (e2 ≡ each_of es s d g1 k part) × (r ≡ raised_over es s g1 k)
      → (put_mid at (length b1 - at) b1 e2 ≡ put at (k * d) (each_of es s d (take (k * s) (drop from buf)) k b) buf)
      × (r ≡ raised_over es s (take (k * s) (drop from buf)) k))
  staged_over buf b g g1 e1 e2 from at r hs hd lb h1 h2 done =
      let a : List ℕ = take (k * s) (drop from buf) in
      let b1 : List ℕ = put_mid at (length buf - at) buf e1 in
      let part : List ℕ = take (length b1 - at) (drop at b1) in
      let la : length a ≡ k * s = length-take-le (k * s) (drop from buf) (rw length-drop (omega arith)) in
      let staged : g1 ≡ a ++ drop (k * s) g = rw tail_lent at h1 in
      let laid : b1 ≡ put at (k * d) b buf = lent_front at (k * d) b buf e1 h2 in
      let split : part ≡ b ++ drop (k * d) (drop at b1) =
      tail_lent at b1 ∙ sym (take-append-drop (k * d) (drop at b1)) ∙ ap (λ (x : List ℕ). x ++ drop (k * d) (drop at b1)) (ap (λ (x : List ℕ). take (k * d) (drop at x)) laid ∙ put_here at (k * d) b buf hd lb) in
      let only = front a (drop (k * s) g) b (drop (k * d) (drop at b1)) la lb in
      let out : e2 ≡ each_of es s d a k b ++ drop (k * d) (drop at b1) = done.0 ∙ ap₂ (λ (x y : List ℕ). each_of es s d x k y) staged split ∙ only.0 in (
        lent_front at (k * d) (each_of es s d a k b) b1 e2 out ∙ rw laid (put_put at (k * d) b buf hd lb (each_of es s d a k b)),
        done.1 ∙ ap (λ (x : List ℕ). raised_over es s x k) staged ∙ only.1,
      )

  -- the background's k records lie under the converted ones, or, where it makes no difference, those of buf
  pub staged_block : (whole : Bool) → (whole ≡ true → (src x y : List ℕ) → length x ≡ k * d → length y ≡ k * d → each_of es s d src k x ≡ each_of es s d src k y)
      → (buf bg g g1 e1 e2 : List ℕ) (from at r n : ℕ) → from + k * s ≤ length buf → at + k * d ≤ length buf → at + k * d ≤ length bg → n ≡ cond whole 0 (k * d)
      → g1 ≡ take (k * s) (take (length buf - from) (drop from buf)) ++ drop (k * s) g
      → e1 ≡ take n (take (length bg - at) (drop at bg)) ++ drop n (take (length buf - at) (drop at buf))
      → (let b1 : List ℕ = put_mid at (length buf - at) buf e1 in
      let part : List ℕ = take (length b1 - at) (drop at b1) in
      (e2 ≡ each_of es s d g1 k part) × (r ≡ raised_over es s g1 k)
      → (put_mid at (length b1 - at) b1 e2 ≡ put at (k * d) (each_of es s d (take (k * s) (drop from buf)) k (take (k * d) (drop at bg))) buf)
      × (r ≡ raised_over es s (take (k * s) (drop from buf)) k))
  staged_block false alike buf bg g g1 e1 e2 from at r n hs hd hb hn h1 h2 done =
      let b : List ℕ = take (k * d) (drop at bg) in
      let lb : length b ≡ k * d = length-take-le (k * d) (drop at bg) (rw length-drop (omega arith)) in
      staged_over buf b g g1 e1 e2 from at r hs hd lb h1 (simp (hn, tail_lent) at h2) done
  staged_block true alike buf bg g g1 e1 e2 from at r n hs hd hb hn h1 h2 done =
      let a : List ℕ = take (k * s) (drop from buf) in
      let b : List ℕ = take (k * d) (drop at buf) in
      let lb : length b ≡ k * d = length-take-le (k * d) (drop at buf) (rw length-drop (omega arith)) in
      let lg : length (take (k * d) (drop at bg)) ≡ k * d = length-take-le (k * d) (drop at bg) (rw length-drop (omega arith)) in
      let under : e1 ≡ b ++ drop (k * d) (drop at buf) = (simp (hn, tail_lent) at h2) ∙ sym (take-append-drop (k * d) (drop at buf)) in
      let over = staged_over buf b g g1 e1 e2 from at r hs hd lb h1 under done in
      (over.0 ∙ ap (λ (x : List ℕ). put at (k * d) x buf) (alike refl a b (take (k * d) (drop at bg)) lb lg), over.1)

  -- the same, where buf with the background's bytes is b1
  pub staged_laid : (whole : Bool) → (whole ≡ true → (src x y : List ℕ) → length x ≡ k * d → length y ≡ k * d → each_of es s d src k x ≡ each_of es s d src k y)
      → (buf bg g g1 b1 e2 : List ℕ) (from at r n : ℕ) → from + k * s ≤ length buf → at + k * d ≤ length buf → at + k * d ≤ length bg → n ≡ cond whole 0 (k * d)
      → g1 ≡ take (k * s) (take (length buf - from) (drop from buf)) ++ drop (k * s) g
      → b1 ≡ put_mid at (length buf - at) buf (take n (take (length bg - at) (drop at bg)) ++ drop n (take (length buf - at) (drop at buf)))
      → (let part : List ℕ = take (length b1 - at) (drop at b1) in
      (e2 ≡ each_of es s d g1 k part) × (r ≡ raised_over es s g1 k)
      → (put_mid at (length b1 - at) b1 e2 ≡ put at (k * d) (each_of es s d (take (k * s) (drop from buf)) k (take (k * d) (drop at bg))) buf)
      × (r ≡ raised_over es s (take (k * s) (drop from buf)) k))
  staged_laid whole alike buf bg g g1 b1 e2 from at r n hs hd hb hn h1 h2 =
      rw h2 (staged_block whole alike buf bg g g1 (take n (take (length bg - at) (drop at bg)) ++ drop n (take (length buf - at) (drop at buf))) e2 from at r n hs hd hb hn h1 refl)
