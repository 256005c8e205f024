-- Bytes that were lent on and came back: staged, laid over a background, and a record written there. Assumes nothing.
use mathlib.Core.Path.{◌≡◌, ap, ◌∙◌}
use mathlib.Core.List.{List, ◌++◌}
use Prim.Native.Nat.{ℕ, ◌+◌, ◌-◌, ◌≤◌}
use native.Mathlib.Omega.{arith}
use borrow.Rule.Slice.PartMut.{put_mid}
use lib.ListN.{length, take, drop, length-append, length-drop}
use lib.Seq.{length-take-le, take_at}
use Rattle.records.specs.Plan.{written, raised_by}
use Rattle.plans.specs.PlanWords.{Ready, entries_of, Job}
use Rattle.easy.proofs.Lent.{tail_lent}
use Rattle.loops.specs.Steps.{put, record_by, raised_of}
use Rattle.loops.proofs.Lists.{lent_front, put_length, put_here, put_put}
use Rattle.loops.proofs.Jobs.{job_call}

pub taken : (at n : ℕ) (src g g1 : List ℕ) → g1 ≡ take n (take (length src - at) (drop at src)) ++ drop n g → g1 ≡ take n (drop at src) ++ drop n g
taken at n src g g1 h = rw tail_lent at h

pub laid : (at n : ℕ) (dst src e : List ℕ) → e ≡ take n (take (length src - at) (drop at src)) ++ drop n (take (length dst - at) (drop at dst))
    → put_mid at (length dst - at) dst e ≡ put at n (take n (drop at src)) dst
laid at n dst src e h = lent_front at n (take n (drop at src)) dst e (simp tail_lent at h)

-- g is the staging record before, g1 after, b1 is buf with the background's record, e2 its part with the converted one
module _ {s d : ℕ} {plan : List ℕ} {n : ℕ} {ws wd words : List ℕ} (j : Job s d plan n ws wd words) where
  pub one : (buf bg g g1 b1 e2 : List ℕ) (from at r : ℕ) → from + s ≤ length buf → at + d ≤ length buf → at + d ≤ length bg
      → g1 ≡ take s (drop from buf) ++ drop s g
      → b1 ≡ put at d (take d (drop at bg)) buf
      → (let part : List ℕ = take (length b1 - at) (drop at b1) in
      ((t : Ready (length g1) (length part) plan n ws wd words) → (e2 ≡ written (entries_of t) g1 part) × (r ≡ raised_by (entries_of t) g1))
      → (put_mid at (length b1 - at) b1 e2 ≡ put at d (record_by j (take s (drop from buf)) (take d (drop at bg))) buf) × (r ≡ raised_of j (take s (drop from buf))))
  one buf bg g g1 b1 e2 from at r hs hd hb staged over call =
      let a : List ℕ = take s (drop from buf) in
      let b : List ℕ = take d (drop at bg) in
      let part : List ℕ = take (length b1 - at) (drop at b1) in
      let la : length a ≡ s = length-take-le s (drop from buf) (rw length-drop (omega arith)) in
      let lb : length b ≡ d = length-take-le d (drop at bg) (rw length-drop (omega arith)) in
      let front : take s g1 ≡ a = rw staged (take_at a (drop s g) s la) in
      let long : length b1 ≡ length buf = ap length over ∙ put_length at d b buf hd lb in
      let room : s ≤ length g1 = rw (staged, length-append, la) (omega arith) in
      let fits : d ≤ length part = rw (tail_lent, length-drop, long) (omega arith) in
      let done = job_call j g1 part e2 r room fits call in (
        lent_front at d (record_by j (take s g1) (take d (drop at b1))) b1 e2 (simp tail_lent at done.0)
            ∙ rw (front, over, put_here at d b buf hd lb, put_put at d b buf hd lb),
        rw front at done.1,
      )
