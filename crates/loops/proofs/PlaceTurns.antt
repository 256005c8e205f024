-- Turns of the loops in place: up from the first record, and down from the last. Assumes nothing.
use mathlib.Core.Path.{◌≡◌, refl, sym, ap, ◌∙◌}
use mathlib.Core.List.{List, ◌++◌}
use Prim.Native.Nat.{ℕ, ◌+◌, ◌*◌, ◌-◌, ◌≤◌, ◌<◌, max}
use native.Mathlib.Nat.{zero-mul, mul-le-mul_left, max-eq_left, max-eq_right}
use native.Mathlib.Numerals.{add-one}
use native.Mathlib.Omega.{arith}
use borrow.Rule.Slice.PartMut.{put_mid}
use lib.ListN.{length, take, drop, replicate, length-append, length-drop, take-append-drop}
use lib.Seq.{length-take-le, take_at}
use Rattle.datatype.specs.Datatype.{Datatype, size}
use Rattle.datatype.specs.WellFormed.{WellFormed}
use Rattle.records.specs.Record.{reading, converted_record, raised_below}
use Rattle.records.specs.Records.{readings, exceptions, in_place_result}
use Rattle.records.specs.Plan.{written, raised_by}
use Rattle.plans.specs.PlanWords.{Ready, entries_of, Job}
use Rattle.easy.proofs.Lent.{tail_lent}
use Rattle.loops.specs.Steps.{put, record_by, raised_of, Up, Down}
use Rattle.loops.proofs.Lists.{row_within, row_next, lent_front, drop_agree, take_agree, part_agree, put_length, put_take, put_drop, put_here, put_put, put_up, put_down}
use Rattle.loops.proofs.Jobs.{job_call}
use Rattle.loops.proofs.RecordAt.{record_at, same_reading, record_length, record_in, behind}

-- ---- one record: g is the staging record before, g1 after, e1 the part of buf with the background's record, e2 with the converted one

module _ {s d : ℕ} {plan : List ℕ} {n : ℕ} {ws wd words : List ℕ} (j : Job s d plan n ws wd words) where
  pub one : (buf bg g g1 e1 e2 : List ℕ) (from at r : ℕ) → from + s ≤ length buf → at + d ≤ length buf → at + d ≤ length bg
      → g1 ≡ take s (take (length buf - from) (drop from buf)) ++ drop s g
      → e1 ≡ take d (take (length bg - at) (drop at bg)) ++ drop d (take (length buf - at) (drop at buf))
      → (let b1 : List ℕ = put_mid at (length buf - at) buf e1 in
      let part : List ℕ = take (length b1 - at) (drop at b1) in
      ((t : Ready (length g1) (length part) plan n ws wd words) → (e2 ≡ written (entries_of t) g1 part) × (r ≡ raised_by (entries_of t) g1))
      → (put_mid at (length b1 - at) b1 e2 ≡ put at d (record_by j (take s (drop from buf)) (take d (drop at bg))) buf) × (r ≡ raised_of j (take s (drop from buf))))
  one buf bg g g1 e1 e2 from at r hs hd hb h1 h2 call =
      let a : List ℕ = take s (drop from buf) in
      let b : List ℕ = take d (drop at bg) in
      let b1 : List ℕ = put_mid at (length buf - at) buf e1 in
      let part : List ℕ = take (length b1 - at) (drop at b1) in
      let la : length a ≡ s = length-take-le s (drop from buf) (rw length-drop (omega arith)) in
      let lb : length b ≡ d = length-take-le d (drop at bg) (rw length-drop (omega arith)) in
      let staged : g1 ≡ a ++ drop s g = rw tail_lent at h1 in
      let front : take s g1 ≡ a = rw staged (take_at a (drop s g) s la) in
      let laid : b1 ≡ put at d b buf = lent_front at d b buf e1 (simp tail_lent at h2) in
      let long : length b1 ≡ length buf = ap length laid ∙ put_length at d b buf hd lb in
      let room : s ≤ length g1 = rw (staged, length-append, la) (omega arith) in
      let fits : d ≤ length part = rw (tail_lent, length-drop, long) (omega arith) in
      let done = job_call j g1 part e2 r room fits call in (
        lent_front at d (record_by j (take s g1) (take d (drop at b1))) b1 e2 (simp tail_lent at done.0)
            ∙ rw (front, laid, put_here at d b buf hd lb, put_put at d b buf hd lb),
        rw front at done.1,
      )

-- ---- n records

pub up_start : (S D : Datatype) (s d c : ℕ) (buf₀ bg : List ℕ) → Up S D s d c buf₀ bg 0 buf₀ 0
unfolding exceptions
up_start S D s d c buf₀ bg = simp zero-mul (refl, refl, refl)

module _ (S D : Datatype) (f : WellFormed S) (g : WellFormed D) (s d : ℕ) (es : s ≡ size S) (ed : d ≡ size D) (c : ℕ) (buf₀ bg : List ℕ) (room : c * d ≤ length bg) where
  abbrev result : List ℕ
  result = in_place_result S D c buf₀ bg

  rest : drop (c * d) (in_place_result S D c buf₀ bg) ≡ replicate (c * s - c * d) 0 ++ drop (max (c * s) (c * d)) buf₀
  rest = behind S D f g d ed c buf₀ bg room _ ∙ rw (es, ed)

  pub up_turn : (i total raised : ℕ) (buf e : List ℕ) → c * s ≤ length buf₀ → d ≤ s → i < c → length buf ≡ length buf₀ → Up S D s d c buf₀ bg i buf total
      → (e ≡ put (i * d) d (converted_record S D (reading S D (take s (drop (i * s) buf))) (take d (drop (i * d) bg))) buf)
      × (raised ≡ raised_below S D (reading S D (take s (drop (i * s) buf))) (size D))
      → Up S D s d c buf₀ bg (i + 1) e (total + raised)
  unfolding exceptions
  up_turn i total raised buf e hn hd hi same up call =
      let ws : i * s + s ≤ c * s = row_within s hi in
      let wd : i * d + d ≤ c * d = row_within d hi in
      let low : i * d ≤ i * s = mul-le-mul_left i hd in
      let r : List ℕ = record_at S D d buf₀ bg i in
      let lr : length r ≡ d = record_length S D f g d ed c buf₀ bg room i hi in
      let fits : i * d + d ≤ length buf = omega arith in
      let read = same_reading S D s es buf₀ i in
      let k : e ≡ put (i * d) d r buf = rw (up.1, read) at call.0 in (
        rw (k, row_next i d) (put_up (i * d) d r buf fits lr result up.0 (record_in S D f g d ed c buf₀ bg room _ i hi)),
        rw (k, row_next i s) (put_drop (i * d) d r buf fits lr (i * s + s) (omega arith) ∙ drop_agree (i * s) (i * s + s) buf buf₀ (omega arith) up.1),
        rw (add-one, call.1, up.1, read, up.2),
      )

  pub down_start : s ≤ d → Down S D s d c buf₀ bg c buf₀ 0
  down_start hs =
      let low : c * s ≤ c * d = mul-le-mul_left c hs in
      let none : c * s - c * d ≡ 0 = omega arith in
      let most : max (c * s) (c * d) ≡ c * d = max-eq_right low in
      (refl, sym (rest ∙ rw (none, most)), omega arith)

  pub down_turn : (i total raised : ℕ) (buf e : List ℕ) → c * d ≤ length buf₀ → s ≤ d → i < c → length buf ≡ length buf₀ → Down S D s d c buf₀ bg (i + 1) buf total
      → (e ≡ put (i * d) d (converted_record S D (reading S D (take s (drop (i * s) buf))) (take d (drop (i * d) bg))) buf)
      × (raised ≡ raised_below S D (reading S D (take s (drop (i * s) buf))) (size D))
      → Down S D s d c buf₀ bg i e (total + raised)
  unfolding exceptions
  down_turn i total raised buf e hn hs hi same down call =
      let wd : i * d + d ≤ c * d = row_within d hi in
      let low : i * s ≤ i * d = mul-le-mul_left i hs in
      let r : List ℕ = record_at S D d buf₀ bg i in
      let lr : length r ≡ d = record_length S D f g d ed c buf₀ bg room i hi in
      let fits : i * d + d ≤ length buf = omega arith in
      let front : take (i * s + s) buf ≡ take (i * s + s) buf₀ = rw row_next at down.0 in
      let back : drop (i * d + d) buf ≡ drop (i * d + d) result = rw row_next at down.1 in
      let part : take s (drop (i * s) buf) ≡ take s (drop (i * s) buf₀) = part_agree (i * s) s buf buf₀ (omega arith) (omega arith) front in
      let read = same_reading S D s es buf₀ i in
      let k : e ≡ put (i * d) d r buf = rw (part, read) at call.0 in
      let more : raised ≡ raised_below S D (readings S D buf₀ i) (size D) = rw (part, read) at call.1 in (
        rw k (put_take (i * d) d r buf fits lr (i * s) low ∙ take_agree (i * s + s) (i * s) buf buf₀ (omega arith) front),
        rw k (put_down (i * d) d r buf fits lr result back (record_in S D f g d ed c buf₀ bg room _ i hi)),
        omega (arith, rw add-one at down.2, more),
      )

  -- ---- the whole buffer

  pub down_end : (buf : List ℕ) (total : ℕ) → Down S D s d c buf₀ bg 0 buf total → (buf ≡ in_place_result S D c buf₀ bg) × (total ≡ exceptions S D c (readings S D buf₀))
  unfolding exceptions
  down_end buf total down = (simp zero-mul at down.1, omega (arith, down.2))

  pub cleared : (buf e : List ℕ) → d ≤ s → take (c * d) buf ≡ take (c * d) (in_place_result S D c buf₀ bg) → drop (c * s) buf ≡ drop (c * s) buf₀
      → e ≡ replicate (c * s - c * d) 0 ++ drop (c * s - c * d) (take (length buf - c * d) (drop (c * d) buf))
      → put_mid (c * d) (length buf - c * d) buf e ≡ in_place_result S D c buf₀ bg
  cleared buf e hd front back h =
      let low : c * d ≤ c * s = mul-le-mul_left c hd in
      let sum : c * d + (c * s - c * d) ≡ c * s = omega arith in
      let most : max (c * s) (c * d) ≡ c * s = max-eq_left low in
      let tail : drop (c * d) result ≡ replicate (c * s - c * d) 0 ++ drop (c * s) buf₀ = rw most at rest in
      lent_front (c * d) (c * s - c * d) (replicate (c * s - c * d) 0) buf e (simp tail_lent at h)
      ∙ rw (front, sum, back, ← tail) (take-append-drop (c * d) result)
