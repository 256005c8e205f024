-- Blocks one after the other are one block. Assumes nothing.
use mathlib.Core.Path.{◌≡◌, refl, sym, ap, ◌∙◌}
use mathlib.Core.List.{List, [], ◌∷◌, ◌++◌, append_assoc}
use Prim.Native.Nat.{ℕ, zero, suc, ◌+◌, ◌*◌, ◌-◌, ◌≤◌}
use native.Mathlib.Nat.{suc-mul, zero-mul, add-mul, mul-le-mul_right, le_trans}
use native.Mathlib.Omega.{arith}
use borrow.Rule.Slice.PartMut.{put_mid}
use lib.ListN.{length, take, drop, length-drop, take-append-drop}
use lib.Seq.{take-append-add, drop-append-add, length-take-le}
use Rattle.easy.proofs.Lent.{tail_lent, lent_whole}
use Rattle.records.specs.Record.{raises}
use Rattle.records.specs.Records.{record_at}
use Rattle.records.specs.Plan.{Entry, becomes, written, raised_by, AllSound}
use Rattle.plans.specs.PlanWords.{entries_from, entry_at, Ready, entries_of}
use Rattle.loops.specs.Steps.{put}
use Rattle.blocks.specs.Blocks.{each_record, each_of, sum_to, raised_over}
use Rattle.blocks.proofs.Columns.{record_shift, each_same, columns_each, columns_length, columns_raised, sum_same}
use Rattle.block_parts.proofs.Parts.{sum_split}

-- ---- records

put_behind : (x y : List ℕ) (p q d : ℕ) (r : List ℕ) → length x ≡ p → put (p + q) d r (x ++ y) ≡ x ++ put q d r y
put_behind x y p q d r e =
    let z : length x + q + d ≡ length x + (q + d) = omega arith in
    rw (← e, z, take-append-add x y q, drop-append-add x y (q + d)) (append_assoc x (take q y) (r ++ drop (q + d) y))

module _ (f : ℕ → List ℕ → List ℕ) (d i : ℕ) (dst : List ℕ) (room : i * d ≤ length (each_record f d i dst)) where
  -- the k records behind the first i
  each_split : (k : ℕ) → each_record f d (i + k) dst ≡ take (i * d) (each_record f d i dst) ++ each_record (λ j x. f (i + j) x) d k (drop (i * d) (each_record f d i dst))
  unfolding each_record
  each_split zero = let e : i + 0 ≡ i = omega arith in rw e (sym (take-append-drop (i * d) (each_record f d i dst)))
  each_split (suc k) =
      let e : i + suc k ≡ suc (i + k) = omega arith in
      let front : List ℕ = take (i * d) (each_record f d i dst) in
      let rest : List ℕ = each_record (λ j x. f (i + j) x) d k (drop (i * d) (each_record f d i dst)) in
      let long : length front ≡ i * d = length-take-le (i * d) (each_record f d i dst) room in
      let same : record_at d (i + k) (front ++ rest) ≡ record_at d k rest = here front rest k long in
      rw (e, each_split k, same, add-mul i k d) (put_behind front rest (i * d) (k * d) d (f (i + k) (record_at d k rest)) long)
    where
      here : (x y : List ℕ) (k : ℕ) → length x ≡ i * d → record_at d (i + k) (x ++ y) ≡ record_at d k y
      here x y k e = rw (add-mul i k d, ← e, drop-append-add x y (k * d))

module _ (s d : ℕ) (es : List Entry) (f : AllSound s d es) (src dst₀ : List ℕ) (i k : ℕ) (room : i * d + k * d ≤ length dst₀) where
  columns_split : each_of es s d src (i + k) dst₀ ≡ take (i * d) (each_of es s d src i dst₀) ++ each_of es s d (drop (i * s) src) k (drop (i * d) (each_of es s d src i dst₀))
  columns_split =
      let rows : (i + k) * d ≡ i * d + k * d = add-mul i k d in
      let low : i * d ≤ length dst₀ = omega arith in
      let was : List ℕ = each_of es s d src i dst₀ in
      let same : length was ≡ length dst₀ = columns_length s d src i es dst₀ f low in
      let each : was ≡ each_record (λ j x. written es (record_at s j src) x) d i dst₀ = columns_each s d src i es dst₀ f low in
      columns_each s d src (i + k) es dst₀ f (omega arith)
      ∙ each_split (λ j x. written es (record_at s j src) x) d i dst₀ (rw (← each) (omega arith)) k
      ∙ rw (← each) (ap (λ (x : List ℕ). take (i * d) was ++ x) (
      each_same (λ j x. written es (record_at s (i + j) src) x) (λ j x. written es (record_at s j (drop (i * s) src)) x) d k (drop (i * d) was) (λ j h x. ap (λ (r : List ℕ). written es r x) (sym (record_shift s i j src)))
      ∙ sym (columns_each s d (drop (i * s) src) k es (drop (i * d) was) f (rw length-drop (omega arith)))
      ))

-- ---- exceptions

raised_split : (s : ℕ) (es : List Entry) (src : List ℕ) (i k : ℕ) → raised_over es s src (i + k) ≡ raised_over es s src i + raised_over es s (drop (i * s) src) k
raised_split s es src i k =
    rw (columns_raised s src (i + k) es, columns_raised s src i es, columns_raised s (drop (i * s) src) k es)
    (sum_split (λ j. raised_by es (record_at s j src)) i k
    ∙ ap (λ (x : ℕ). sum_to (λ j. raised_by es (record_at s j src)) i + x)
    (sum_same (λ j. raised_by es (record_at s (i + j) src)) (λ j. raised_by es (record_at s j (drop (i * s) src))) k (λ j h. ap (raised_by es) (sym (record_shift s i j src)))))

raises_few : (kind : ℕ) → raises kind ≤ 1
raises_few zero = omega arith
raises_few (suc kind) = omega arith

sum_few : (f : ℕ → ℕ) (k : ℕ) → ((i : ℕ) → f i ≤ 1) → sum_to f k ≤ k
unfolding sum_to
sum_few f zero h = omega arith
sum_few f (suc k) h = omega (arith, sum_few f k h, h k)

entries_few : (plan ws ts wd td : List ℕ) (s : ℕ) (src : List ℕ) (k n i : ℕ) → raised_over (entries_from plan ws ts wd td i n) s src k ≤ n * k
unfolding raised_over entries_from
entries_few plan ws ts wd td s src k zero i = rw zero-mul (omega arith)
entries_few plan ws ts wd td s src k (suc n) i =
    let e : Entry = entry_at plan ws ts wd td i in
    let z : suc n * k ≡ n * k + k = suc-mul n k in
    omega (arith, entries_few plan ws ts wd td s src k n (i + 1), sum_few (λ j. raises (becomes e (record_at s j src)).kind) k (λ j. raises_few (becomes e (record_at s j src)).kind))

-- an entry raises at most one in a record
pub raised_few : {s d : ℕ} {plan : List ℕ} {n : ℕ} {ws wd words : List ℕ} (p : Ready s d plan n ws wd words) (src : List ℕ) (k : ℕ) → raised_over (entries_of p) s src k ≤ 4096 * k
raised_few {s} {plan = plan} {n = n} {ws = ws} {wd = wd} p src k =
    le_trans (entries_few plan ws p.source_text wd p.destination_text s src k n 0) (mul-le-mul_right k p.most)

-- ---- a turn: what is lent begins at record i; and the end

module _ {s d : ℕ} {plan : List ℕ} {n : ℕ} {ws wd words : List ℕ} (p : Ready s d plan n ws wd words) (src dst₀ : List ℕ) where
  pub chunk_turn : (i k : ℕ) → i * d + k * d ≤ length dst₀ → {raised one : ℕ} {dst out : List ℕ}
      → (dst ≡ each_of (entries_of p) s d src i dst₀) × (raised ≡ raised_over (entries_of p) s src i)
      → (out ≡ each_of (entries_of p) s d (take (length src - i * s) (drop (i * s) src)) k (take (length dst - i * d) (drop (i * d) dst)))
      × (one ≡ raised_over (entries_of p) s (take (length src - i * s) (drop (i * s) src)) k)
      → (put_mid (i * d) (length dst - i * d) dst out ≡ each_of (entries_of p) s d src (i + k) dst₀) × (raised + one ≡ raised_over (entries_of p) s src (i + k))
  chunk_turn i k room {dst = dst} {out = out} was h = (
    rw (lent_whole (i * d) dst out, h.0, tail_lent (i * s) src, tail_lent (i * d) dst, was.0) (sym (columns_split s d (entries_of p) p.sound src dst₀ i k room)),
    rw (was.1, h.1, tail_lent (i * s) src) (sym (raised_split s (entries_of p) src i k)),
  )

  pub chunk_end : {i c : ℕ} → i ≤ c → c ≤ i → {dst : List ℕ} {raised : ℕ} → (dst ≡ each_of (entries_of p) s d src i dst₀) × (raised ≡ raised_over (entries_of p) s src i)
      → (dst ≡ each_of (entries_of p) s d src c dst₀) × (raised ≡ raised_over (entries_of p) s src c)
  chunk_end {i} {c} low high h = let e : c ≡ i = omega arith in rw e h

-- ---- none yet

pub chunk_start : (es : List Entry) (s d : ℕ) (src dst : List ℕ) → (dst ≡ each_of es s d src 0 dst) × (0 ≡ raised_over es s src 0)
unfolding each_of raised_over each_record sum_to
chunk_start [] s d src dst = (refl, refl)
chunk_start (e ∷ es) s d src dst = ((chunk_start es s d src dst).0, omega (arith, (chunk_start es s d src dst).1))
