-- From zeros on, no row of calls is full before its records pass the limit. Assumes nothing.
use mathlib.Core.Path.{◌≡◌, refl, sym, ◌∙◌, subst}
use mathlib.Core.Bool.{Bool, true, false, false≢true}
use mathlib.Core.List.{List, [], ◌∷◌}
use Prim.Native.Nat.{ℕ, ◌+◌, ◌<◌}
use native.Mathlib.Nat.{zero-add, add-zero, add_assoc}
use lib.Dec.{leb}
use lib.ListN.{take, replicate}
use lib.IntN.{ℤ, pos}
use borrow.Author.Tests.{leb-true, leb-false}
use Rattle.datatype.specs.Datatype.{Datatype}
use Rattle.sheet.specs.Sheet.{sheet_of}
use Rattle.sheet.specs.Sheet.Sheet.{of_type}
use Rattle.records.specs.Records.{readings}
use Rattle.runs.specs.Run.Checked.{passed}
use Rattle.channels.specs.Channels.{channels}
use Rattle.channels.specs.Report.{words, held_in, takes, added}
use Rattle.channels.proofs.Full.{Within, within_zeros, within_added, within_takes}
use Rattle.reports.specs.Call.{Call, width, report_of, checks, memory_after}
use Rattle.reports.specs.Parts.{answer_number, Types}
use Rattle.reports.proofs.Checks.{full_tells, passed_tells, done_passes, source_formed_lem, reader_formed_lem, held_after_lem}
use Rattle.report_promises.specs.Season.{Follow, left_by, Reader, count_of, Behind}

-- the report of a call, unfolded
report_is : (S D : Datatype) (b : Call) → report_of b S D ≡ added S D b.count (readings S D b.log) (channels D) (held_in (width D) b.memory)
unfolding report_of
report_is S D b = refl

module _ (D : Datatype) (ds : List ℕ) (ed : sheet_of ds ≡ of_type D) where
  -- the report that a row of calls leaves, by what it was made on
  row_within : (k : ℕ) (m : List ℤ) (cs : List Call) → Reader ds cs → Follow m cs → Within k (held_in (width D) m) → Within (k + count_of cs) (held_in (width D) (left_by m cs))
  row_within k m [] d f w = rw add-zero w
  row_within k m (c ∷ cs) (d, d') (e, done, f) w =
      let x = done_passes c done in
      let S : Datatype = x.0 in
      let t : Types c S x.1 = (passed_tells c S x.1 x.2).types in
      let same : x.1 ≡ D = cc (t.reader, d, ed) in
      let p : checks c ≡ passed S D = subst (λ (T : Datatype). checks c ≡ passed S T) same x.2 in
      let more : Within (k + c.count) (held_in (width D) (memory_after c)) = one S c p (rw e w) in
      rw (← add_assoc k c.count (count_of cs)) (row_within (k + c.count) (memory_after c) cs d' f more)
    where
      one : (S : Datatype) (b : Call) → checks b ≡ passed S D → Within k (held_in (width D) b.memory) → Within (k + b.count) (held_in (width D) (memory_after b))
      one S b p v =
          subst (Within (k + b.count)) (sym (held_after_lem b S D p))
          (subst (Within (k + b.count)) (sym (report_is S D b))
          (within_added S D (source_formed_lem b S D p) (reader_formed_lem b S D p) (passed_tells b S D p).narrow k b.count (readings S D b.log) (held_in (width D) b.memory) v))

  -- from zeros on
  behind_within : (m : List ℤ) (cs : List Call) (c : Call) → Behind ds m cs c → Within (count_of cs) (held_in (width D) c.memory)
  behind_within m cs c b =
      let zeros : take (words (width D)) m ≡ replicate (words (width D)) (pos 0) = rw ed at b.zeros in
      rw b.goes_on (rw zero-add at (row_within 0 m cs b.reader.1 b.follow (within_zeros (width D) m zeros)))

-- ---- the promise

-- Behind a row of calls that were done, from zeros on, a call is full only where its records pass the limit: "one report takes at most 1,048,576 records".
pub full_at_limit : (reader_sheet : List ℕ) (entry : List ℤ) (cs : List Call) (c : Call) → Behind reader_sheet entry cs c → answer_number c ≡ 11
    → 1_048_576 < count_of cs + c.count
full_at_limit ds m cs c b full = at (full_tells c full) (leb (count_of cs + c.count) 1_048_576) refl
  where
    at : (D : Datatype) × (sheet_of c.reader_sheet ≡ of_type D) × (takes c.count (held_in (width D) c.memory) ≡ false)
        → (t : Bool) → leb (count_of cs + c.count) 1_048_576 ≡ t → 1_048_576 < count_of cs + c.count
    at (D, r, f) true e =
        absurd
        (false≢true
        (sym f
        ∙ within_takes (count_of cs) c.count (held_in (width D) c.memory) (behind_within D ds (rw (← b.reader.0) r) m cs c b)
        (leb-true (count_of cs + c.count) 1_048_576 e)))
    at (D, r, f) false e = leb-false (count_of cs + c.count) 1_048_576 e
