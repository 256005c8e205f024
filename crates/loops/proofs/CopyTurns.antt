-- A turn of the copying loop: one record more is the result's. Assumes nothing.
use mathlib.Core.Path.{◌≡◌, refl, sym, ◌∙◌}
use mathlib.Core.List.{List, ◌++◌}
use Prim.Native.Nat.{ℕ, ◌+◌, ◌*◌, ◌-◌, ◌≤◌, ◌<◌}
use native.Mathlib.Nat.{zero-mul}
use native.Mathlib.Numerals.{add-one}
use native.Mathlib.Omega.{arith}
use borrow.Rule.Slice.PartMut.{put_mid}
use lib.ListN.{length, take, drop}
use Rattle.datatype.specs.Datatype.{Datatype, size}
use Rattle.datatype.specs.WellFormed.{WellFormed}
use Rattle.records.specs.Record.{reading, converted_record, raised_below}
use Rattle.records.specs.Records.{readings, exceptions, copy_result}
use Rattle.loops.specs.Steps.{put, Done}
use Rattle.loops.proofs.Lists.{row_within, row_next, lent_front, drop_agree, whole_agree, put_drop, put_up}
use Rattle.loops.proofs.RecordAt.{record_at, same_reading, record_length, record_in, behind}

pub start : (S D : Datatype) (d c : ℕ) (src dst₀ : List ℕ) → Done S D d c src dst₀ 0 dst₀ 0
unfolding exceptions
start S D d c src dst₀ = rw zero-mul (refl, refl, refl)

module _ (S D : Datatype) (f : WellFormed S) (g : WellFormed D) (s d : ℕ) (es : s ≡ size S) (ed : d ≡ size D) (c : ℕ) (src dst₀ : List ℕ) (room : c * d ≤ length dst₀) where
  pub turn : (i total raised : ℕ) (dst e : List ℕ) → i < c → length dst ≡ length dst₀ → Done S D d c src dst₀ i dst total
      → (e ≡ converted_record S D (reading S D (take s (drop (i * s) src))) (take d (drop (i * d) dst)) ++ drop d (drop (i * d) dst))
      × (raised ≡ raised_below S D (reading S D (take s (drop (i * s) src))) (size D))
      → Done S D d c src dst₀ (i + 1) (put_mid (i * d) (length dst - i * d) dst e) (total + raised)
  unfolding exceptions
  turn i total raised dst e h same done call =
      let within : i * d + d ≤ c * d = row_within d h in
      let fits : i * d + d ≤ length dst = omega arith in
      let r : List ℕ = record_at S D d src dst₀ i in
      let lr : length r ≡ d = record_length S D f g d ed c src dst₀ room i h in
      let read = same_reading S D s es src i in
      let k : e ≡ r ++ drop d (drop (i * d) dst) = rw done.1 (rw (read, done.1) at call.0) in
      let whole : put_mid (i * d) (length dst - i * d) dst e ≡ put (i * d) d r dst = lent_front (i * d) d r dst e k in (
        rw (whole, row_next) (put_up (i * d) d r dst fits lr (copy_result S D c src dst₀) done.0 (record_in S D f g d ed c src dst₀ room _ i h)),
        rw (whole, row_next) (put_drop (i * d) d r dst fits lr (i * d + d) (omega arith) ∙ drop_agree (i * d) (i * d + d) dst dst₀ (omega arith) done.1),
        rw (add-one, call.1, read, done.2),
      )

  pub finish : (i total : ℕ) (dst : List ℕ) → i ≡ c → Done S D d c src dst₀ i dst total
      → (dst ≡ copy_result S D c src dst₀) × (total ≡ exceptions S D c (readings S D src))
  finish i total dst e done =
      let at = rw e at done in
      (whole_agree (c * d) dst (copy_result S D c src dst₀) at.0 (at.1 ∙ sym (behind S D f g d ed c src dst₀ room _ ∙ rw ed)), at.2)
