-- Where each byte of a record is written, the result does not depend on what was there. Assumes nothing.
use mathlib.Core.Path.{◌≡◌, refl, sym, ap, ap₂, ◌∙◌}
use mathlib.Core.List.{List, ◌++◌}
use Prim.Native.Nat.{ℕ, zero, suc, ◌+◌, ◌*◌, ◌^◌, ◌≤◌, ◌<◌}
use native.Mathlib.Nat.{le_of_eq}
use native.Mathlib.Omega.{arith}
use lib.Bits.{bit_and, and_zero_r}
use lib.ListN.{length, take, drop_of_length-le}
use lib.Seq.{take_all, take-paste}
use Rattle.bits.specs.Container.{container, contained}
use Rattle.bits.proofs.Digits.{contained_length}
use Rattle.layout.specs.declared.Layout.{Layout}
use Rattle.layout.specs.Layout.{Valid}
use Rattle.number.specs.Place.{filled, place, stored}
use Rattle.number.proofs.RoundTrip.{stored_length}
use Rattle.datatype.specs.Datatype.{layout_of}
use Rattle.datatype.proofs.Ways.{valid}
use Rattle.records.specs.Records.{record_at}
use Rattle.records.specs.Plan.{Entry, becomes, written, Sound}
use Rattle.column_words.specs.Fill.{ones_of, keep_of}
use Rattle.column_words.proofs.Made.{merged_is}
use Rattle.table.specs.Table.{layout_at}
use Rattle.plans.specs.PlanWords.{destination_type_of, to_byte, entry_at, entries_from, Ready, entries_of}
use Rattle.plans.proofs.LeafSteps.{leaf_layout}
use Rattle.plans.proofs.Entries.{sound_at}
use Rattle.blocks.specs.Blocks.{leaf_in, each_of}
use Rattle.blocks.proofs.Columns.{by_records, record_room, columns_written, columns_behind}
use Rattle.whole_writes.specs.Writes.{Anew, WritesFrom, WritesEach}

-- ---- one leaf that is written anew

module _ (m : Layout) (v : Valid m) (none : keep_of m ≡ 0) where
  -- its bytes, over any container
  bytes_anew : (g r : ℕ) → contained m.order m.size.0 (filled m g r) ≡ contained m.order m.size.0 (r * 2 ^ m.offset.0 + ones_of m + 0)
  bytes_anew g r =
      let kept : bit_and g (keep_of m) ≡ 0 = ap (bit_and g) none ∙ and_zero_r g in
      sym (merged_is m v g r) ∙ ap (λ (k : ℕ). contained m.order m.size.0 (r * 2 ^ m.offset.0 + ones_of m + k)) kept

  -- records that agree up to the leaf agree up to its end
  stored_alike : (b r : ℕ) (x y : List ℕ) → b ≤ length x → b ≤ length y → take b x ≡ take b y → take (b + m.size.0) (stored m b r x) ≡ take (b + m.size.0) (stored m b r y)
  stored_alike b r x y hx hy e =
      let n : ℕ = m.size.0 in
      let cx : List ℕ = contained m.order n (filled m (container m.order (place m b x)) r) in
      let cy : List ℕ = contained m.order n (filled m (container m.order (place m b y)) r) in
      let same : cx ≡ cy = bytes_anew (container m.order (place m b x)) r ∙ sym (bytes_anew (container m.order (place m b y)) r) in
      take-paste x b cx n hx (le_of_eq (sym (contained_length m.order n _)))
      ∙ ap₂ (λ (p q : List ℕ). p ++ take n q) e same
      ∙ sym (take-paste y b cy n hy (le_of_eq (sym (contained_length m.order n _))))

-- ---- the entries of a plan

module _ {s d : ℕ} {plan : List ℕ} {n : ℕ} {ws wd words : List ℕ} (p : Ready s d plan n ws wd words) where
  abbrev here : ℕ → Entry
  here i = entry_at plan ws p.source_text wd p.destination_text i

  sound : (i : ℕ) → i < n → Sound s d (entry_at plan ws p.source_text wd p.destination_text i)
  sound i h = sound_at plan ws p.source_text wd p.destination_text s d n 0 i p.sound (omega arith) (omega arith)

  module _ (r : List ℕ) where
    one_length : (i : ℕ) (x : List ℕ) → i < n → length x ≡ d → length (leaf_in (entry_at plan ws p.source_text wd p.destination_text i) r x) ≡ d
    one_length i x h lx = stored_length (layout_of (here i).destination) (to_byte plan i) (becomes (here i) r).raw x (rw lx (sound i h).write) ∙ lx

    one_alike : (i at k : ℕ) (x y : List ℕ) → i < n → to_byte plan i ≡ at → Anew wd (destination_type_of plan i) k → length x ≡ d → length y ≡ d → take at x ≡ take at y
        → take (at + k) (leaf_in (entry_at plan ws p.source_text wd p.destination_text i) r x) ≡ take (at + k) (leaf_in (entry_at plan ws p.source_text wd p.destination_text i) r y)
    one_alike i at k x y h begins a lx ly e =
        let m : Layout = layout_of (here i).destination in
        let same : m ≡ layout_at wd (destination_type_of plan i) = leaf_layout wd p.destination_text (destination_type_of plan i) in
        let none : keep_of m ≡ 0 = ap keep_of same ∙ a.none in
        let size : m.size.0 ≡ k = ap (λ (l : Layout). l.size.0) same ∙ a.size in
        let fits : to_byte plan i + m.size.0 ≤ d = (sound i h).write in
        rw (← begins, ← size)
        (stored_alike m (valid (here i).destination (sound i h).destination) none (to_byte plan i) (becomes (here i) r).raw x y (omega arith) (omega arith) (rw (← begins) at e))

    rest_alike : (k i at : ℕ) (x y : List ℕ) → i + k ≤ n → WritesFrom d plan wd i k at → length x ≡ d → length y ≡ d → take at x ≡ take at y
        → written (entries_from plan ws p.source_text wd p.destination_text i k) r x ≡ written (entries_from plan ws p.source_text wd p.destination_text i k) r y
    unfolding written entries_from
    rest_alike zero i at x y h w lx ly e = sym (take_all at x (omega (arith, w))) ∙ e ∙ take_all at y (omega (arith, w))
    rest_alike (suc k) i at x y h w lx ly e =
        rest_alike k (i + 1) (at + w.0) (leaf_in (here i) r x) (leaf_in (here i) r y) (omega arith) w.3 (one_length i x (omega arith) lx) (one_length i y (omega arith) ly)
        (one_alike i at w.0 x y (omega arith) w.1 w.2 lx ly e)

  -- ---- k records

  pub each_alike : WritesEach d plan n wd → (src x y : List ℕ) (k : ℕ) → length x ≡ k * d → length y ≡ k * d → each_of (entries_of p) s d src k x ≡ each_of (entries_of p) s d src k y
  each_alike w src x y k lx ly =
      let hx : k * d ≤ length x = le_of_eq (sym lx) in
      let hy : k * d ≤ length y = le_of_eq (sym ly) in
      by_records d k (each_of (entries_of p) s d src k x) (each_of (entries_of p) s d src k y)
      (λ j h.
      columns_written s d src k (entries_of p) x p.sound hx j h
      ∙ rest_alike (record_at s j src) n 0 0 (record_at d j x) (record_at d j y) (omega arith) w (record_room d k j x h hx) (record_room d k j y h hy) refl
      ∙ sym (columns_written s d src k (entries_of p) y p.sound hy j h))
      (columns_behind s d src k (entries_of p) x p.sound hx ∙ drop_of_length-le x (le_of_eq lx)
      ∙ sym (columns_behind s d src k (entries_of p) y p.sound hy ∙ drop_of_length-le y (le_of_eq ly)))
