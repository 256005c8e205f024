-- A plan's entries read and write no more than the front of what they are lent: the record. Assumes nothing.
use mathlib.Core.Path.{◌≡◌, refl, sym, ap, ap₂, ◌∙◌}
use mathlib.Core.List.{List, [], ◌∷◌, ◌++◌, append_assoc}
use Prim.Native.Nat.{ℕ, ◌+◌, ◌≤◌}
use native.Mathlib.Nat.{le_trans}
use native.Mathlib.Omega.{arith}
use lib.ListN.{length, take, drop, length-drop, take-append-drop}
use lib.Seq.{take-append-le, drop-append-le, length-take-le}
use Rattle.layout.specs.declared.Layout.{Layout}
use Rattle.bits.specs.Container.{container, contained, field}
use Rattle.number.specs.Number.{valued}
use Rattle.number.specs.Place.{filled, place, stored}
use Rattle.number.proofs.RoundTrip.{stored_length}
use Rattle.datatype.specs.Datatype.{layout_of, leaf_size}
use Rattle.records.specs.Leaf.{converted}
use Rattle.records.specs.Plan.{Entry, becomes, written, raised_by, first_by, AllSound}

-- ---- one place

module _ (l : Layout) (i : ℕ) (p q : List ℕ) (h : i + l.size.0 ≤ length p) where
  pub place_front : place l i (p ++ q) ≡ place l i p
  place_front = rw (drop-append-le i p q (omega arith), take-append-le l.size.0 (drop i p) q (rw length-drop (omega arith)))

  pub stored_front : (r : ℕ) → stored l i r (p ++ q) ≡ stored l i r p ++ q
  stored_front r =
      rw (place_front, take-append-le i p q (omega arith), drop-append-le (i + l.size.0) p q h)
      (sym (append_assoc (take i p ++ take l.size.0 (contained l.order l.size.0 (filled l (container l.order (place l i p)) r))) (drop (i + l.size.0) p) q))

pub becomes_front : (e : Entry) (p q : List ℕ) → e.from + leaf_size e.source ≤ length p → becomes e (p ++ q) ≡ becomes e p
becomes_front e p q h =
    let l : Layout = layout_of e.source in
    ap (λ (b : List ℕ). converted e.source e.destination (valued l.signed l.precision (field l.offset.0 l.precision (container l.order b))))
    (place_front l e.from p q h)

-- ---- all entries: p of the source and g of the destination is all that they need

front_written : (es : List Entry) (p q g h : List ℕ) → AllSound (length p) (length g) es → written es (p ++ q) (g ++ h) ≡ written es p g ++ h
unfolding written
front_written [] p q g h f = refl
front_written (e ∷ es) p q g h f =
    let l : Layout = layout_of e.destination in
    let same : length (stored l e.to (becomes e p).raw g) ≡ length g = stored_length l e.to (becomes e p).raw g f.0.write in
    rw (becomes_front e p q f.0.read, stored_front l e.to g h f.0.write)
    (front_written es p q (stored l e.to (becomes e p).raw g) h (rw same f.1))

front_raised : (d : ℕ) (es : List Entry) (p q : List ℕ) → AllSound (length p) d es → raised_by es (p ++ q) ≡ raised_by es p
unfolding raised_by
front_raised d [] p q f = refl
front_raised d (e ∷ es) p q f = rw (becomes_front e p q f.0.read, front_raised d es p q f.1)

front_first : (d : ℕ) (es : List Entry) (p q : List ℕ) → AllSound (length p) d es → first_by es (p ++ q) ≡ first_by es p
unfolding first_by
front_first d [] p q f = refl
front_first d (e ∷ es) p q f = rw (becomes_front e p q f.0.read, front_first d es p q f.1)

-- ---- more room is room enough

pub sound_more : (s d t c : ℕ) (es : List Entry) → s ≤ t → d ≤ c → AllSound s d es → AllSound t c es
sound_more s d t c [] h g f = tt
sound_more s d t c (e ∷ es) h g f =
    (record { source = f.0.source; destination = f.0.destination; read = le_trans f.0.read h; write = le_trans f.0.write g }, sound_more s d t c es h g f.1)

-- ---- the record is the first s bytes of r, the place of the result the first d bytes of x

module _ (s d : ℕ) (es : List Entry) (f : AllSound s d es) (r : List ℕ) (h : s ≤ length r) where
  lent : length (take s r) ≡ s
  lent = length-take-le s r h

  pub written_front : (x : List ℕ) → d ≤ length x → written es r x ≡ written es (take s r) (take d x) ++ drop d x
  written_front x g =
      let wide : length (take d x) ≡ d = length-take-le d x g in
      ap₂ (written es) (sym (take-append-drop s r)) (sym (take-append-drop d x))
      ∙ front_written es (take s r) (drop s r) (take d x) (drop d x) (rw (lent, wide) f)

  pub raised_front : raised_by es r ≡ raised_by es (take s r)
  raised_front = ap (raised_by es) (sym (take-append-drop s r)) ∙ front_raised d es (take s r) (drop s r) (rw lent f)

  pub first_front : first_by es r ≡ first_by es (take s r)
  first_front = ap (first_by es) (sym (take-append-drop s r)) ∙ front_first d es (take s r) (drop s r) (rw lent f)
