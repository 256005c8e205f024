-- Entries that are moved by so many bytes write and read one part of the record, as they do in their own place. Assumes nothing.
use mathlib.Core.Path.{◌≡◌, refl, sym, ap, ◌∙◌}
use mathlib.Core.List.{List, [], ◌∷◌, ◌++◌, append_assoc}
use Prim.Native.Nat.{ℕ, ◌+◌, ◌≤◌}
use native.Mathlib.Omega.{arith}
use lib.ListN.{length, take, drop, length-drop, take-append-drop}
use lib.Seq.{take-add, take-take, drop-drop, drop-append-le, length-take-le}
use Rattle.layout.specs.declared.Layout.{Layout}
use Rattle.bits.specs.Container.{container, contained, field}
use Rattle.number.specs.Number.{valued}
use Rattle.number.specs.Place.{filled, place, stored}
use Rattle.number.proofs.RoundTrip.{stored_length}
use Rattle.datatype.specs.Datatype.{layout_of, leaf_size}
use Rattle.records.specs.Leaf.{converted}
use Rattle.records.specs.Plan.{Entry, becomes, written, raised_by, AllSound}
use Rattle.loops.specs.Steps.{put}
use Rattle.loops.proofs.Lists.{put_length, put_here, put_put}
use Rattle.loops.proofs.Fronts.{place_front}
use Rattle.blocks.specs.Blocks.{leaf_in}

-- ---- one place: byte i of the b bytes from p on

module _ (l : Layout) (i p b : ℕ) (x : List ℕ) (h : i + l.size.0 ≤ b) (fits : p + b ≤ length x) where
  long : length (take b (drop p x)) ≡ b
  long = length-take-le b (drop p x) (rw length-drop (omega arith))

  pub place_within : place l (i + p) x ≡ place l i (take b (drop p x))
  place_within =
      let e : i + p ≡ p + i = omega arith in
      rw (e, ← (drop-drop i p x))
      (ap (place l i) (sym (take-append-drop b (drop p x))) ∙ place_front l i (take b (drop p x)) (drop b (drop p x)) (rw long h))

  before : take (i + p) x ≡ take p x ++ take i (take b (drop p x))
  before = let e : i + p ≡ p + i = omega arith in rw (e, take-add p i x, take-take i b (drop p x) (omega arith))

  behind : drop (i + p + l.size.0) x ≡ drop (i + l.size.0) (take b (drop p x)) ++ drop (p + b) x
  behind =
      let e : i + p + l.size.0 ≡ p + (i + l.size.0) = omega arith in
      rw (e, ← (drop-drop (i + l.size.0) p x), ← (drop-drop b p x))
      (ap (drop (i + l.size.0)) (sym (take-append-drop b (drop p x)))
      ∙ drop-append-le (i + l.size.0) (take b (drop p x)) (drop b (drop p x)) (rw long h))

  pub stored_within : (r : ℕ) → stored l (i + p) r x ≡ put p b (stored l i r (take b (drop p x))) x
  stored_within r =
      let y : List ℕ = take b (drop p x) in
      let v : List ℕ = take l.size.0 (contained l.order l.size.0 (filled l (container l.order (place l i y)) r)) in
      rw (place_within, before, behind) (joins (take p x) (take i y) v (drop (i + l.size.0) y) (drop (p + b) x))
    where
      joins : (s t u v w : List ℕ) → ((s ++ t) ++ u) ++ (v ++ w) ≡ s ++ (((t ++ u) ++ v) ++ w)
      joins s t u v w = simp append_assoc

-- ---- one entry, moved

abbrev pub moved : ℕ → ℕ → Entry → Entry
moved p t e = record { to = e.to + p; from = e.from + t; source = e.source; destination = e.destination }

unfoldable pub moved_all : ℕ → ℕ → List Entry → List Entry
moved_all p t [] = []
moved_all p t (e ∷ es) = moved p t e ∷ moved_all p t es

becomes_within : (p t a : ℕ) (e : Entry) (r : List ℕ) → e.from + leaf_size e.source ≤ a → t + a ≤ length r → becomes (moved p t e) r ≡ becomes e (take a (drop t r))
becomes_within p t a e r h fits =
    let l : Layout = layout_of e.source in
    ap (λ (b : List ℕ). converted e.source e.destination (valued l.signed l.precision (field l.offset.0 l.precision (container l.order b))))
    (place_within l e.from t a r h fits)

-- ---- all entries

put_none : (p b : ℕ) (x : List ℕ) → x ≡ put p b (take b (drop p x)) x
put_none p b x = sym (rw (← (drop-drop b p x), take-append-drop b (drop p x)) (take-append-drop p x))

module _ (a b p t : ℕ) (r : List ℕ) (reads : t + a ≤ length r) where
  pub shifted_written : (es : List Entry) → AllSound a b es → (x : List ℕ) → p + b ≤ length x
      → written (moved_all p t es) r x ≡ put p b (written es (take a (drop t r)) (take b (drop p x))) x
  unfolding written moved_all
  shifted_written [] f x fits = put_none p b x
  shifted_written (e ∷ es) f x fits =
      let l : Layout = layout_of e.destination in
      let part : List ℕ = take a (drop t r) in
      let y : List ℕ = take b (drop p x) in
      let z : List ℕ = leaf_in e part y in
      let ly : length y ≡ b = length-take-le b (drop p x) (rw length-drop (omega arith)) in
      let lz : length z ≡ b = stored_length l e.to (becomes e part).raw y (rw ly f.0.write) ∙ ly in
      let lx : length (put p b z x) ≡ length x = put_length p b z x fits lz in
      let one : stored l (e.to + p) (becomes (moved p t e) r).raw x ≡ put p b z x =
      rw (becomes_within p t a e r f.0.read reads) (stored_within l e.to p b x f.0.write fits (becomes e part).raw) in
      ap (λ (q : List ℕ). written (moved_all p t es) r q) one
      ∙ shifted_written es f.1 (put p b z x) (omega arith)
      ∙ ap (λ (q : List ℕ). put p b (written es part q) (put p b z x)) (put_here p b z x fits lz)
      ∙ put_put p b z x fits lz (written es part z)

  pub shifted_raised : (es : List Entry) → AllSound a b es → raised_by (moved_all p t es) r ≡ raised_by es (take a (drop t r))
  unfolding raised_by moved_all
  shifted_raised [] f = refl
  shifted_raised (e ∷ es) f = rw (becomes_within p t a e r f.0.read reads, shifted_raised es f.1)
