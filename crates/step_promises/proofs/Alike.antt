-- Records that come from two layouts and become the same in a third, leaf by leaf: the same bytes, the same count, and the same STOP. Which leaves obey stop is
-- seen in the third alone. Assumes nothing.
use mathlib.Core.Path.{◌≡◌, refl, sym, ap, ap₂, ◌∙◌, subst, subst₂}
use mathlib.Core.List.{List}
use mathlib.Core.Option.{Option, none, some}
use Prim.Native.Nat.{ℕ, zero, suc, ◌+◌, ◌*◌, ◌≤◌, ◌<◌}
use native.Mathlib.Nat.{le_refl}
use native.Mathlib.Omega.{arith}
use lib.IntN.{ℤ}
use lib.ListN.{length, take}
use Rattle.answer.specs.declared.Answer.{Answer}
use Rattle.answer.specs.declared.Answer.TheVariants.{Done, Stop}
use Rattle.answer.specs.declared.Given.{Given}
use Rattle.number.specs.Place.{stored}
use Rattle.datatype.specs.Datatype.{Leaf, layout_of, Datatype, size}
use Rattle.datatype.specs.Symbols.{on_some}
use Rattle.datatype.specs.Matches.{match_at}
use Rattle.datatype.specs.Matches.Match.{unmatched, matched}
use Rattle.datatype.specs.Handling.{handling_at}
use Rattle.records.specs.Leaf.{converted}
use Rattle.records.specs.Record.{Reading, with_leaf, with_leaves_below, converted_record, kind_at, given_at, raises, raised_below, first_raising, if_stop, stop_kind_at}
use Rattle.records.specs.Records.{record_at, Readings, converted_at, converted_records, exceptions}
use Rattle.records.proofs.FirstRaising.{first_lowest}
use Rattle.records.proofs.Stopping.{first_alike}
use Rattle.records.proofs.ManyRecords.{joined_alike, same_record}
use Rattle.runs.specs.Run.{or_stop, stop_from, handled}
use Rattle.step_promises.proofs.OneLeaf.{SameBits}

-- two answers that are the same, but that the numbers which STOP names need only be as R has it: the same, or whatever they are
pub data AlikeAnswers (R : Given → Given → Type 0) : Answer → Answer → Type 0 where
  equal : {a b : Answer} → a ≡ b → AlikeAnswers R a b
  stops : (i at : ℕ) {j k : ℕ} {g f : Given} → j ≡ k → R g f → AlikeAnswers R (Stop i at j g) (Stop i at k f)

-- ---- one record: f is read of a record of A, and g of one of B

-- the leaf of C at byte c is written alike and raises the same kind; where it raises one, R holds of what was given
pub record AlikeAt (R : Given → Given → Type 0) (B A C : Datatype) (g f : Reading) (c : ℕ) : Type 0 where
  pub written : (d : List ℕ) → with_leaf B C g c d ≡ with_leaf A C f c d
  pub kind : kind_at B C g c ≡ kind_at A C f c
  pub given : 1 ≤ kind_at A C f c → R (given_at B C g c) (given_at A C f c)

-- a matched leaf of a record of S
module _ (S D : Datatype) (f : Reading) (b a : ℕ) (x y : Leaf) (z : ℤ) (m : match_at S D b ≡ matched a x y) (e : f b ≡ some z) where
  leaf_written : (d : List ℕ) → with_leaf S D f b d ≡ stored (layout_of y) b (converted x y z).raw d
  unfolding with_leaf
  leaf_written d = rw (m, e)

  leaf_kind_lem : kind_at S D f b ≡ (converted x y z).kind
  unfolding kind_at
  leaf_kind_lem = rw (m, e)

  leaf_given : given_at S D f b ≡ (converted x y z).given
  unfolding given_at
  leaf_given = rw (m, e)

module _ (R : Given → Given → Type 0) (B A C : Datatype) (g f : Reading) (c : ℕ) where
  -- a leaf of C that both have is alike if its bits and its kind are
  pub both_matched : (b a : ℕ) (y x z : Leaf) (w v : ℤ) → match_at B C c ≡ matched b y z → match_at A C c ≡ matched a x z → g c ≡ some w → f c ≡ some v
      → SameBits (converted y z w) (converted x z v) → (1 ≤ (converted x z v).kind → R (converted y z w).given (converted x z v).given) → AlikeAt R B A C g f c
  both_matched b a y x z w v m n i j same given =
      record {
        written = λ d.
            leaf_written B C g c b y z w m i d ∙ ap (λ (k : ℕ). stored (layout_of z) c k d) same.raw ∙ sym (leaf_written A C f c a x z v n j d);
        kind = leaf_kind_lem B C g c b y z w m i ∙ same.kind ∙ sym (leaf_kind_lem A C f c a x z v n j);
        given = λ k.
            subst₂ R (sym (leaf_given B C g c b y z w m i)) (sym (leaf_given A C f c a x z v n j))
            (given (subst (λ (t : ℕ). 1 ≤ t) (leaf_kind_lem A C f c a x z v n j) k));
      }

  -- and so is one that neither has
  pub neither_matched : match_at B C c ≡ unmatched → match_at A C c ≡ unmatched → AlikeAt R B A C g f c
  unfolding with_leaf kind_at given_at
  neither_matched m n =
      let quiet : kind_at A C f c ≡ 0 = rw n in
      record { written = λ d. rw (m, n); kind = rw (m, n); given = λ k. absurd (omega (arith, k, quiet)) }

-- what stops a call raises
stop_raises : (h k : ℕ) → 1 ≤ if_stop h k → 1 ≤ k
stop_raises zero k l = absurd (omega arith)
stop_raises (suc h) k l = l

module _ (R : Given → Given → Type 0) (B A C : Datatype) (g f : Reading) (alike : (c : ℕ) → AlikeAt R B A C g f c) where
  below_alike : (k : ℕ) (d : List ℕ) → with_leaves_below B C g k d ≡ with_leaves_below A C f k d
  unfolding with_leaves_below
  below_alike zero d = refl
  below_alike (suc k) d = ap (with_leaf B C g k) (below_alike k d) ∙ (alike k).written (with_leaves_below A C f k d)

  raised_alike : (k : ℕ) → raised_below B C g k ≡ raised_below A C f k
  unfolding raised_below
  raised_alike zero = refl
  raised_alike (suc k) = ap₂ (λ (n j : ℕ). n + raises j) (raised_alike k) (alike k).kind

  module _ (h : ℕ) where
    stop_kind_alike : (b : ℕ) → stop_kind_at h B C g b ≡ stop_kind_at h A C f b
    unfolding stop_kind_at
    stop_kind_alike b = ap (if_stop (handling_at h C b)) (alike b).kind

    found_raises : (b : ℕ) → first_raising (stop_kind_at h A C f) 0 (size C) ≡ some b → 1 ≤ kind_at A C f b
    unfolding stop_kind_at
    found_raises b e = stop_raises (handling_at h C b) (kind_at A C f b) (first_lowest (stop_kind_at h A C f) 0 (size C) b e).raises

    -- what STOP would say of this record
    stop_alike : (i : ℕ) (later later' : Answer) → AlikeAnswers R later later' → AlikeAnswers R (or_stop h B C i g later) (or_stop h A C i f later')
    stop_alike i later later' e =
        rw (first_alike (stop_kind_at h B C g) (stop_kind_at h A C f) stop_kind_alike 0 (size C)) (go (first_raising (stop_kind_at h A C f) 0 (size C)) refl)
      where
        go : (o : Option ℕ) → first_raising (stop_kind_at h A C f) 0 (size C) ≡ o
            → AlikeAnswers R (on_some (λ b. Stop i b (kind_at B C g b) (given_at B C g b)) later o) (on_some (λ b. Stop i b (kind_at A C f b) (given_at A C f b)) later' o)
        go none q = e
        go (some b) q = AlikeAnswers.stops i b (alike b).kind ((alike b).given (found_raises b q))

-- ---- n records

module _ (R : Given → Given → Type 0) (B A C : Datatype) (gs fs : Readings) (n : ℕ) (alike : (i : ℕ) → i < n → (c : ℕ) → AlikeAt R B A C (gs i) (fs i) c) where
  exceptions_alike : (k : ℕ) → k ≤ n → exceptions B C k gs ≡ exceptions A C k fs
  unfolding exceptions
  exceptions_alike zero l = refl
  exceptions_alike (suc k) l = ap₂ (λ (i j : ℕ). i + j) (exceptions_alike k (omega arith)) (raised_alike R B A C (gs k) (fs k) (alike k l) (size C))

  stops_alike : (h : ℕ) (done done' : Answer) → AlikeAnswers R done done' → (i k : ℕ) → i + k ≤ n
      → AlikeAnswers R (stop_from h B C gs done i k) (stop_from h A C fs done' i k)
  unfolding stop_from
  stops_alike h done done' e i zero l = e
  stops_alike h done done' e i (suc k) l =
      stop_alike R B A C (gs i) (fs i) (alike i (omega arith)) h i (stop_from h B C gs done (suc i) k) (stop_from h A C fs done' (suc i) k)
      (stops_alike h done done' e (suc i) k (omega arith))

  pub handled_alike : (h : ℕ) → AlikeAnswers R (handled h B C n gs) (handled h A C n fs)
  handled_alike h =
      stops_alike h (Done (exceptions B C n gs)) (Done (exceptions A C n fs)) (AlikeAnswers.equal (ap Done (exceptions_alike n (le_refl n)))) 0 n (omega arith)

  pub converted_alike : (background background' : List ℕ) → n * size C ≤ length background → n * size C ≤ length background'
      → take (n * size C) background ≡ take (n * size C) background' → converted_records B C n gs background ≡ converted_records A C n fs background'
  converted_alike background background' room room' e =
      joined_alike (converted_at B C gs background) (converted_at A C fs background') n
      (λ i l.
      ap (converted_record B C (gs i)) (same_record (size C) n i background background' room room' e l)
      ∙ below_alike R B A C (gs i) (fs i) (alike i l) (size C) (record_at (size C) i background'))
