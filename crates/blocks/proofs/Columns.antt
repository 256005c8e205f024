-- Columns one after the other make of each record what the plan makes of it. Assumes nothing.
use mathlib.Core.Path.{◌≡◌, refl, sym, ap, ◌∙◌}
use mathlib.Core.Logic.{⊎_elim}
use mathlib.Core.List.{List, [], ◌∷◌, ◌++◌}
use Prim.Native.Nat.{ℕ, zero, suc, ◌+◌, ◌*◌, ◌≤◌, ◌<◌}
use native.Mathlib.Nat.{eq-or-lt_of_le, le_of_suc-le-suc, suc-mul, zero-mul, add-mul}
use native.Mathlib.Omega.{arith}
use lib.ListN.{length, take, drop, length-drop, length-append, take-append-drop}
use lib.Seq.{take-add, drop-drop, take-append-le, drop-append-le, length-take-le}
use Rattle.number.proofs.RoundTrip.{stored_length}
use Rattle.datatype.specs.Datatype.{layout_of}
use Rattle.records.specs.Record.{raises}
use Rattle.records.specs.Records.{record_at}
use Rattle.records.specs.Plan.{Entry, becomes, written, raised_by, AllSound}
use Rattle.loops.specs.Steps.{put}
use Rattle.blocks.specs.Blocks.{each_record, leaf_in, each_entry, each_of, sum_to, raised_each, raised_over}
use Rattle.loops.proofs.Lists.{row_within, drop_agree, part_agree, whole_agree, put_length, put_take, put_drop, put_here}

-- ---- buffers by their records

-- buffers whose first k records are the same, and what comes behind, are the same
pub fronts : (d k : ℕ) (x y : List ℕ) → ((j : ℕ) → j < k → record_at d j x ≡ record_at d j y) → take (k * d) x ≡ take (k * d) y
fronts d zero x y h = rw zero-mul
fronts d (suc k) x y h = rw (suc-mul, take-add (k * d) d x, take-add (k * d) d y, fronts d k x y (λ j l. h j (omega arith)), h k (omega arith))

pub by_records : (d k : ℕ) (x y : List ℕ) → ((j : ℕ) → j < k → record_at d j x ≡ record_at d j y) → drop (k * d) x ≡ drop (k * d) y → x ≡ y
by_records d k x y h e = whole_agree (k * d) x y (fronts d k x y h) e

-- record j, where it is one of the first k
pub record_front : (w k j : ℕ) (p q : List ℕ) → j < k → k * w ≤ length p → record_at w j (p ++ q) ≡ record_at w j p
record_front w k j p q h room =
    let row : j * w + w ≤ k * w = row_within w h in
    rw (drop-append-le (j * w) p q (omega arith), take-append-le w (drop (j * w) p) q (rw length-drop (omega arith)))

pub record_of : (w k j : ℕ) (l : List ℕ) → j < k → k * w ≤ length l → record_at w j (take (k * w) l) ≡ record_at w j l
record_of w k j l h room =
    let long : length (take (k * w) l) ≡ k * w = length-take-le (k * w) l room in
    sym (ap (record_at w j) (sym (take-append-drop (k * w) l)) ∙ record_front w k j (take (k * w) l) (drop (k * w) l) h (omega arith))

-- record j of what begins at record i
pub record_shift : (w i j : ℕ) (l : List ℕ) → record_at w j (drop (i * w) l) ≡ record_at w (i + j) l
record_shift w i j l = rw (drop-drop (j * w) (i * w) l, ← (add-mul i j w))

pub record_room : (d k j : ℕ) (l : List ℕ) → j < k → k * d ≤ length l → length (record_at d j l) ≡ d
record_room d k j l h room = length-take-le d (drop (j * d) l) (rw length-drop (omega (arith, row_within d h)))

-- ---- records made anew

-- it makes a record of d bytes of one
abbrev pub Keeps : (ℕ → List ℕ → List ℕ) → ℕ → Type 0
Keeps f d = (i : ℕ) (x : List ℕ) → length x ≡ d → length (f i x) ≡ d

module _ (f : ℕ → List ℕ → List ℕ) (d : ℕ) (keeps : Keeps f d) (dst : List ℕ) where
  pub each_length : (k : ℕ) → k * d ≤ length dst → length (each_record f d k dst) ≡ length dst
  unfolding each_record
  each_length zero room = refl
  each_length (suc k) room =
      let next : suc k * d ≡ k * d + d = suc-mul k d in
      let was : List ℕ = each_record f d k dst in
      let same : length was ≡ length dst = each_length k (omega arith) in
      put_length (k * d) d (f k (record_at d k was)) was (omega arith) (keeps k (record_at d k was) (record_room d (suc k) k was (omega arith) (omega arith))) ∙ same

  -- from record k on all is as it was
  pub each_behind : (k : ℕ) → k * d ≤ length dst → drop (k * d) (each_record f d k dst) ≡ drop (k * d) dst
  unfolding each_record
  each_behind zero room = refl
  each_behind (suc k) room =
      let next : suc k * d ≡ k * d + d = suc-mul k d in
      let was : List ℕ = each_record f d k dst in
      let same : length was ≡ length dst = each_length k (omega arith) in
      put_drop (k * d) d (f k (record_at d k was)) was (omega arith) (keeps k (record_at d k was) (record_room d (suc k) k was (omega arith) (omega arith))) (suc k * d) (omega arith)
      ∙ drop_agree (k * d) (suc k * d) was dst (omega arith) (each_behind k (omega arith))

  pub each_at : (k : ℕ) → k * d ≤ length dst → (j : ℕ) → j < k → record_at d j (each_record f d k dst) ≡ f j (record_at d j dst)
  unfolding each_record
  each_at zero room j h = absurd (omega arith)
  each_at (suc k) room j h =
      let next : suc k * d ≡ k * d + d = suc-mul k d in
      let low : k * d ≤ length dst = omega arith in
      let was : List ℕ = each_record f d k dst in
      let same : length was ≡ length dst = each_length k low in
      let fits : k * d + d ≤ length was = omega arith in
      let r : List ℕ = f k (record_at d k was) in
      let lr : length r ≡ d = keeps k (record_at d k was) (record_room d (suc k) k was (omega arith) (omega arith)) in
      ⊎_elim
      (λ (e : j ≡ k). rw e (put_here (k * d) d r was fits lr ∙ ap (λ (x : List ℕ). f k (take d x)) (each_behind k low)))
      (λ (l : j < k).
      let within : j * d + d ≤ k * d = row_within d l in
      let long : length (put (k * d) d r was) ≡ length was = put_length (k * d) d r was fits lr in
      part_agree (j * d) d (put (k * d) d r was) was (omega arith) (omega arith) (put_take (k * d) d r was fits lr (j * d + d) within) ∙ each_at k low j l)
      (eq-or-lt_of_le (le_of_suc-le-suc h))

-- records made alike
pub each_same : (f g : ℕ → List ℕ → List ℕ) (d k : ℕ) (dst : List ℕ) → ((i : ℕ) → i < k → (x : List ℕ) → f i x ≡ g i x) → each_record f d k dst ≡ each_record g d k dst
unfolding each_record
each_same f g d zero dst h = refl
each_same f g d (suc k) dst h =
    rw (each_same f g d k dst (λ i l. h i (omega arith)), h k (omega arith) (record_at d k (each_record g d k dst)))

-- one after the other is both at once
pub each_each : (f g : ℕ → List ℕ → List ℕ) (d k : ℕ) (dst : List ℕ) → Keeps f d → Keeps g d → k * d ≤ length dst
    → each_record g d k (each_record f d k dst) ≡ each_record (λ i x. g i (f i x)) d k dst
each_each f g d k dst kf kg room =
    let mid : List ℕ = each_record f d k dst in
    let same : length mid ≡ length dst = each_length f d kf dst k room in
    let high : k * d ≤ length mid = omega arith in
    let kb : Keeps (λ i x. g i (f i x)) d = λ i x h. kg i (f i x) (kf i x h) in
    by_records d k (each_record g d k mid) (each_record (λ i x. g i (f i x)) d k dst)
    (λ j h. each_at g d kg mid k high j h ∙ ap (g j) (each_at f d kf dst k room j h) ∙ sym (each_at (λ i x. g i (f i x)) d kb dst k room j h))
    (each_behind g d kg mid k high ∙ each_behind f d kf dst k room ∙ sym (each_behind (λ i x. g i (f i x)) d kb dst k room))

each_none : (d k : ℕ) (dst : List ℕ) → k * d ≤ length dst → dst ≡ each_record (λ i x. x) d k dst
each_none d k dst room =
    let keep : Keeps (λ i x. x) d = λ i x h. h in
    by_records d k dst (each_record (λ i x. x) d k dst) (λ j h. sym (each_at (λ i x. x) d keep dst k room j h)) (sym (each_behind (λ i x. x) d keep dst k room))

-- ---- the entries of a plan

pub written_length : (s d : ℕ) (es : List Entry) (r x : List ℕ) → AllSound s d es → length x ≡ d → length (written es r x) ≡ d
unfolding written
written_length s d [] r x f h = h
written_length s d (e ∷ es) r x f h =
    written_length s d es r (leaf_in e r x) f.1 (stored_length (layout_of e.destination) e.to (becomes e r).raw x (rw h f.0.write) ∙ h)

module _ (s d : ℕ) (src : List ℕ) (k : ℕ) where
  pub columns_each : (es : List Entry) (dst : List ℕ) → AllSound s d es → k * d ≤ length dst
      → each_of es s d src k dst ≡ each_record (λ i x. written es (record_at s i src) x) d k dst
  unfolding each_of written
  columns_each [] dst f room = each_none d k dst room
  columns_each (e ∷ es) dst f room =
      let one : Keeps (λ i x. leaf_in e (record_at s i src) x) d =
      λ i x h. stored_length (layout_of e.destination) e.to (becomes e (record_at s i src)).raw x (rw h f.0.write) ∙ h in
      let rest : Keeps (λ i x. written es (record_at s i src) x) d = λ i x h. written_length s d es (record_at s i src) x f.1 h in
      let same : length (each_entry e s d src k dst) ≡ length dst = each_length (λ i x. leaf_in e (record_at s i src) x) d one dst k room in
      columns_each es (each_entry e s d src k dst) f.1 (omega arith)
      ∙ each_each (λ i x. leaf_in e (record_at s i src) x) (λ i x. written es (record_at s i src) x) d k dst one rest room

  module _ (es : List Entry) (dst : List ℕ) (f : AllSound s d es) (room : k * d ≤ length dst) where
    keeps : Keeps (λ i x. written es (record_at s i src) x) d
    keeps i x h = written_length s d es (record_at s i src) x f h

    -- after the columns of all entries record i is written by them
    pub columns_written : (i : ℕ) → i < k → record_at d i (each_of es s d src k dst) ≡ written es (record_at s i src) (record_at d i dst)
    columns_written i h = rw (columns_each es dst f room) (each_at (λ i x. written es (record_at s i src) x) d keeps dst k room i h)

    pub columns_behind : drop (k * d) (each_of es s d src k dst) ≡ drop (k * d) dst
    columns_behind = rw (columns_each es dst f room) (each_behind (λ i x. written es (record_at s i src) x) d keeps dst k room)

    pub columns_length : length (each_of es s d src k dst) ≡ length dst
    columns_length = rw (columns_each es dst f room) (each_length (λ i x. written es (record_at s i src) x) d keeps dst k room)

-- ---- the first j of them

pub sound_take : (s d j : ℕ) (es : List Entry) → AllSound s d es → AllSound s d (take j es)
sound_take s d zero es f = tt
sound_take s d (suc j) [] f = tt
sound_take s d (suc j) (e ∷ es) f = (f.0, sound_take s d j es f.1)

pub columns_first : (s d : ℕ) (src : List ℕ) (k : ℕ) (es : List Entry) (dst : List ℕ) → AllSound s d es → k * d ≤ length dst
    → (j i : ℕ) → i < k → record_at d i (each_of (take j es) s d src k dst) ≡ written (take j es) (record_at s i src) (record_at d i dst)
columns_first s d src k es dst f room j i h = columns_written s d src k (take j es) dst (sound_take s d j es f) room i h

-- ---- sums

pub sum_same : (f g : ℕ → ℕ) (k : ℕ) → ((i : ℕ) → i < k → f i ≡ g i) → sum_to f k ≡ sum_to g k
unfolding sum_to
sum_same f g zero h = refl
sum_same f g (suc k) h = rw (sum_same f g k (λ i l. h i (omega arith)), h k (omega arith))

sum_add : (f g : ℕ → ℕ) (k : ℕ) → sum_to f k + sum_to g k ≡ sum_to (λ i. f i + g i) k
unfolding sum_to
sum_add f g zero = refl
sum_add f g (suc k) = rw (← (sum_add f g k)) (omega arith)

sum_none : (k : ℕ) → 0 ≡ sum_to (λ i. 0) k
unfolding sum_to
sum_none zero = refl
sum_none (suc k) = rw (← (sum_none k)) (omega arith)

-- ---- exceptions

-- counted by columns they are as many as counted by records
pub columns_raised : (s : ℕ) (src : List ℕ) (k : ℕ) (es : List Entry) → raised_over es s src k ≡ sum_to (λ i. raised_by es (record_at s i src)) k
unfolding raised_over raised_by
columns_raised s src k [] = sum_none k
columns_raised s src k (e ∷ es) =
    ap (λ (x : ℕ). raised_each e s src k + x) (columns_raised s src k es)
    ∙ sum_add (λ i. raises (becomes e (record_at s i src)).kind) (λ i. raised_by es (record_at s i src)) k

-- ---- k records of the source and k of the destination are all that columns need

module _ (s d k : ℕ) (es : List Entry) (f : AllSound s d es) where
  pub columns_append : (src p q : List ℕ) → k * d ≤ length p → each_of es s d src k (p ++ q) ≡ each_of es s d src k p ++ q
  columns_append src p q room =
      let out : List ℕ = each_of es s d src k p in
      let more : k * d ≤ length (p ++ q) = rw length-append (omega arith) in
      let same : length out ≡ length p = columns_length s d src k es p f room in
      let high : k * d ≤ length out = omega arith in
      by_records d k (each_of es s d src k (p ++ q)) (out ++ q)
      (λ j h. columns_written s d src k es (p ++ q) f more j h ∙ ap (written es (record_at s j src)) (record_front d k j p q h room)
      ∙ sym (record_front d k j out q h high ∙ columns_written s d src k es p f room j h))
      (columns_behind s d src k es (p ++ q) f more ∙ drop-append-le (k * d) p q room
      ∙ sym (drop-append-le (k * d) out q high ∙ ap (λ (x : List ℕ). x ++ q) (columns_behind s d src k es p f room)))

  -- sources whose first k records are the same
  module _ (x y : List ℕ) (same : (j : ℕ) → j < k → record_at s j x ≡ record_at s j y) where
    pub columns_alike : (dst : List ℕ) → k * d ≤ length dst → each_of es s d x k dst ≡ each_of es s d y k dst
    columns_alike dst room =
        columns_each s d x k es dst f room
        ∙ each_same (λ i z. written es (record_at s i x) z) (λ i z. written es (record_at s i y) z) d k dst (λ i h z. ap (λ (r : List ℕ). written es r z) (same i h))
        ∙ sym (columns_each s d y k es dst f room)

    pub raised_alike : raised_over es s x k ≡ raised_over es s y k
    raised_alike =
        columns_raised s x k es
        ∙ sum_same (λ i. raised_by es (record_at s i x)) (λ i. raised_by es (record_at s i y)) k (λ i h. ap (raised_by es) (same i h))
        ∙ sym (columns_raised s y k es)
