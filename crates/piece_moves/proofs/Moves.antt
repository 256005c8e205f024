-- Turns of the loops that move a piece of each record. Assumes nothing.
use mathlib.Core.Path.{◌≡◌, refl, sym, ap, ◌∙◌}
use mathlib.Core.Bool.{Bool, true, false, cond}
use mathlib.Core.List.{List, [], ◌++◌, append_assoc}
use Prim.Native.Nat.{ℕ, zero, suc, ◌+◌, ◌*◌, ◌-◌, ◌^◌, ◌≤◌, ◌<◌}
use native.Mathlib.Nat.{le_of_eq, mod-eq_of_lt}
use native.Mathlib.Omega.{arith}
use borrow.Rule.Slice.PartMut.{put_mid}
use borrow.Author.Tests.{ltb-true, lt-ltb}
use lib.Dec.{ltb}
use lib.ListN.{length, take, drop, length-drop, take-append-drop}
use lib.Seq.{paste, paste-zero, take-append-le, drop-append-le, drop-drop, length-take-le, length-paste}
use Rattle.bits.specs.declared.Order.{Order}
use Rattle.bits.specs.Container.{container, contained}
use Rattle.bits.proofs.Eight.{Bytes, bytes_take, bytes_drop}
use Rattle.easy.proofs.Lent.{tail_lent}
use Rattle.records.specs.Records.{record_at}
use Rattle.loops.specs.Steps.{put}
use Rattle.blocks.specs.Blocks.{each_record}
use Rattle.blocks.proofs.Columns.{by_records, record_room, Keeps, each_behind, each_at, each_same, each_each}
use Rattle.blocks.proofs.Turns.{part_front, each_next}
use Rattle.same_bytes.proofs.Digits.{bytes_same}
use Rattle.same_bytes.proofs.Pieces.{pastes_join}
use Rattle.piece_moves.specs.Pieces.{each_piece}

-- ---- one record

-- bytes that go as a number
pub number_moved : (o : Order) (n a b x : ℕ) (src dst : List ℕ) → a + n ≤ length src → Bytes src → (x ≡ container o (take n (drop a src))) × (x < 2 ^ (8 * n))
    → paste dst b (contained o n x) n ≡ paste dst b (take n (drop a src)) n
number_moved o n a b x src dst room hb is =
    ap (λ (y : List ℕ). paste dst b y n)
    (bytes_same o n x (take n (drop a src)) (bytes_take n (drop a src) (bytes_drop a src hb)) (length-take-le n (drop a src) (rw length-drop (omega arith))) (mod-eq_of_lt is.1 ∙ is.0))

put_none : (p b : ℕ) (x : List ℕ) → put p b (take b (drop p x)) x ≡ x
put_none p b x = rw (← (drop-drop b p x), take-append-drop b (drop p x)) (take-append-drop p x)

piece_long : (n a : ℕ) (r : List ℕ) → a + n ≤ length r → n ≤ length (take n (drop a r))
piece_long n a r h = le_of_eq (sym (length-take-le n (drop a r) (rw length-drop (omega arith))))

-- bytes that go as two
pub two_moved : (x r y z : List ℕ) (b a n : ℕ) → 8 ≤ n → a + n ≤ length r → b + n ≤ length x → y ≡ paste x b (take 8 (drop a r)) 8 → z ≡ paste y (b + 8) (take (n - 8) (drop (a + 8) r)) (n - 8)
    → z ≡ paste x b (take n (drop a r)) n
two_moved x r y z b a n some reads writes hy hz =
    let e : 8 + (n - 8) ≡ n = omega arith in
    hz ∙ ap (λ (l : List ℕ). paste l (b + 8) (take (n - 8) (drop (a + 8) r)) (n - 8)) hy ∙ pastes_join x b a 8 (n - 8) r (omega arith) (omega arith)
    ∙ ap (λ (k : ℕ). paste x b (take k (drop a r)) k) e

-- ---- all records

paste_front : (b n : ℕ) (bs x y : List ℕ) → b + n ≤ length x → paste (x ++ y) b bs n ≡ paste x b bs n ++ y
paste_front b n bs x y h =
    rw (take-append-le b x y (omega arith), drop-append-le (b + n) x y h) (sym (append_assoc (take b x ++ take n bs) (drop (b + n) x) y))

parted : (w i : ℕ) (l : List ℕ) → take (length l - i * w) (drop (i * w) l) ≡ record_at w i l ++ drop w (drop (i * w) l)
parted w i l = tail_lent (i * w) l ∙ sym (take-append-drop w (drop (i * w) l))

module _ (n b a s d : ℕ) (src : List ℕ) where
  -- a piece was moved in what is lent from record i on
  pub piece_turn : (i : ℕ) (dst₀ dst e : List ℕ) → i * s + s ≤ length src → i * d + d ≤ length dst → a + n ≤ s → b + n ≤ d
      → dst ≡ each_piece n b a s d src i dst₀
      → e ≡ paste (take (length dst - i * d) (drop (i * d) dst)) b (take n (drop a (take (length src - i * s) (drop (i * s) src)))) n
      → put_mid (i * d) (length dst - i * d) dst e ≡ each_piece n b a s d src (i + 1) dst₀
  piece_turn i dst₀ dst e low high reads writes h he =
      let r : List ℕ = record_at s i src in
      let x : List ℕ = record_at d i dst in
      let y : List ℕ = drop d (drop (i * d) dst) in
      let lr : length r ≡ s = length-take-le s (drop (i * s) src) (rw length-drop (omega arith)) in
      let lx : length x ≡ d = length-take-le d (drop (i * d) dst) (rw length-drop (omega arith)) in
      let piece : take n (drop a (take (length src - i * s) (drop (i * s) src))) ≡ take n (drop a r) =
      ap (λ (l : List ℕ). take n (drop a l)) (parted s i src) ∙ part_front a n r (drop s (drop (i * s) src)) (rw lr reads) in
      let made : e ≡ paste x b (take n (drop a r)) n ++ y =
      he ∙ ap (λ (l : List ℕ). paste (take (length dst - i * d) (drop (i * d) dst)) b l n) piece ∙ ap (λ (l : List ℕ). paste l b (take n (drop a r)) n) (parted d i dst) ∙ paste_front b n (take n (drop a r)) x y (rw lx writes) in
      each_next (λ j z. paste z b (take n (drop a (record_at s j src))) n) d i dst₀ dst e h made

-- ---- records of d bytes made alike

abbrev KeepsTo : (ℕ → List ℕ → List ℕ) → ℕ → ℕ → Type 0
KeepsTo f d k = (i : ℕ) → i < k → (x : List ℕ) → length x ≡ d → length (f i x) ≡ d

-- f in the first k records, and no change in later ones
abbrev up_to : ℕ → (ℕ → List ℕ → List ℕ) → ℕ → List ℕ → List ℕ
up_to k f i x = cond (ltb i k) (f i x) x

up_to_here : (k : ℕ) (f : ℕ → List ℕ → List ℕ) (i : ℕ) → i < k → (x : List ℕ) → f i x ≡ up_to k f i x
up_to_here k f i h x = rw (lt-ltb i k h)

up_to_keeps : (k d : ℕ) (f : ℕ → List ℕ → List ℕ) → KeepsTo f d k → Keeps (up_to k f) d
up_to_keeps k d f h i x e = go (ltb i k) refl
  where
    go : (t : Bool) → ltb i k ≡ t → length (cond t (f i x) x) ≡ d
    go true q = h i (ltb-true i k q) x e
    go false q = e

module _ (f g : ℕ → List ℕ → List ℕ) (d k : ℕ) (dst : List ℕ) (kf : KeepsTo f d k) (kg : KeepsTo g d k) (room : k * d ≤ length dst) where
  pub each_alike : ((i : ℕ) → i < k → (x : List ℕ) → length x ≡ d → f i x ≡ g i x) → each_record f d k dst ≡ each_record g d k dst
  each_alike h =
      let KF : Keeps (up_to k f) d = up_to_keeps k d f kf in
      let KG : Keeps (up_to k g) d = up_to_keeps k d g kg in
      each_same f (up_to k f) d k dst (up_to_here k f)
      ∙ by_records d k (each_record (up_to k f) d k dst) (each_record (up_to k g) d k dst)
      (λ j l. each_at (up_to k f) d KF dst k room j l ∙ sym (up_to_here k f j l (record_at d j dst)) ∙ h j l (record_at d j dst) (record_room d k j dst l room)
      ∙ up_to_here k g j l (record_at d j dst) ∙ sym (each_at (up_to k g) d KG dst k room j l))
      (each_behind (up_to k f) d KF dst k room ∙ sym (each_behind (up_to k g) d KG dst k room))
      ∙ sym (each_same g (up_to k g) d k dst (up_to_here k g))

  -- one after the other
  both : each_record g d k (each_record f d k dst) ≡ each_record (λ i x. up_to k g i (up_to k f i x)) d k dst
  both =
      ap (λ (l : List ℕ). each_record g d k l) (each_same f (up_to k f) d k dst (up_to_here k f))
      ∙ each_same g (up_to k g) d k (each_record (up_to k f) d k dst) (up_to_here k g)
      ∙ each_each (up_to k f) (up_to k g) d k dst (up_to_keeps k d f kf) (up_to_keeps k d g kg) room

module _ (f g h : ℕ → List ℕ → List ℕ) (d k : ℕ) (dst : List ℕ) (kf : KeepsTo f d k) (kg : KeepsTo g d k) (room : k * d ≤ length dst) where
  pub each_join : ((i : ℕ) → i < k → (x : List ℕ) → length x ≡ d → g i (f i x) ≡ h i x) → each_record g d k (each_record f d k dst) ≡ each_record h d k dst
  each_join e =
      let kh : KeepsTo h d k = λ i l x q. ap length (sym (e i l x q)) ∙ kg i l (f i x) (kf i l x q) in
      let kb : KeepsTo (λ i x. up_to k g i (up_to k f i x)) d k = λ i l x q. up_to_keeps k d g kg i (up_to k f i x) (up_to_keeps k d f kf i x q) in
      both f g d k dst kf kg room
      ∙ each_alike (λ i x. up_to k g i (up_to k f i x)) h d k dst kb kh room
      (λ i l x q. sym (up_to_here k g i l (up_to k f i x)) ∙ ap (g i) (sym (up_to_here k f i l x)) ∙ e i l x q)

-- ---- a piece of each record, and the one that adjoins it

module _ (s d : ℕ) (src : List ℕ) (k : ℕ) (held : k * s ≤ length src) where
  record_held : (i : ℕ) → i < k → length (record_at s i src) ≡ s
  record_held i h = record_room s k i src h held

  pub piece_keeps : (n b a : ℕ) → a + n ≤ s → b + n ≤ d → (i : ℕ) → i < k → (x : List ℕ) → length x ≡ d → length (paste x b (take n (drop a (record_at s i src))) n) ≡ d
  piece_keeps n b a reads writes i h x e =
      let r : List ℕ = record_at s i src in
      length-paste x b (take n (drop a r)) n (rw e writes) (piece_long n a r (rw (record_held i h) reads)) ∙ e

  pub pieces_join : (m n b a : ℕ) (dst : List ℕ) → k * d ≤ length dst → a + (m + n) ≤ s → b + (m + n) ≤ d
      → each_piece n (b + m) (a + m) s d src k (each_piece m b a s d src k dst) ≡ each_piece (m + n) b a s d src k dst
  pieces_join m n b a dst room reads writes =
      each_join (λ i x. paste x b (take m (drop a (record_at s i src))) m) (λ i x. paste x (b + m) (take n (drop (a + m) (record_at s i src))) n)
      (λ i x. paste x b (take (m + n) (drop a (record_at s i src))) (m + n)) d k dst (piece_keeps m b a (omega arith) (omega arith)) (piece_keeps n (b + m) (a + m) (omega arith) (omega arith)) room
      (λ i h x e. pastes_join x b a m n (record_at s i src) (rw (record_held i h) reads) (rw e writes))

-- none yet
pub piece_none : (b a s d : ℕ) (src : List ℕ) (k : ℕ) (dst : List ℕ) → dst ≡ each_piece 0 b a s d src k dst
unfolding each_record
piece_none b a s d src zero dst = refl
piece_none b a s d src (suc k) dst =
    let was : List ℕ = each_piece 0 b a s d src k dst in
    let x : List ℕ = record_at d k dst in
    rw (← (piece_none b a s d src k dst), ← (paste-zero x b [])) (sym (put_none (k * d) d dst))

-- the bytes by a constant
pub by_constant : (m n b a s d : ℕ) (src : List ℕ) (k : ℕ) (dst : List ℕ) {out : List ℕ} → n ≡ m → out ≡ each_piece m b a s d src k dst → out ≡ each_piece n b a s d src k dst
by_constant m n b a s d src k dst e h = rw e h
