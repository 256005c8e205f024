-- n records: equal readings, equal bytes, and the way back. Assumes nothing.
use mathlib.Core.Path.{◌≡◌, refl, sym, ap, ap₂, ◌∙◌}
use mathlib.Core.Logic.{⊎_elim}
use mathlib.Core.Bool.{true}
use mathlib.Core.List.{List, [], ◌++◌, append_assoc}
use Prim.Native.Nat.{ℕ, zero, suc, ◌+◌, ◌*◌, ◌≤◌, ◌<◌}
use native.Mathlib.Nat.{le_refl, zero-mul, suc-mul, mul-le-mul_right, eq-or-lt_of_le, le_of_suc-le-suc, not-suc-le-zero}
use native.Mathlib.Omega.{arith}
use lib.ListN.{length, take, drop, length-append, length-drop, take-append-drop}
use lib.Seq.{take_at, drop_at, length-take-le, take-append-le, drop-append-le}
use Rattle.datatype.specs.Datatype.{Datatype, size}
use Rattle.datatype.specs.Paths.{has_path}
use Rattle.datatype.specs.WellFormed.{WellFormed}
use Rattle.records.specs.Leaf.{number_in}
use Rattle.records.specs.Record.{Reading, converted_record, raised_below}
use Rattle.records.specs.Records.{record_at, joined, Readings, readings, converted_at, converted_records, exceptions}
use Rattle.records.specs.Matched.{Agree}
use Rattle.records.proofs.OneRecord.{length_below, reading_by, back_quiet, back_same, converted_apart}

-- ---- records of one length

abbrev Sized : (ℕ → List ℕ) → ℕ → ℕ → Type 0
Sized f w n = (i : ℕ) → i < n → length (f i) ≡ w

module _ (f : ℕ → List ℕ) (w : ℕ) where
  length_joined : (n : ℕ) → Sized f w n → length (joined f n) ≡ n * w
  unfolding joined
  length_joined zero h = sym (zero-mul w)
  length_joined (suc n) h = rw (length-append, length_joined n (λ i k. h i (omega arith)), h n (le_refl (suc n)), suc-mul)

  joined_at : (n i : ℕ) (t : List ℕ) → Sized f w n → i < n → record_at w i (joined f n ++ t) ≡ f i
  unfolding joined
  joined_at zero i t h k = absurd (not-suc-le-zero k)
  joined_at (suc n) i t h k =
      let below : Sized f w n = λ j l. h j (omega arith) in
      rw append_assoc
      (⊎_elim
      (λ (e : i ≡ n). rw (e, drop_at (joined f n) (f n ++ t) (n * w) (length_joined n below)) (take_at (f n) t w (h n (le_refl (suc n)))))
      (λ l. joined_at n i (f n ++ t) below l)
      (eq-or-lt_of_le (le_of_suc-le-suc k)))

pub joined_alike : (f g : ℕ → List ℕ) (n : ℕ) → ((i : ℕ) → i < n → f i ≡ g i) → joined f n ≡ joined g n
unfolding joined
joined_alike f g zero h = refl
joined_alike f g (suc n) h = rw (joined_alike f g n (λ i k. h i (omega arith)), h n (le_refl (suc n)))

-- record i ends inside n records
record_end : (w n i : ℕ) → i < n → i * w + w ≤ n * w
record_end w n i h = rw suc-mul at (mul-le-mul_right w h)

pub record_length : (w n i : ℕ) (buffer : List ℕ) → n * w ≤ length buffer → i < n → length (record_at w i buffer) ≡ w
record_length w n i buffer room h = length-take-le w (drop (i * w) buffer) (rw length-drop (omega (arith, record_end w n i h)))

-- the first n records are all that a record below n is read from
record_front : (w n i : ℕ) (p q : List ℕ) → length p ≡ n * w → i < n → record_at w i (p ++ q) ≡ record_at w i p
record_front w n i p q e h =
    let l : i * w + w ≤ n * w = record_end w n i h in
    rw (drop-append-le (i * w) p q (omega arith), take-append-le w (drop (i * w) p) q (rw length-drop (omega arith)))

pub same_record : (w n i : ℕ) (x y : List ℕ) → n * w ≤ length x → n * w ≤ length y → take (n * w) x ≡ take (n * w) y → i < n → record_at w i x ≡ record_at w i y
same_record w n i x y hx hy e h =
    ap (record_at w i) (sym (take-append-drop (n * w) x)) ∙ record_front w n i (take (n * w) x) (drop (n * w) x) (length-take-le (n * w) x hx) h
    ∙ ap (record_at w i) e
    ∙ sym (ap (record_at w i) (sym (take-append-drop (n * w) y)) ∙ record_front w n i (take (n * w) y) (drop (n * w) y) (length-take-le (n * w) y hy) h)

-- ---- exceptions

pub none_in : (S D : Datatype) (n : ℕ) (fs : Readings) → exceptions S D n fs ≡ 0 → (i : ℕ) → i < n → raised_below S D (fs i) (size D) ≡ 0
unfolding exceptions
none_in S D zero fs e i l = absurd (not-suc-le-zero l)
none_in S D (suc n) fs e i l =
    ⊎_elim (λ (q : i ≡ n). rw q (omega (arith, e))) (λ (q : i < n). none_in S D n fs (omega (arith, e)) i q) (eq-or-lt_of_le (le_of_suc-le-suc l))

pub in_none : (S D : Datatype) (n : ℕ) (fs : Readings) → ((i : ℕ) → i < n → raised_below S D (fs i) (size D) ≡ 0) → exceptions S D n fs ≡ 0
unfolding exceptions
in_none S D zero fs h = refl
in_none S D (suc n) fs h = rw (in_none S D n fs (λ i l. h i (omega arith)), h n (le_refl (suc n)))

-- ---- what is made turns on the readings and the background alone

pub agree_readings : (S D : Datatype) (n : ℕ) (p q : List ℕ) → Agree S D n p q → (i : ℕ) → i < n → readings S D p i ≡ readings S D q i
agree_readings S D n p q h i l = reading_by S D (record_at (size S) i p) (record_at (size S) i q) (λ b a x y m. h (record { index = i; from = a; to = b; source = x; destination = y; in_records_lem = l; match = m }))

pub same_exceptions : (S D : Datatype) (n : ℕ) (fs gs : Readings) → ((i : ℕ) → i < n → fs i ≡ gs i) → exceptions S D n fs ≡ exceptions S D n gs
unfolding exceptions
same_exceptions S D zero fs gs h = refl
same_exceptions S D (suc n) fs gs h = rw (same_exceptions S D n fs gs (λ i l. h i (omega arith)), h n (le_refl (suc n)))

pub same_converted : (S D : Datatype) (n : ℕ) (fs gs : Readings) (background background' : List ℕ) → n * size D ≤ length background → n * size D ≤ length background'
    → take (n * size D) background ≡ take (n * size D) background' → ((i : ℕ) → i < n → fs i ≡ gs i) → converted_records S D n fs background ≡ converted_records S D n gs background'
same_converted S D n fs gs background background' room room' e h =
    joined_alike (converted_at S D fs background) (converted_at S D gs background') n
    (λ i l. ap₂ (λ (f : Reading) (r : List ℕ). converted_record S D f r) (h i l) (same_record (size D) n i background background' room room' e l))

-- ---- lengths and places of what is made

module _ (S D : Datatype) (fs : WellFormed S) (fd : WellFormed D) (n : ℕ) (rs : Readings) (background : List ℕ) (room : n * size D ≤ length background) where
  converted_sized : Sized (converted_at S D rs background) (size D) n
  converted_sized i h = length_below S D fs fd (rs i) (size D) (record_at (size D) i background) (record_length (size D) n i background room h)

  pub converted_length : length (converted_records S D n rs background) ≡ n * size D
  converted_length = length_joined (converted_at S D rs background) (size D) n converted_sized

  pub converted_at_lem : (i : ℕ) (t : List ℕ) → i < n → record_at (size D) i (converted_records S D n rs background ++ t) ≡ converted_at S D rs background i
  converted_at_lem i t h = joined_at (converted_at S D rs background) (size D) n i t converted_sized h

  -- record i of a buffer that begins with what was made
  pub converted_in : (i : ℕ) (out : List ℕ) → take (n * size D) out ≡ converted_records S D n rs background → i < n → record_at (size D) i out ≡ converted_at S D rs background i
  converted_in i out e h =
      ap (record_at (size D) i) (sym (take-append-drop (n * size D) out) ∙ ap (λ (l : List ℕ). l ++ drop (n * size D) out) e) ∙ converted_at_lem i (drop (n * size D) out) h

-- ---- the laws

module _ (S D : Datatype) (fs : WellFormed S) (fd : WellFormed D) (path : has_path S D ≡ true) (n : ℕ) where
  -- two conversions that raised nothing and made the same bytes read the same matched numbers
  pub same_bytes : (source source' background background' : List ℕ) → n * size D ≤ length background → n * size D ≤ length background'
      → exceptions S D n (readings S D source) ≡ 0 → exceptions S D n (readings S D source') ≡ 0
      → converted_records S D n (readings S D source) background ≡ converted_records S D n (readings S D source') background' → Agree S D n source source'
  same_bytes source source' background background' room room' q q' e m =
      let i : ℕ = m.index in
      let h : i < n = m.in_records_lem in
      converted_apart S D fs fd path (record_at (size S) i source) (record_at (size S) i source') (record_at (size D) i background) (record_at (size D) i background')
      (record_length (size D) n i background room h) (record_length (size D) n i background' room' h)
      (none_in S D n (readings S D source) q i h) (none_in S D n (readings S D source') q' i h)
      (sym (converted_at_lem S D fs fd n (readings S D source) background room i [] h) ∙ ap (λ (l : List ℕ). record_at (size D) i (l ++ [])) e
      ∙ converted_at_lem S D fs fd n (readings S D source') background' room' i [] h)
      m.to m.from m.source m.destination m.match

  -- what was made without an exception, in a buffer of any length, goes back without one
  module _ (source background : List ℕ) (room : n * size D ≤ length background) (quiet : exceptions S D n (readings S D source) ≡ 0)
      (out : List ℕ) (holds : take (n * size D) out ≡ converted_records S D n (readings S D source) background) where
    pub returns_quiet : exceptions D S n (readings D S out) ≡ 0
    returns_quiet =
        in_none D S n (readings D S out)
        (λ i h. back_quiet S D fs fd path (record_at (size S) i source) (record_at (size D) i background) (record_length (size D) n i background room h)
        (none_in S D n (readings S D source) quiet i h) (record_at (size D) i out) (converted_in S D fs fd n (readings S D source) background room i out holds h))

    -- and brings every matched number back, over any background, into a buffer of any length
    pub returns_same : (background' : List ℕ) → n * size S ≤ length background' → (res : List ℕ) → take (n * size S) res ≡ converted_records D S n (readings D S out) background' → Agree S D n res source
    returns_same background' room' res held m =
        let i : ℕ = m.index in
        let h : i < n = m.in_records_lem in
        ap (number_in m.source m.from) (converted_in D S fd fs n (readings D S out) background' room' i res held h)
        ∙ back_same S D fs fd path (record_at (size S) i source) (record_at (size D) i background) (record_length (size D) n i background room h)
        (none_in S D n (readings S D source) quiet i h) (record_at (size D) i out) (record_at (size S) i background')
        (converted_in S D fs fd n (readings S D source) background room i out holds h) (record_length (size S) n i background' room' h)
        m.to m.from m.source m.destination m.match
