-- The bits of a source enum without a value: where each leaf obeys clamp every number raises alike, so they do not show. Assumes nothing: the types of sheets are well formed
-- (crate sheet).
use mathlib.Core.Path.{◌≡◌, refl, sym, ap, ap₂, ◌∙◌, subst}
use mathlib.Core.Logic.{◌⊎◌, inl, inr, ⊎_elim}
use mathlib.Core.Bool.{true, false≢true}
use mathlib.Core.List.{List, [], ◌∷◌}
use Prim.Native.Nat.{ℕ, zero, suc, ◌+◌, ◌*◌, ◌≤◌, ◌<◌}
use native.Mathlib.Nat.{le_refl}
use native.Mathlib.Decide.{ℕ_discrete}
use native.Mathlib.Omega.{arith}
use lib.IntN.{ℤ}
use lib.ListN.{length, take}
use Rattle.answer.specs.declared.Answer.TheVariants.{Done}
use Rattle.answer.specs.Answer.{number_of}
use Rattle.layout.specs.declared.Layout.{Layout}
use Rattle.number.specs.Place.{stored}
use Rattle.number.proofs.Bits.{same_bits}
use Rattle.datatype.specs.Datatype.{Leaf, layout_of, leaf_size, Datatype, size}
use Rattle.datatype.specs.Datatype.Leaf.{atomic, enumeration, real}
use Rattle.datatype.specs.Symbols.{symbol_of}
use Rattle.datatype.specs.Paths.{leaf_path, has_path}
use Rattle.datatype.specs.Matches.{Match, match_at}
use Rattle.datatype.specs.Matches.Match.{unmatched, matched}
use Rattle.datatype.specs.Handling.{AllClamp}
use Rattle.datatype.specs.WellFormed.{WellFormed}
use Rattle.datatype.proofs.Matches.{match_formed, match_path}
use Rattle.records.specs.Leaf.{number_in, converted}
use Rattle.records.specs.Record.{reading, with_leaf, with_leaves_below, kind_at, raises, raised_below}
use Rattle.records.specs.Records.{record_at, readings, converted_at, converted_records, exceptions}
use Rattle.records.specs.Matched.{MatchedLeaf, matched_number, SignificantBit}
use Rattle.records.proofs.ManyRecords.{joined_alike, same_record}
use Rattle.runs.specs.Run.{Run, checks, answer, handled}
use Rattle.runs.specs.Run.Checked.{passed}
use Rattle.runs.proofs.Exceptions.{clamped_handled}
use Rattle.runs.proofs.Buffers.{answer_is}
use Rattle.promises.specs.Runs.{IsDone, SameConverted}
use Rattle.promises.specs.Demand3.{SameCall, SameBackground, SameEffect}
use Rattle.promises.proofs.Promises.{same_answer, room, converted_is, other, other_room, other_is, same_tail}
use Rattle.reaches.specs.Call.{Call}
use Rattle.mask_promises.specs.Bits.{NoValue}
use Rattle.mask_promises.specs.Mask.{Masked}
use Rattle.mask_promises.specs.Reach.{Converts, WithoutValue, AgreeBesides}
use Rattle.mask_promises.proofs.Records.{leaf_byte, sources_apart}
use Rattle.mask_promises.proofs.Mask.{masked_tells, source_formed_lem, destination_formed_lem}
use Rattle.mask_promises.proofs.OnMask.{refused_or_passes, formed, in_mask, bit_is, types, first_room, second_room, refused_effect}

-- ---- one leaf

-- the number is the same, or the leaf is an enum without a value
abbrev Alike : Leaf → ℤ → ℤ → Type 0
Alike x z w = (z ≡ w) ⊎ NoValue x

record SameConversion (x y : Leaf) (z w : ℤ) : Type 0 where
  raw : (converted x y z).raw ≡ (converted x y w).raw
  kind : (converted x y z).kind ≡ (converted x y w).kind

-- all significant bits one, and kind 3, whatever the number
none_alike : (l : Layout) (y : Leaf) (z w : ℤ) → leaf_path (enumeration l []) y ≡ true → SameConversion (enumeration l []) y z w
unfolding symbol_of
none_alike l (atomic k) z w e = absurd (false≢true e)
none_alike l (enumeration k ts) z w e = record { raw = refl; kind = refl }
none_alike l (real k) z w e = absurd (false≢true e)

alike : (x y : Leaf) (z w : ℤ) → leaf_path x y ≡ true → Alike x z w → SameConversion x y z w
alike x y z w e (inl h) = record { raw = ap (λ (v : ℤ). (converted x y v).raw) h; kind = ap (λ (v : ℤ). (converted x y v).kind) h }
alike x y z w e (inr (l, h)) = subst (λ (u : Leaf). leaf_path u y ≡ true → SameConversion u y z w) (sym h) (none_alike l y z w) e

-- ---- one record

module _ (S D : Datatype) (fs : WellFormed S) (fd : WellFormed D) (path : has_path S D ≡ true) (r s : List ℕ)
    (same : (b a : ℕ) (x y : Leaf) → match_at S D b ≡ matched a x y → Alike x (number_in x a r) (number_in x a s)) where
  leaf_alike : (b a : ℕ) (x y : Leaf) → match_at S D b ≡ matched a x y → SameConversion x y (number_in x a r) (number_in x a s)
  leaf_alike b a x y m = alike x y (number_in x a r) (number_in x a s) (match_path S D fs fd path b a x y m) (same b a x y m)

  kind_alike : (b : ℕ) → kind_at S D (reading S D r) b ≡ kind_at S D (reading S D s) b
  unfolding kind_at reading
  kind_alike b = at (match_at S D b) refl
    where
      at : (m : Match) → match_at S D b ≡ m → kind_at S D (reading S D r) b ≡ kind_at S D (reading S D s) b
      at unmatched e = rw e
      at (matched a x y) e = rw e (leaf_alike b a x y e).kind

  write_alike : (b : ℕ) (d : List ℕ) → with_leaf S D (reading S D r) b d ≡ with_leaf S D (reading S D s) b d
  unfolding with_leaf reading
  write_alike b d = at (match_at S D b) refl
    where
      at : (m : Match) → match_at S D b ≡ m → with_leaf S D (reading S D r) b d ≡ with_leaf S D (reading S D s) b d
      at unmatched e = rw e
      at (matched a x y) e = rw e (ap (λ (k : ℕ). stored (layout_of y) b k d) (leaf_alike b a x y e).raw)

  record_alike : (k : ℕ) (d : List ℕ) → with_leaves_below S D (reading S D r) k d ≡ with_leaves_below S D (reading S D s) k d
  unfolding with_leaves_below
  record_alike zero d = refl
  record_alike (suc k) d = write_alike k (with_leaves_below S D (reading S D r) k d) ∙ ap (with_leaf S D (reading S D s) k) (record_alike k d)

  raised_alike : (k : ℕ) → raised_below S D (reading S D r) k ≡ raised_below S D (reading S D s) k
  unfolding raised_below
  raised_alike zero = refl
  raised_alike (suc k) = ap₂ (λ (m j : ℕ). m + raises j) (raised_alike k) (kind_alike k)

-- ---- n records

module _ (S D : Datatype) (fs : WellFormed S) (fd : WellFormed D) (path : has_path S D ≡ true) (n : ℕ) (p q : List ℕ)
    (same : (m : MatchedLeaf S D n) → Alike m.source (matched_number m p) (matched_number m q)) where
  in_record_lem : (i : ℕ) → i < n → (b a : ℕ) (x y : Leaf) → match_at S D b ≡ matched a x y
      → Alike x (number_in x a (record_at (size S) i p)) (number_in x a (record_at (size S) i q))
  in_record_lem i l b a x y m = same (record { index = i; from = a; to = b; source = x; destination = y; in_records_lem = l; match = m })

  count_alike : (k : ℕ) → k ≤ n → exceptions S D k (readings S D p) ≡ exceptions S D k (readings S D q)
  unfolding exceptions
  count_alike zero l = refl
  count_alike (suc k) l =
      ap₂ (λ (x y : ℕ). x + y) (count_alike k (omega arith))
      (raised_alike S D fs fd path (record_at (size S) k p) (record_at (size S) k q) (in_record_lem k l) (size D))

  records_alike : (bg bg' : List ℕ) → n * size D ≤ length bg → n * size D ≤ length bg' → take (n * size D) bg ≡ take (n * size D) bg'
      → converted_records S D n (readings S D p) bg ≡ converted_records S D n (readings S D q) bg'
  records_alike bg bg' room room' e =
      joined_alike (converted_at S D (readings S D p) bg) (converted_at S D (readings S D q) bg') n
      (λ i l. record_alike S D fs fd path (record_at (size S) i p) (record_at (size S) i q) (in_record_lem i l) (size D) (record_at (size D) i bg)
      ∙ ap (with_leaves_below S D (readings S D q i) (size D)) (same_record (size D) n i bg bg' room room' e l))

-- ---- two runs

valued : (x : Leaf) → Dec (NoValue x)
valued (atomic l) = no (λ (e : NoValue (atomic l)). let z : ◌≡◌ {A = ℕ} 0 1 = cc e.1 in omega arith)
valued (enumeration l []) = yes (l, refl)
valued (enumeration l (s ∷ ss)) = no (λ (e : NoValue (enumeration l (s ∷ ss))). let z : ◌≡◌ {A = ℕ} 0 1 = cc e.1 in omega arith)
valued (real l) = no (λ (e : NoValue (real l)). let z : ◌≡◌ {A = ℕ} 0 1 = cc e.1 in omega arith)

module _ (c : Call) (S D : Datatype) (m : Masked c S D) (r q : Run) (first : Converts c r) (second : Converts c q) (same : SameCall r q) (clamps : AllClamp r.handling S D)
    (agree : AgreeBesides c S D r.count r.source q.source) (back : SameBackground D r q) where
  fs : WellFormed S
  fs = source_formed_lem c S D m

  fd : WellFormed D
  fd = destination_formed_lem c S D m

  -- a bit of a leaf that is no such enum is of no such enum
  of_leaf_lem : (s : SignificantBit S D r.count) → ¬ (NoValue s.leaf.source) → ¬ (WithoutValue S D (in_mask c S D m r.count s))
  of_leaf_lem s value (t, v) = at (ℕ_discrete t.to s.leaf.to)
    where
      at : Dec (t.to ≡ s.leaf.to) → ⊥
      at (yes e) =
          let i : matched t.from t.source t.destination ≡ matched s.leaf.from s.leaf.source s.leaf.destination =
          sym t.match ∙ ap (match_at S D) e ∙ s.leaf.match in
          let j : t.source ≡ s.leaf.source = cc (i) in
          value (subst NoValue j v)
      at (no e) =
          let x = s.leaf.source in
          let f = (match_formed S D fs fd t.to t.from t.source t.destination t.match).0 in
          let h = leaf_byte x (formed c S D m r.count s) s.at s.within_precision in
          let k = leaf_byte t.source f t.at t.within_precision in
          ⊎_elim (λ (g : t.from + leaf_size t.source ≤ s.leaf.from). omega (arith, g, k, t.byte))
          (λ (g : s.leaf.from + leaf_size x ≤ t.from). omega (arith, g, h, t.byte))
          (sources_apart S D fs fd s.leaf.to s.leaf.from x s.leaf.destination s.leaf.match t.to t.from t.source t.destination t.match e)

  module _ (e : checks r ≡ passed S D) where
    numbers_alike : (l : MatchedLeaf S D r.count) → Alike l.source (matched_number l r.source) (matched_number l q.source)
    numbers_alike l = at (valued l.source)
      where
        at : Dec (NoValue l.source) → Alike l.source (matched_number l r.source) (matched_number l q.source)
        at (yes v) = inr v
        at (no v) =
            inl
            (same_bits (layout_of l.source) l.from (record_at (size S) l.index r.source) (record_at (size S) l.index q.source)
            (λ k h t.
            let s : SignificantBit S D r.count = record { leaf = l; at = k; from_offset = h; within_precision = t } in
            bit_is c S D m r.count s r.source (first_room c S D m r q first second same e) first.bytes
            ∙ agree (in_mask c S D m r.count s) (of_leaf_lem s v)
            ∙ sym (bit_is c S D m r.count s q.source (second_room c S D m r q first second same e) second.bytes)))

    path : has_path S D ≡ true
    path = (masked_tells c S D m).path

    answers_alike : answer r ≡ answer q
    answers_alike =
        answer_is r S D e
        ∙ clamped_handled S D r.handling r.count (readings S D r.source) clamps
        ∙ ap Done (count_alike S D fs fd path r.count r.source q.source numbers_alike r.count (le_refl r.count))
        ∙ sym
        (answer_is q S D (other r q same S D e)
        ∙ ap₂ (λ (h n : ℕ). handled h S D n (readings S D q.source)) (sym same.handling) (sym same.count)
        ∙ clamped_handled S D r.handling r.count (readings S D q.source) clamps)

    bytes_alike : IsDone r → IsDone q → SameConverted D r q
    bytes_alike d g =
        converted_is r S D e d
        ∙ records_alike S D fs fd path r.count r.source q.source numbers_alike r.background q.background (room r S D e) (other_room r q same S D e)
        (back ∙ ap (λ (n : ℕ). take (n * size D) q.background) (sym same.count))
        ∙ other_is r q same S D e g

    effect_alike : SameEffect S D r q
    effect_alike =
        record {
          answers = same_answer r q answers_alike;
          converted = λ d. bytes_alike d (sym (ap number_of answers_alike) ∙ d);
          cleared = λ d. same_tail r q same S D e d (sym (ap number_of answers_alike) ∙ d);
        }

-- where each matched leaf obeys clamp every number of a source enum without a value raises alike, so sources that differ in its bits alone have the same effect
pub without_value : (c : Call) (S D : Datatype) → Masked c S D → (r q : Run) → Converts c r → Converts c q → SameCall r q → AllClamp r.handling S D
    → AgreeBesides c S D r.count r.source q.source → SameBackground D r q → SameEffect S D r q
without_value c S D m r q first second same clamps agree back =
    ⊎_elim (λ n. refused_effect c S D m r q first second same n) (λ e. effect_alike c S D m r q first second same clamps agree back e)
    (refused_or_passes r S D (types c S D m r q first second same))
