-- Pieces of a list that adjoin, and records written piece by piece. Assumes nothing.
use mathlib.Core.Path.{◌≡◌, refl, sym, ap, ap₂, ◌∙◌}
use mathlib.Core.List.{List, [], ◌∷◌, ◌++◌, append_assoc}
use Prim.Native.Nat.{ℕ, zero, suc, ◌+◌, ◌-◌, ◌*◌, ◌≤◌, ◌<◌}
use native.Mathlib.Omega.{arith}
use lib.ListN.{length, take, drop, length-drop}
use lib.Seq.{paste, paste-zero, take-add, take_all, take-take, drop-drop, length-take-le, take-paste, drop-paste}
use Rattle.bits.proofs.Eight.{Bytes}
use Rattle.layout.specs.declared.Layout.{Layout}
use Rattle.number.specs.Place.{stored}
use Rattle.records.specs.Record.{raises}
use Rattle.records.specs.Plan.{Entry, becomes, written, raised_by, Sound}
use Rattle.plans.specs.PlanWords.{source_type_of, destination_type_of, to_byte, from_byte, words_place, entry_at, entries_from, Pair, Ready}
use Rattle.plans.proofs.LeafSteps.{leaf_layout}
use Rattle.plans.proofs.Entries.{sound_at}
use Rattle.loops.proofs.Lists.{drop_agree}
use Rattle.same_bytes.specs.Same.{StaysAt, Adjoin}
use Rattle.same_bytes.proofs.Leaf.{stays_kind, stays_stored}

-- ---- pieces

-- two pieces that adjoin in both lists are one
pub pastes_join : (x : List ℕ) (b a m n : ℕ) (r : List ℕ) → a + (m + n) ≤ length r → b + (m + n) ≤ length x
    → paste (paste x b (take m (drop a r)) m) (b + m) (take n (drop (a + m) r)) n ≡ paste x b (take (m + n) (drop a r)) (m + n)
pastes_join x b a m n r reads writes =
    let y : List ℕ = paste x b (take m (drop a r)) m in
    let lm : length (take m (drop a r)) ≡ m = length-take-le m (drop a r) (rw length-drop (omega arith)) in
    let last : b + m + n ≡ b + (m + n) = omega arith in
    let front : take (b + m) y ≡ take b x ++ take m (drop a r) =
    take-paste x b (take m (drop a r)) m (omega arith) (omega arith) ∙ ap (λ (z : List ℕ). take b x ++ z) (take-take m m (drop a r) (omega arith)) in
    let back : drop (b + m + n) y ≡ drop (b + (m + n)) x =
    drop_agree (b + m) (b + m + n) y x (omega arith) (drop-paste x b (take m (drop a r)) m (omega arith) (omega arith)) ∙ ap (λ (k : ℕ). drop k x) last in
    let piece : take (m + n) (take (m + n) (drop a r)) ≡ take m (drop a r) ++ take n (drop (a + m) r) =
    take-take (m + n) (m + n) (drop a r) (omega arith) ∙ take-add m n (drop a r) ∙ ap (λ (z : List ℕ). take m (drop a r) ++ take n z) (drop-drop m a r) in
    rw (front, back, piece, take-take n n (drop (a + m) r) (omega arith)) (ap (λ (z : List ℕ). z ++ drop (b + (m + n)) x) (append_assoc (take b x) (take m (drop a r)) (take n (drop (a + m) r))))

-- ---- the entries of a plan, the last one apart

module _ (plan ws ts wd td : List ℕ) where
  entries_more : (i n : ℕ) → entries_from plan ws ts wd td i (suc n) ≡ entries_from plan ws ts wd td i n ++ (entry_at plan ws ts wd td (i + n) ∷ [])
  unfolding entries_from
  entries_more i zero = let e : i + 0 ≡ i = omega arith in rw e
  entries_more i (suc n) =
      let e : i + suc n ≡ i + 1 + n = omega arith in
      rw e (ap (λ (es : List Entry). entry_at plan ws ts wd td i ∷ es) (entries_more (i + 1) n))

written_last : (es : List Entry) (e : Entry) (r x : List ℕ) → written (es ++ (e ∷ [])) r x ≡ written (e ∷ []) r (written es r x)
unfolding written
written_last [] e r x = refl
written_last (f ∷ es) e r x = written_last es e r _

raised_last : (es : List Entry) (e : Entry) (r : List ℕ) → raised_by (es ++ (e ∷ [])) r ≡ raised_by es r + raised_by (e ∷ []) r
unfolding raised_by
raised_last [] e r = omega arith
raised_last (f ∷ es) e r = rw (raised_last es e r) (omega arith)

-- ---- a run of entries

module _ {s d : ℕ} {plan : List ℕ} {n : ℕ} {ws wd words : List ℕ} (p : Ready s d plan n ws wd words) where
  abbrev run : ℕ → ℕ → List Entry
  run i k = entries_from plan ws p.source_text wd p.destination_text i k

  abbrev here : ℕ → Entry
  here j = entry_at plan ws p.source_text wd p.destination_text j

  pub sound : (j : ℕ) → j < n → Sound s d (entry_at plan ws p.source_text wd p.destination_text j)
  sound j h = sound_at plan ws p.source_text wd p.destination_text s d n 0 j p.sound (omega arith) (omega arith)

  -- the types of entry j, by the plan's own texts
  unfoldable pair : (j : ℕ) → j < n → Pair (source_type_of plan j) (destination_type_of plan j) ws wd words (words_place j)
  pair j h =
      record {
        source_text = p.source_text;
        destination_text = p.destination_text;
        source = (sound j h).source;
        destination = (sound j h).destination;
        source_rows = p.source_rows j h;
        destination_rows = p.destination_rows j h;
        entry = p.entry j h;
        names = p.names j h;
      }

  module _ (r : List ℕ) where
    -- one entry that stays as it is
    one_written : (j to from k : ℕ) (x : List ℕ) → j < n → StaysAt plan ws wd j to from k → from + k ≤ length r → Bytes r
        → written (entry_at plan ws p.source_text wd p.destination_text j ∷ []) r x ≡ paste x to (take k (drop from r)) k
    unfolding written pair
    one_written j to from k x h t reads hb =
        ap (λ (l : Layout). stored l (to_byte plan j) (becomes (here j) r).raw x) (leaf_layout wd p.destination_text (destination_type_of plan j))
        ∙ rw (t.writes, t.reads) (stays_stored t.leaf (pair j h) from r to x reads hb)

    one_raised : (j to from k : ℕ) → j < n → StaysAt plan ws wd j to from k → raised_by (entry_at plan ws p.source_text wd p.destination_text j ∷ []) r ≡ 0
    unfolding raised_by pair
    one_raised j to from k h t = let e : (becomes (here j) r).kind ≡ 0 = stays_kind t.leaf (pair j h) (from_byte plan j) r in rw e

    module _ (i to from : ℕ) where
      -- the bytes of the run are the source's, all in one piece
      pub run_written : (k bytes : ℕ) (x : List ℕ) → i + k ≤ n → Adjoin plan ws wd i to from k bytes → from + bytes ≤ length r → to + bytes ≤ length x → Bytes r
          → written (entries_from plan ws p.source_text wd p.destination_text i k) r x ≡ paste x to (take bytes (drop from r)) bytes
      unfolding written entries_from
      run_written zero bytes x h a reads writes hb = rw a (paste-zero x to [])
      run_written (suc k) bytes x h a reads writes hb =
          let m : ℕ = a.0 in
          let l : ℕ = a.1 in
          let e : bytes ≡ m + l = a.4 in
          ap (λ (es : List Entry). written es r x) (entries_more plan ws p.source_text wd p.destination_text i k)
          ∙ written_last (run i k) (here (i + k)) r x
          ∙ ap (λ (y : List ℕ). written (here (i + k) ∷ []) r y) (run_written k m x (omega arith) a.2 (omega arith) (omega arith) hb)
          ∙ one_written (i + k) (to + m) (from + m) l (paste x to (take m (drop from r)) m) (omega arith) a.3 (omega arith) hb
          ∙ rw e (pastes_join x to from m l r (omega arith) (omega arith))

      pub run_raised : (k bytes : ℕ) → i + k ≤ n → Adjoin plan ws wd i to from k bytes → raised_by (entries_from plan ws p.source_text wd p.destination_text i k) r ≡ 0
      unfolding raised_by entries_from
      run_raised zero bytes h a = refl
      run_raised (suc k) bytes h a =
          ap (λ (es : List Entry). raised_by es r) (entries_more plan ws p.source_text wd p.destination_text i k)
          ∙ raised_last (run i k) (here (i + k)) r
          ∙ rw (run_raised k a.0 (omega arith) a.2, one_raised (i + k) (to + a.0) (from + a.0) a.1 (omega arith) a.3)
