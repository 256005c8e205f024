-- How the word that the leaf at a byte of a type obeys follows from the type's words, level by level. Assumes nothing.
use mathlib.Core.Path.{◌≡◌, refl, sym, ap, ◌∙◌}
use mathlib.Core.Bool.{cond}
use mathlib.Core.List.{List}
use Prim.Native.Nat.{ℕ, zero, suc, ◌+◌, ◌-◌, ◌%◌, ◌≤◌, ◌<◌}
use native.Mathlib.Nat.{not-suc-le-zero}
use borrow.Author.Rules.{rules}
use Rattle.datatype.specs.declared.Word.{Word}
use Rattle.datatype.specs.declared.Word.TheVariants.{Silent, Clamp, Stop}
use Rattle.datatype.specs.Datatype.{Datatype}
use Rattle.datatype.specs.Handling.{asked, or_outer, word_at, word_in, handling_at}
use Rattle.datatype.proofs.Handling.{asked_outer}
use Rattle.std.specs.Prelude.{Option, Some, None}
use Rattle.table.specs.Table.{row_word, size_word, base_word, first_word, rows_word, offset_word, member_type_word, word_of, word_at_row, members_at, node, decode, type_at}
use Rattle.table.specs.Words.{Reads}
use Rattle.paths.specs.Steps.{Sized, kind_at, covers, row_over}
use Rattle.paths.proofs.Shapes.{compound_node, array_node, leaf_node, decode_step, size_decode}
use Rattle.paths.proofs.Rows.{cond_push}
use Rattle.obeying.specs.declared.Down.{Down}
use Rattle.obeying.specs.Obeying.{word_after, WordStep}

abbrev word_over : (ℕ → Datatype) → List ℕ → ℕ → Option ℕ → Word
word_over D w b (Some j) = or_outer (word_at (D (member_type_word w j)) (b - offset_word w j)) (word_at_row w j)
word_over D w b None = Silent

members_word : (D : ℕ → Datatype) (w t : List ℕ) → Sized D w → (first n b : ℕ) → word_in (members_at D w t first n) b ≡ word_over D w b (row_over w first n b)
unfolding members_at row_over word_at
members_word D w t sized first zero b = refl
members_word D w t sized first (suc n) b =
    rw (sized (member_type_word w (first + n)))
    (ap (cond (covers w (first + n) b) (word_over D w b (Some (first + n)))) (members_word D w t sized first n b)
    ∙ cond_push (word_over D w b) (Some (first + n)) (row_over w first n b) (covers w (first + n) b))

no_outer : (word : Word) → word ≡ or_outer word Silent
no_outer Silent = refl
no_outer Clamp = refl
no_outer Stop = refl

-- ---- one step

module _ (w : List ℕ) (i b : ℕ) {kind : ℕ} (hc : kind ≡ kind_at w i) where
  module _ (h : kind ≡ 3) {first n : ℕ} {r : Option ℕ} (hf : Reads (first_word w i) first) (hn : Reads (rows_word w i) n) (hr : r ≡ row_over w first n b) where
    compound_word : (D : ℕ → Datatype) (t : List ℕ) → Sized D w → word_at (node D w t i) b ≡ word_over D w b r
    unfolding word_at
    compound_word D t sized = rw (compound_node D w t i (sym hc ∙ h), ← hf.is, ← hn.is, hr) (members_word D w t sized first n b)

    pub compound_ends : r ≡ None → WordStep w i b None
    compound_ends e D t sized = compound_word D t sized ∙ ap (word_over D w b) e

    pub compound_go : {j k o a c : ℕ} {word : Word} → r ≡ Some j → Reads (member_type_word w j) k → Reads (offset_word w j) o → a ≡ b - o → Reads (row_word w j 5) c
        → word ≡ word_of c → WordStep w i b (Some (record { type_number = k; byte = a; word = word }))
    compound_go e hk ho ha hw word D t sized = compound_word D t sized ∙ ap (word_over D w b) e ∙ rw (ha, word, hk.is, ho.is, hw.is) refl

  module _ (h : kind ≡ 4) {k y : ℕ} (hk : Reads (base_word w i) k) (hy : Reads (size_word w k) y) where
    pub array_go : {a : ℕ} → a ≡ b % y → WordStep w i b (Some (record { type_number = k; byte = a; word = Silent }))
    unfolding word_at
    array_go ha D t sized = rw (array_node D w t i (sym hc ∙ h), ← hk.is, sized k, ← hy.is, ha) (no_outer (word_at (D k) (b % y)))

  module _ (h : kind ≡ 3 → ⊥) (k : kind ≡ 4 → ⊥) where
    pub leaf_ends : WordStep w i b None
    unfolding word_at
    leaf_ends D t sized = rw (leaf_node D w t i (λ e. h (hc ∙ e)) (λ e. k (hc ∙ e))) refl

pub ruleset step_laws = (rules, compound_ends, compound_go, array_go, leaf_ends)

-- ---- one level after the other

module _ (f : ℕ) (w t : List ℕ) (i b h : ℕ) where
  turn : (r v : Option Down) → 0 < f → WordStep w i b r → r ≡ v → asked (word_at (decode f w t i) b) h ≡ asked (word_after (decode (f - 1) w t) v) h
  turn r v l step e =
      rw (decode_step f w t i l) (ap (λ (x : Word). asked x h) (step (decode (f - 1) w t) t (size_decode (f - 1) w t) ∙ ap (word_after (decode (f - 1) w t)) e))

  pub goes : (r : Option Down) {v : Down} {g : ℕ} → 0 < f → WordStep w i b r → r ≡ Some v → g ≡ asked v.word h
      → asked (word_at (decode f w t i) b) h ≡ asked (word_at (decode (f - 1) w t v.type_number) v.byte) g
  goes r {v} l step e q = turn r (Some v) l step e ∙ asked_outer (word_at (decode (f - 1) w t v.type_number) v.byte) v.word h ∙ rw q refl

  pub ends : (r : Option Down) → 0 < f → WordStep w i b r → r ≡ None → asked (word_at (decode f w t i) b) h ≡ h
  ends r l step e = turn r None l step e

pub out : (f : ℕ) (w t : List ℕ) (i b h : ℕ) → f ≤ 0 → asked (word_at (decode f w t i) b) h ≡ h
unfolding decode word_at
out zero w t i b h l = refl
out (suc f) w t i b h l = absurd (not-suc-le-zero l)

pub starts : (w t : List ℕ) (i b h : ℕ) → handling_at h (type_at w t i) b ≡ asked (word_at (decode 64 w t i) b) h
unfolding handling_at
starts w t i b h = refl
