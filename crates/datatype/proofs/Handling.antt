-- The handling that a leaf obeys, and what words leave as it is. Assumes nothing.
use mathlib.Core.Path.{◌≡◌, refl, sym, ap, ap₂, ◌∙◌}
use mathlib.Core.Bool.{Bool, true, false, cond, ◌&&◌}
use mathlib.Core.List.{List, [], ◌∷◌, ◌++◌}
use Prim.Native.Nat.{ℕ, zero, suc, ◌-◌, ◌*◌, ◌/◌, ◌%◌, ◌≤◌}
use native.Mathlib.Omega.{arith}
use lib.Dec.{ltb, eqb}
use Rattle.datatype.specs.Datatype.{Datatype, Members, size, same}
use Rattle.datatype.specs.declared.Word.{Word}
use Rattle.datatype.specs.declared.Word.TheVariants.{Silent, Clamp, Stop}
use Rattle.datatype.specs.Datatype.Datatype.{leaf, compound, array}
use Rattle.datatype.specs.Datatype.Members.{empty, member}
use Rattle.datatype.specs.Leaves.{within}
use Rattle.datatype.specs.Paths.{Lookup, on_found, member_named, is_leaf_like, is_compound, members_of, is_array_like, base_of, has_path, paths_to}
use Rattle.datatype.specs.Paths.Lookup.{missing, found}
use Rattle.datatype.specs.Matches.{Match, further, match_leaf, match_at, match_in}
use Rattle.datatype.specs.Matches.Match.{unmatched}
use Rattle.datatype.specs.SymbolSets.{keeps_leaf, keeps_symbols, keeps_in}
use Rattle.datatype.specs.Handling.{asked, or_outer, word_at, word_in, handling_at, words_at, words_in, AllSilent, Innermost, wordless, wordless_in}
use Rattle.datatype.specs.Handling.Innermost.{none_has, has}

-- ---- 0 or 1

pub asked_most : (word : Word) (h : ℕ) → h ≤ 1 → asked word h ≤ 1
asked_most Silent h l = l
asked_most Clamp h l = omega arith
asked_most Stop h l = omega arith

pub handling_most : (h : ℕ) (D : Datatype) (b : ℕ) → h ≤ 1 → handling_at h D b ≤ 1
unfolding handling_at
handling_most h D b l = asked_most (word_at D b) h l

-- an inner word is asked before an outer one, and that before the call
pub asked_outer : (inner outer : Word) (h : ℕ) → asked (or_outer inner outer) h ≡ asked inner (asked outer h)
asked_outer Silent outer h = refl
asked_outer Clamp outer h = refl
asked_outer Stop outer h = refl

-- ---- the innermost word

further_out : (outer : Word) {words : List Word} {word : Word} → Innermost words word → Innermost (outer ∷ words) (or_outer word outer)
further_out Silent {words} (none_has all) = none_has {words = Silent ∷ words} (refl, all)
further_out Clamp {words} (none_has all) = has [] Clamp words (λ (e : Clamp ≡ Silent). let z : ◌≡◌ {A = ℕ} 0 1 = cc in omega arith) all
further_out Stop {words} (none_has all) = has [] Stop words (λ (e : Stop ≡ Silent). let z : ◌≡◌ {A = ℕ} 0 1 = cc in omega arith) all
further_out outer (has before Silent inner said all) = absurd (said refl)
further_out outer (has before Clamp inner said all) = has (outer ∷ before) Clamp inner said all
further_out outer (has before Stop inner said all) = has (outer ∷ before) Stop inner said all

mutual
  unfolding word_at words_at

  pub innermost : (D : Datatype) (b : ℕ) → Innermost (words_at D b) (word_at D b)
  innermost (leaf y) b = none_has tt
  innermost (compound z ms) b = innermost_in ms b
  innermost (array z ds T) b = innermost T (b % size T)

  innermost_in : (ms : Members) (b : ℕ) → Innermost (words_in ms b) (word_in ms b)
  innermost_in empty b = none_has tt
  innermost_in (member x offset T word ms) b =
      elim (within offset (size T) b) as (λ t. Innermost (cond t (word ∷ words_at T (b - offset)) (words_in ms b)) (cond t (or_outer (word_at T (b - offset)) word) (word_in ms b)))
      [ true ↦ further_out word (innermost T (b - offset)) | false ↦ innermost_in ms b ]

-- ---- a datatype without its words

pub wordless_size : (D : Datatype) → size (wordless D) ≡ size D
wordless_size (leaf y) = refl
wordless_size (compound z ms) = refl
wordless_size (array z ds T) = refl

mutual
  unfolding word_at

  wordless_silent : (D : Datatype) (b : ℕ) → word_at (wordless D) b ≡ Silent
  wordless_silent (leaf y) b = refl
  wordless_silent (compound z ms) b = wordless_silent_in ms b
  wordless_silent (array z ds T) b = wordless_silent T (b % size (wordless T))

  wordless_silent_in : (ms : Members) (b : ℕ) → word_in (wordless_in ms) b ≡ Silent
  wordless_silent_in empty b = refl
  wordless_silent_in (member x offset T word ms) b =
      rw (wordless_silent T (b - offset), wordless_silent_in ms b)
      (elim (within offset (size (wordless T)) b) as (λ t. cond t Silent Silent ≡ Silent) [ true ↦ refl | false ↦ refl ])

-- so each leaf obeys the call
pub wordless_obeys : (h : ℕ) (D : Datatype) (b : ℕ) → handling_at h (wordless D) b ≡ h
unfolding handling_at
wordless_obeys h D b = rw (wordless_silent D b)

-- what is made of a member that is found, by two ways that are alike
pub found_alike : {A : Type 0} (f g : ℕ → Datatype → A) (other : A) → ((o : ℕ) (S : Datatype) → f o S ≡ g o S) → (l : Lookup) → on_found f other l ≡ on_found g other l
found_alike f g other h missing = refl
found_alike f g other h (found o S) = h o S

-- the words of the destination change no match, no path and no symbols
mutual
  unfolding match_at

  pub wordless_match : (D S : Datatype) (b : ℕ) → match_at S (wordless D) b ≡ match_at S D b
  wordless_match (leaf y) S b = refl
  wordless_match (compound z ms) S b = ap (λ (m : Match). cond (is_compound S) m unmatched) (wordless_match_in ms (members_of S) b)
  wordless_match (array z ds T) S b =
      rw (wordless_size T) (ap (λ (m : Match). cond (is_array_like S ds && ltb b z) (further (b / size T * size (base_of S)) m) unmatched) (wordless_match T (base_of S) (b % size T)))

  wordless_match_in : (ms ss : Members) (b : ℕ) → match_in ss (wordless_in ms) b ≡ match_in ss ms b
  wordless_match_in empty ss b = refl
  wordless_match_in (member x offset T word ms) ss b =
      rw (wordless_size T)
      (ap₂ (λ (m n : Match). cond (within offset (size T) b) m n)
      (found_alike (λ o S. further o (match_at S (wordless T) (b - offset))) (λ o S. further o (match_at S T (b - offset))) unmatched
      (λ o S. ap (further o) (wordless_match T S (b - offset))) (member_named x ss))
      (wordless_match_in ms ss b))

mutual
  unfolding has_path

  pub wordless_path : (D S : Datatype) → has_path S (wordless D) ≡ has_path S D
  wordless_path (leaf y) S = refl
  wordless_path (compound z ms) S = ap (λ (t : Bool). is_compound S && t) (wordless_paths ms (members_of S))
  wordless_path (array z ds T) S = ap (λ (t : Bool). is_array_like S ds && t) (wordless_path T (base_of S))

  wordless_paths : (ms ss : Members) → paths_to ss (wordless_in ms) ≡ paths_to ss ms
  wordless_paths empty ss = refl
  wordless_paths (member x offset T word ms) ss =
      ap₂ (λ (t u : Bool). t && u)
      (found_alike (λ o S. has_path S (wordless T)) (λ o S. has_path S T) true (λ o S. wordless_path T S) (member_named x ss)) (wordless_paths ms ss)

mutual
  unfolding keeps_symbols

  pub wordless_keeps : (D S : Datatype) → keeps_symbols S (wordless D) ≡ keeps_symbols S D
  wordless_keeps (leaf y) S = refl
  wordless_keeps (compound z ms) S = wordless_keeps_in ms (members_of S)
  wordless_keeps (array z ds T) S = ap (λ (t : Bool). cond (is_array_like S ds) t true) (wordless_keeps T (base_of S))

  wordless_keeps_in : (ms ss : Members) → keeps_in ss (wordless_in ms) ≡ keeps_in ss ms
  wordless_keeps_in empty ss = refl
  wordless_keeps_in (member x offset T word ms) ss =
      ap₂ (λ (t u : Bool). t && u)
      (found_alike (λ o S. keeps_symbols S (wordless T)) (λ o S. keeps_symbols S T) true (λ o S. wordless_keeps T S) (member_named x ss)) (wordless_keeps_in ms ss)

-- nor do those of the source: "source sheets may carry it without effect"
abbrev wordless_found : Lookup → Lookup
wordless_found missing = missing
wordless_found (found o T) = found o (wordless T)

wordless_named : (x : List ℕ) (ms : Members) → member_named x (wordless_in ms) ≡ wordless_found (member_named x ms)
unfolding member_named
wordless_named x empty = refl
wordless_named x (member y offset T word ms) =
    rw (wordless_named x ms)
    (elim (same x y) as (λ t. cond t (found offset (wordless T)) (wordless_found (member_named x ms)) ≡ wordless_found (cond t (found offset T) (member_named x ms)))
    [ true ↦ refl | false ↦ refl ])

wordless_found_lem : {A : Type 0} (f : ℕ → Datatype → A) (other : A) → ((o : ℕ) (S : Datatype) → f o (wordless S) ≡ f o S) → (x : List ℕ) (ss : Members)
    → on_found f other (member_named x (wordless_in ss)) ≡ on_found f other (member_named x ss)
wordless_found_lem f other h x ss = rw (wordless_named x ss) (go (member_named x ss))
  where
    go : (l : Lookup) → on_found f other (wordless_found l) ≡ on_found f other l
    go missing = refl
    go (found o S) = h o S

mutual
  unfolding match_at

  pub source_match : (D S : Datatype) (b : ℕ) → match_at (wordless S) D b ≡ match_at S D b
  source_match (leaf y) (leaf x) b = refl
  source_match (leaf y) (compound z ss) b = refl
  source_match (leaf y) (array z es S) b = refl
  source_match (compound w ms) (leaf x) b = refl
  source_match (compound w ms) (compound z ss) b = source_match_in ms ss b
  source_match (compound w ms) (array z es S) b = refl
  source_match (array w ds T) (leaf x) b = refl
  source_match (array w ds T) (compound z ss) b = refl
  source_match (array w ds T) (array z es S) b =
      rw (wordless_size S) (ap (λ (m : Match). cond (same es ds && ltb b w) (further (b / size T * size S) m) unmatched) (source_match T S (b % size T)))

  source_match_in : (ms ss : Members) (b : ℕ) → match_in (wordless_in ss) ms b ≡ match_in ss ms b
  source_match_in empty ss b = refl
  source_match_in (member x offset T word ms) ss b =
      ap₂ (λ (m n : Match). cond (within offset (size T) b) m n)
      (wordless_found_lem (λ o S. further o (match_at S T (b - offset))) unmatched (λ o S. ap (further o) (source_match T S (b - offset))) x ss)
      (source_match_in ms ss b)

mutual
  unfolding has_path

  pub source_path : (D S : Datatype) → has_path (wordless S) D ≡ has_path S D
  source_path (leaf y) (leaf x) = refl
  source_path (leaf y) (compound z ss) = refl
  source_path (leaf y) (array z es S) = refl
  source_path (compound w ms) (leaf x) = refl
  source_path (compound w ms) (compound z ss) = source_paths ms ss
  source_path (compound w ms) (array z es S) = refl
  source_path (array w ds T) (leaf x) = refl
  source_path (array w ds T) (compound z ss) = refl
  source_path (array w ds T) (array z es S) = ap (λ (t : Bool). same es ds && t) (source_path T S)

  source_paths : (ms ss : Members) → paths_to (wordless_in ss) ms ≡ paths_to ss ms
  source_paths empty ss = refl
  source_paths (member x offset T word ms) ss =
      ap₂ (λ (t u : Bool). t && u) (wordless_found_lem (λ o S. has_path S T) true (λ o S. source_path T S) x ss) (source_paths ms ss)

mutual
  unfolding keeps_symbols

  pub source_keeps : (D S : Datatype) → keeps_symbols (wordless S) D ≡ keeps_symbols S D
  source_keeps (leaf y) (leaf x) = refl
  source_keeps (leaf y) (compound z ss) = refl
  source_keeps (leaf y) (array z es S) = refl
  source_keeps (compound w ms) (leaf x) = refl
  source_keeps (compound w ms) (compound z ss) = source_keeps_in ms ss
  source_keeps (compound w ms) (array z es S) = refl
  source_keeps (array w ds T) (leaf x) = refl
  source_keeps (array w ds T) (compound z ss) = refl
  source_keeps (array w ds T) (array z es S) = ap (λ (t : Bool). cond (same es ds) t true) (source_keeps T S)

  source_keeps_in : (ms ss : Members) → keeps_in (wordless_in ss) ms ≡ keeps_in ss ms
  source_keeps_in empty ss = refl
  source_keeps_in (member x offset T word ms) ss =
      ap₂ (λ (t u : Bool). t && u) (wordless_found_lem (λ o S. keeps_symbols S T) true (λ o S. source_keeps T S) x ss) (source_keeps_in ms ss)

-- ---- what a leaf obeys, word by word: a member's, "else the call"

module _ (h : ℕ) (D : Datatype) (b : ℕ) where
  pub obeys_clamp : word_at D b ≡ Clamp → handling_at h D b ≡ 0
  unfolding handling_at
  obeys_clamp e = rw e

  pub obeys_stop : word_at D b ≡ Stop → handling_at h D b ≡ 1
  unfolding handling_at
  obeys_stop e = rw e

  pub obeys_call : word_at D b ≡ Silent → handling_at h D b ≡ h
  unfolding handling_at
  obeys_call e = rw e
