-- A datatype of which the leaves that obey stop are left: each other leaf gives way to a compound of its size that has no members. The search of a call for its first
-- STOP is the search of a call that stops everywhere, to this datatype. Assumes nothing.
use mathlib.Core.Path.{◌≡◌, refl, sym, ap, ap₂, ◌∙◌}
use mathlib.Core.Bool.{Bool, true, false, cond, ◌&&◌}
use mathlib.Core.List.{List}
use Prim.Native.Nat.{ℕ, zero, suc, ◌+◌, ◌-◌, ◌*◌, ◌/◌, ◌%◌, ◌≤◌}
use native.Mathlib.Omega.{arith}
use lib.Dec.{ltb, eqb}
use Rattle.datatype.specs.Datatype.{Leaf, Datatype, Members, leaf_size, size, same}
use Rattle.datatype.specs.declared.Word.{Word}
use Rattle.datatype.specs.declared.Word.TheVariants.{Silent}
use Rattle.datatype.specs.Datatype.Datatype.{leaf, compound, array}
use Rattle.datatype.specs.Datatype.Members.{empty, member}
use Rattle.datatype.specs.Leaves.{within}
use Rattle.datatype.specs.Paths.{Lookup, on_found, member_named, is_compound, members_of, is_array_like, base_of}
use Rattle.datatype.specs.Paths.Lookup.{missing, found}
use Rattle.datatype.specs.Matches.{Match, further, match_leaf, match_at, match_in}
use Rattle.datatype.specs.Matches.Match.{unmatched, matched}
use Rattle.datatype.specs.WellFormed.{Apart, Placed, WellFormed, WellFormedIn}
use Rattle.datatype.specs.Handling.{asked, or_outer, word_at, word_in, handling_at}
use Rattle.datatype.proofs.Ways.{valid}
use Rattle.datatype.proofs.Handling.{asked_outer, found_alike}

abbrev stopping_leaf : ℕ → Leaf → Datatype
stopping_leaf zero y = compound (leaf_size y) empty
stopping_leaf (suc h) y = leaf y

abbrev mutual
  pub stopping : ℕ → Datatype → Datatype
  stopping h (leaf y) = stopping_leaf h y
  stopping h (compound z ms) = compound z (stopping_in h ms)
  stopping h (array z ds T) = array z ds (stopping h T)

  stopping_in : ℕ → Members → Members
  stopping_in h empty = empty
  stopping_in h (member x offset T word ms) = member x offset (stopping (asked word h) T) Silent (stopping_in h ms)

pub stopping_size : (h : ℕ) (D : Datatype) → size (stopping h D) ≡ size D
stopping_size zero (leaf y) = refl
stopping_size (suc h) (leaf y) = refl
stopping_size h (compound z ms) = refl
stopping_size h (array z ds T) = refl

-- ---- it is well formed

stopping_apart : (h offset w : ℕ) (ms : Members) → Apart offset w ms → Apart offset w (stopping_in h ms)
stopping_apart h offset w empty f = tt
stopping_apart h offset w (member y p U word ms) f = (rw (stopping_size (asked word h) U) f.0, stopping_apart h offset w ms f.1)

stopping_missing : (h : ℕ) (x : List ℕ) (ms : Members) → member_named x ms ≡ missing → member_named x (stopping_in h ms) ≡ missing
unfolding member_named
stopping_missing h x empty e = refl
stopping_missing h x (member y p U word ms) e = go (same x y) (stopping_missing h x ms) e
  where
    go : (t : Bool) → (member_named x ms ≡ missing → member_named x (stopping_in h ms) ≡ missing) → cond t (found p U) (member_named x ms) ≡ missing
        → cond t (found p (stopping (asked word h) U)) (member_named x (stopping_in h ms)) ≡ missing
    go true next q = let z : ◌≡◌ {A = ℕ} 0 1 = cc in absurd (omega arith)
    go false next q = next q

leaf_formed : (h : ℕ) (y : Leaf) → WellFormed (leaf y) → WellFormed (stopping_leaf h y)
leaf_formed zero y f = (record { some = (valid y f).some_bytes; most = omega (arith, (valid y f).sized) }, tt)
leaf_formed (suc h) y f = f

mutual
  pub stopping_formed : (h : ℕ) (D : Datatype) → WellFormed D → WellFormed (stopping h D)
  stopping_formed h (leaf y) f = leaf_formed h y f
  stopping_formed h (compound z ms) f = (f.0, stopping_formed_in h z ms f.1)
  stopping_formed h (array z ds T) f = (rw (stopping_size h T) f.0, stopping_formed h T f.1)

  stopping_formed_in : (h z : ℕ) (ms : Members) → WellFormedIn z ms → WellFormedIn z (stopping_in h ms)
  stopping_formed_in h z empty f = tt
  stopping_formed_in h z (member x offset T word ms) f =
      let size_same = stopping_size (asked word h) T in (
        rw size_same
            (record {
              inside = f.0.inside;
              apart = stopping_apart h offset (size T) ms f.0.apart;
              name_once = stopping_missing h x ms f.0.name_once;
            }),
        stopping_formed (asked word h) T f.1,
        stopping_formed_in h z ms f.2,
      )

-- ---- what is matched is what was matched, of the leaves that obey stop

abbrev pub if_stop : ℕ → Match → Match
if_stop zero m = unmatched
if_stop (suc h) m = m

if_cond : (t : Bool) (h : ℕ) (m : Match) → cond t (if_stop h m) unmatched ≡ if_stop h (cond t m unmatched)
if_cond true h m = refl
if_cond false zero m = refl
if_cond false (suc h) m = refl

if_further : (o h : ℕ) (m : Match) → further o (if_stop h m) ≡ if_stop h (further o m)
if_further o zero m = refl
if_further o (suc h) m = refl

if_found : (h : ℕ) (f : ℕ → Datatype → Match) (l : Lookup) → on_found (λ o S. if_stop h (f o S)) unmatched l ≡ if_stop h (on_found f unmatched l)
if_found zero f missing = refl
if_found (suc h) f missing = refl
if_found h f (found o S) = refl

leaf_match : (h : ℕ) (y : Leaf) (S : Datatype) (b : ℕ) → match_at S (stopping_leaf h y) b ≡ if_stop h (match_at S (leaf y) b)
unfolding match_at
leaf_match zero y S b = elim (is_compound S) as (λ t. cond t unmatched unmatched ≡ unmatched) [ true ↦ refl | false ↦ refl ]
leaf_match (suc h) y S b = refl

in_member : (t : Bool) (x : List ℕ) (offset : ℕ) (T : Datatype) (word : Word) (ms ss : Members) (h b : ℕ)
    → ((S : Datatype) → match_at S (stopping (asked word h) T) (b - offset) ≡ if_stop (asked (word_at T (b - offset)) (asked word h)) (match_at S T (b - offset)))
    → match_in ss (stopping_in h ms) b ≡ if_stop (asked (word_in ms b) h) (match_in ss ms b)
    → cond t (on_found (λ o S. further o (match_at S (stopping (asked word h) T) (b - offset))) unmatched (member_named x ss)) (match_in ss (stopping_in h ms) b)
    ≡ if_stop (asked (cond t (or_outer (word_at T (b - offset)) word) (word_in ms b)) h)
    (cond t (on_found (λ o S. further o (match_at S T (b - offset))) unmatched (member_named x ss)) (match_in ss ms b))
unfolding match_at word_at
in_member true x offset T word ms ss h b down next =
    rw (asked_outer (word_at T (b - offset)) word h)
    (found_alike (λ o S. further o (match_at S (stopping (asked word h) T) (b - offset)))
    (λ o S. if_stop (asked (word_at T (b - offset)) (asked word h)) (further o (match_at S T (b - offset)))) unmatched
    (λ o S. ap (further o) (down S) ∙ if_further o (asked (word_at T (b - offset)) (asked word h)) (match_at S T (b - offset))) (member_named x ss)
    ∙ if_found (asked (word_at T (b - offset)) (asked word h)) (λ o S. further o (match_at S T (b - offset))) (member_named x ss))
in_member false x offset T word ms ss h b down next = next

mutual
  unfolding match_at word_at

  matches : (D S : Datatype) (h b : ℕ) → match_at S (stopping h D) b ≡ if_stop (asked (word_at D b) h) (match_at S D b)
  matches (leaf y) S h b = leaf_match h y S b
  matches (compound z ms) S h b =
      ap (λ (m : Match). cond (is_compound S) m unmatched) (matches_in ms (members_of S) h b)
      ∙ if_cond (is_compound S) (asked (word_in ms b) h) (match_in (members_of S) ms b)
  matches (array z ds T) S h b =
      rw (stopping_size h T)
      (ap (λ (m : Match). cond (is_array_like S ds && ltb b z) (further (b / size T * size (base_of S)) m) unmatched) (matches T (base_of S) h (b % size T))
      ∙ ap (λ (m : Match). cond (is_array_like S ds && ltb b z) m unmatched)
      (if_further (b / size T * size (base_of S)) (asked (word_at T (b % size T)) h) (match_at (base_of S) T (b % size T)))
      ∙ if_cond (is_array_like S ds && ltb b z) (asked (word_at T (b % size T)) h) (further (b / size T * size (base_of S)) (match_at (base_of S) T (b % size T))))

  matches_in : (ms ss : Members) (h b : ℕ) → match_in ss (stopping_in h ms) b ≡ if_stop (asked (word_in ms b) h) (match_in ss ms b)
  matches_in empty ss h b = elim (asked Silent h) as (λ k. unmatched ≡ if_stop k unmatched) [ zero ↦ refl | suc k ↦ refl ]
  matches_in (member x offset T word ms) ss h b =
      rw (stopping_size (asked word h) T)
      (in_member (within offset (size T) b) x offset T word ms ss h b (λ S. matches T S (asked word h) (b - offset)) (matches_in ms ss h b))

pub stopping_match : (h : ℕ) (S D : Datatype) (b : ℕ) → match_at S (stopping h D) b ≡ if_stop (handling_at h D b) (match_at S D b)
unfolding handling_at
stopping_match h S D b = matches D S h b
