-- The lines of a text by the places where they start. Assumes nothing.
use mathlib.Core.Path.{◌≡◌, refl, sym, ap, ◌∙◌}
use mathlib.Core.Bool.{Bool, true, false, cond}
use mathlib.Core.List.{List, [], ◌∷◌}
use Prim.Native.Nat.{ℕ, zero, suc, ◌+◌, ◌-◌, ◌≤◌, ◌<◌}
use native.Mathlib.Omega.{arith}
use borrow.Author.Rules.{rules}
use borrow.Author.Tests.{eq-eqb, ne_eqb, eqb-true, eqb-false}
use lib.Dec.{eqb}
use lib.ListN.{length, get_or, take, drop, length-take, length-drop}
use lib.Seq.{drop-drop}
use Rattle.text.specs.Text.{newline, split, before}
use Rattle.text.proofs.Until.{drop_next}
use Rattle.reader.specs.Lines.{end, ended, lines, line_numbered, bytes_of, place_after, line_from}

-- ---- the lines of a text, byte by byte

end_some : (bs : List ℕ) → end (split newline bs) ≡ newline ∷ []
unfolding split
end_some [] = refl
end_some (b ∷ bs) = go (eqb b newline) (split newline bs) where
  go : (x : Bool) (ps : List (List ℕ)) → end (cond x ([] ∷ ps) (before b ps)) ≡ newline ∷ []
  go true ps = refl
  go false [] = refl
  go false (p ∷ ps) = refl

ended_before : (b : ℕ) (ps : List (List ℕ)) → ended (before b ps) ≡ before b (ended ps)
unfolding ended
ended_before b [] = refl
ended_before b (p ∷ ps) = refl

pub lines_none : lines [] ≡ [] ∷ []
unfolding lines split ended
lines_none = refl

-- a byte 10 is a line by itself, and any other byte stands before the first line
pub lines_byte : (b : ℕ) (bs : List ℕ) → lines (b ∷ bs) ≡ cond (eqb b newline) ((newline ∷ []) ∷ lines bs) (before b (lines bs))
unfolding lines split ended
lines_byte b bs = go (eqb b newline) where
  go : (x : Bool) → ended (cond x ([] ∷ split newline bs) (before b (split newline bs)))
      ≡ cond x ((newline ∷ []) ∷ ended (split newline bs)) (before b (ended (split newline bs)))
  go true = ap (λ (l : List ℕ). l ∷ ended (split newline bs)) (end_some bs)
  go false = ended_before b (split newline bs)

-- ---- the first line of a text, and the lines behind it

bytes_none : (n : ℕ) → bytes_of n [] ≡ 0
unfolding bytes_of
bytes_none zero = refl
bytes_none (suc n) = refl

bytes_empty : (n : ℕ) → bytes_of n ([] ∷ []) ≡ 0
unfolding bytes_of
bytes_empty zero = refl
bytes_empty (suc n) = omega (arith, bytes_none n)

bytes_before : (n b : ℕ) (ls : List (List ℕ)) → bytes_of (suc n) (before b ls) ≡ suc (bytes_of (suc n) ls)
unfolding bytes_of
bytes_before n b [] = omega (arith, bytes_none n)
bytes_before n b (l ∷ ls) = omega arith

number_before : (k b : ℕ) (ls : List (List ℕ)) → get_or (before b ls) (suc k) [] ≡ get_or ls (suc k) []
number_before k b [] = refl
number_before k b (l ∷ ls) = refl

first_before : (b : ℕ) (ls : List (List ℕ)) → get_or (before b ls) 0 [] ≡ b ∷ get_or ls 0 []
first_before b [] = refl
first_before b (l ∷ ls) = refl

-- the first line of a text has f bytes, and the text behind it has the lines behind the first
pub record Behind (t : List ℕ) (f : ℕ) : Type 0 where
  pub within : f ≤ length t
  pub first : line_numbered t 0 ≡ take f t
  pub bytes : (n : ℕ) → bytes_of (suc n) (lines t) ≡ f + bytes_of n (lines (drop f t))
  pub numbers : (k : ℕ) → line_numbered t (suc k) ≡ line_numbered (drop f t) k

number_none : (k : ℕ) → ◌≡◌ {A = List ℕ} (get_or ([] ∷ []) k []) (get_or [] k [])
number_none zero = refl
number_none (suc k) = refl

behind_none : Behind [] 0
unfolding line_numbered bytes_of
behind_none =
    record {
      within = omega arith;
      first = rw lines_none refl;
      bytes = λ n. rw lines_none (omega (arith, bytes_none n, bytes_empty n));
      numbers = λ k. rw lines_none (sym (number_none k));
    }

module _ (b : ℕ) (bs : List ℕ) where
  behind_newline : b ≡ newline → Behind (b ∷ bs) 1
  unfolding line_numbered bytes_of
  behind_newline e =
      let l : lines (b ∷ bs) ≡ (newline ∷ []) ∷ lines bs = lines_byte b bs ∙ simp (eq-eqb _ _ e) in
      record {
        within = omega arith;
        first = rw l (ap (λ (c : ℕ). c ∷ []) (sym e));
        bytes = λ n. rw l (omega arith);
        numbers = λ k. rw l refl;
      }

  behind_other : {f : ℕ} → (b ≡ newline → ⊥) → Behind bs f → Behind (b ∷ bs) (suc f)
  unfolding line_numbered
  behind_other {f} e h =
      let l : lines (b ∷ bs) ≡ before b (lines bs) = lines_byte b bs ∙ simp (ne_eqb _ _ e) in
      record {
        within = omega (arith, h.within);
        first = rw l (first_before b (lines bs) ∙ ap (λ (t : List ℕ). b ∷ t) h.first);
        bytes = λ n. rw l (bytes_before n b (lines bs) ∙ omega (arith, h.bytes n));
        numbers = λ k. rw l (number_before k b (lines bs) ∙ h.numbers k);
      }

behind : (t : List ℕ) → (f : ℕ) × Behind t f
behind [] = (0, behind_none)
behind (b ∷ bs) = go (eqb b newline) refl (behind bs) where
  go : (x : Bool) → eqb b newline ≡ x → (f : ℕ) × Behind bs f → (f : ℕ) × Behind (b ∷ bs) f
  go true e h = (1, behind_newline b bs (eqb-true b newline e))
  go false e h = (suc h.0, behind_other b bs (eqb-false b newline e) h.1)

-- ---- the lines from a place on

module _ (s : List ℕ) where
  pub place_here : (at : ℕ) → place_after s at 0 ≡ at
  unfolding place_after bytes_of
  place_here at = omega arith

  module _ (at : ℕ) where
    -- the line at a place, and where it ends
    pub record Line : Type 0 where
      pub size : ℕ
      pub ends : place_after s at 1 ≡ at + size
      pub inside : size ≤ length s - at
      pub is : line_from s at ≡ take size (drop at s)
      pub later : (n : ℕ) → place_after s at (suc n) ≡ place_after s (at + size) n
      pub number : (k : ℕ) → line_numbered (drop at s) (suc k) ≡ line_numbered (drop (at + size) s) k

    pub line_here : Line
    unfolding place_after line_from bytes_of
    line_here =
        let b : (f : ℕ) × Behind (drop at s) f = behind (drop at s) in
        let f : ℕ = b.0 in
        let d : drop f (drop at s) ≡ drop (at + f) s = drop-drop f at s in
        record {
          size = f;
          ends = omega (arith, b.1.bytes 0);
          inside = rw (length-drop at s) at b.1.within;
          is = b.1.first;
          later = λ n. rw (← d) (omega (arith, b.1.bytes n));
          number = λ k. rw (← d) (b.1.numbers k);
        }

  -- ---- the place behind a line, which is g

  module _ (i g : ℕ) (behind-line : place_after s i 1 ≡ g) where
    pub past : length s ≤ i → i ≡ g
    past h = let l : Line i = line_here i in omega (arith, l.ends, l.inside)

    module _ (h : i < length s) where
      pub at_newline : get_or s i 0 ≡ 10 → i + 1 ≡ g
      unfolding place_after bytes_of
      at_newline e =
          let b : Behind (get_or s i 0 ∷ drop (i + 1) s) 1 = behind_newline (get_or s i 0) (drop (i + 1) s) e in
          let there : i + bytes_of 1 (lines (get_or s i 0 ∷ drop (i + 1) s)) ≡ g = rw (drop_next s i h) at behind-line in
          omega (arith, b.bytes 0)

      pub at_other : (get_or s i 0 ≡ 10 → ⊥) → place_after s (i + 1) 1 ≡ g
      unfolding place_after bytes_of
      at_other e =
          let b : (f : ℕ) × Behind (drop (i + 1) s) f = behind (drop (i + 1) s) in
          let c : Behind (get_or s i 0 ∷ drop (i + 1) s) (suc b.0) = behind_other (get_or s i 0) (drop (i + 1) s) e b.1 in
          let there : i + bytes_of 1 (lines (get_or s i 0 ∷ drop (i + 1) s)) ≡ g = rw (drop_next s i h) at behind-line in
          omega (arith, b.1.bytes 0, c.bytes 0)

  -- ---- the place behind n lines, which is g, when k of them are behind the place p

  module _ (p n k g : ℕ) (behind-lines : place_after s p (n - k) ≡ g) where
    pub skipped : n ≤ k → p ≡ g
    skipped h = let z : n - k ≡ 0 = omega arith in sym (place_here p) ∙ (rw z at behind-lines)

    pub skip_more : (q : ℕ) → k < n → q ≡ place_after s p 1 → place_after s q (n - (k + 1)) ≡ g
    skip_more q h e =
        let l : Line p = line_here p in
        let z : n - k ≡ suc (n - (k + 1)) = omega arith in
        rw (e, l.ends) (sym (l.later (n - (k + 1))) ∙ (rw z at behind-lines))

  pub skip_all : (at n : ℕ) → place_after s at (n - 0) ≡ place_after s at n
  skip_all at n = let z : n - 0 ≡ n = omega arith in rw z refl

  -- ---- the line at a place, up to the place e behind it

  module _ (at : ℕ) where
    pub no_line : length s < at → take 0 s ≡ line_from s at
    no_line h =
        let l : Line at = line_here at in
        let z : l.size ≡ 0 = omega (arith, l.inside) in
        sym (l.is ∙ ap (λ (n : ℕ). take n (drop at s)) z)

    module _ (e : ℕ) (behind-line : e ≡ place_after s at 1) where
      pub line_starts : at ≤ e
      line_starts = omega (arith, (line_here at).ends)

      pub line_inside : at ≤ length s → e ≤ length s
      line_inside h = let l : Line at = line_here at in omega (arith, l.ends, l.inside)

      pub line_is : take (e - at) (drop at s) ≡ line_from s at
      line_is =
          let l : Line at = line_here at in
          let z : e - at ≡ l.size = omega (arith, l.ends) in
          ap (λ (n : ℕ). take n (drop at s)) z ∙ sym l.is

pub ruleset next_laws = (rules, past, at_newline, at_other)

pub ruleset skip_laws = (rules, skip_all, skipped, skip_more)

pub ruleset line_laws = (rules, no_line, line_starts, line_inside, line_is)

-- ---- lines by their numbers

-- line k of a text is the line at the place behind the first k lines
pub numbered : (k at : ℕ) (s : List ℕ) → line_from s (place_after s at k) ≡ line_numbered (drop at s) k
unfolding line_from
numbered zero at s = rw (place_here s at) refl
numbered (suc k) at s =
    let l : Line s at = line_here s at in
    rw (l.later k) (numbered k (at + l.size) s ∙ sym (l.number k))

pub number_length : (k : ℕ) (s : List ℕ) → length (line_numbered s k) ≤ length s
number_length k s =
    let l : Line s (place_after s 0 k) = line_here s (place_after s 0 k) in
    let e : length (line_numbered s k) ≡ length (take l.size (drop (place_after s 0 k) s)) = ap length (sym (numbered k 0 s) ∙ l.is) in
    omega (arith, length-take l.size (drop (place_after s 0 k) s), length-drop (place_after s 0 k) s)
