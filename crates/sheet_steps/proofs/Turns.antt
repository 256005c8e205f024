-- One line of a sheet, as the loop that reads a sheet takes it. Assumes nothing.
use mathlib.Core.Path.{◌≡◌, refl, sym, ap, ap₂, subst, ◌∙◌}
use mathlib.Core.Bool.{Bool, true, false, cond, not, ◌&&◌, false≢true}
use mathlib.Core.List.{List, [], ◌∷◌}
use mathlib.Core.Option.{Option, none, some}
use Prim.Native.Nat.{ℕ, zero, suc, ◌+◌, ◌-◌, ◌^◌, ◌≤◌, ◌<◌}
use native.Mathlib.Omega.{arith}
use borrow.Author.Tests.{ltb-true, ltb-false, leb-true, lt-ltb, le-ltb}
use lib.Dec.{ltb, leb, eqb}
use lib.IntN.{ℤ, pos, negsuc}
use lib.ListN.{length, get_or, take, drop}
use lib.Pow.{pow_mono}
use Rattle.layout.specs.declared.Layout.{Layout}
use Rattle.layout.specs.Layout.{Valid}
use Rattle.number.specs.declared.Fitted.{Fitted}
use Rattle.number.specs.Number.{fitted, fitted_to}
use Rattle.number.proofs.Range.{unsigned_above, signed_above, signed_below}
use Rattle.datatype.specs.Datatype.{Symbol, Datatype}
use Rattle.datatype.specs.Datatype.Leaf.{atomic, enumeration, real}
use Rattle.datatype.specs.Datatype.Datatype.{leaf, compound, array}
use Rattle.datatype.specs.Symbols.{on_some}
use Rattle.datatype.proofs.Tests.{nothing, and_true}
use Rattle.text.specs.Text.{newline, split, before}
use Rattle.text.specs.Field.{◌>>=◌, when}
use Rattle.text.specs.Place.{line_at, line_end, lines_after, newline_at}
use Rattle.text.proofs.Until.{drop_next}
use Rattle.text.proofs.Places.{lines_at, line_end_byte}
use Rattle.line.specs.Line as said
use Rattle.line.specs.Line.{line_of}
use Rattle.line.specs.Line.Line.{atomic_line, enum_line, value_line, compound_line, member_line, array_line, real_line}
use Rattle.line.specs.declared.Line.{Line}
use Rattle.line.specs.declared.Line.TheVariants.{Value, Member}
use Rattle.datatype.specs.declared.Word.{Word}
use Rattle.line.specs.declared.ReadLine.{ReadLine}
use Rattle.std.specs.Prelude as code
use Rattle.line.specs.Column.{holdable}
use Rattle.line.specs.Read.{name_within, name_in, readable, says, next_of, Reading, as_reading, reading, reading_to, line_reading}
use Rattle.line.specs.Read.Reading.{faulty as unread}
use Rattle.line.proofs.Columns.{byte_inside}
use Rattle.table.specs.Table.{bytes_at}
use Rattle.sheet.specs.Sheet.{SoFar, array_of, add_type, type_numbered, on_newest, with_value, judged_after, judge, is_nil, is_none, lines_from, Outcome}
use Rattle.sheet.specs.Sheet.Outcome.{accepted, faulty}
use Rattle.sheet_steps.specs.Read.{read_judged}
use Rattle.sheet.proofs.ReadWellFormed.{EachWellFormed}

-- a name in the text, as the table has it
pub name_bytes : (t : List ℕ) (a k : ℕ) → a + k ≤ length t → bytes_at t a k ≡ take k (drop a t)
unfolding bytes_at
name_bytes t a zero h = refl
name_bytes t a (suc k) h =
    ap (λ (l : List ℕ). get_or t a 0 ∷ l) (name_bytes t (a + 1) k (omega arith)) ∙ sym (ap (take (suc k)) (drop_next t a (omega arith)))

-- where the name of a value or a member lies
pub name_inside : (t : List ℕ) (a e : ℕ) → name_within t a e ≡ true → (a < e) × (e ≤ length t)
unfolding name_within
name_inside t a e h =
    let u = and_true (ltb a e && leb e (a + 31)) (leb e (length t)) h in
    let v = and_true (ltb a e) (leb e (a + 31)) u.0 in
    (ltb-true a e v.0, leb-true e (length t) u.1)

pub value_inside : (t : List ℕ) (l : Line) {a e d n : ℕ} {b : Bool} → name_in t l ≡ true → l ≡ Value a e b d n → (a < e) × (e ≤ length t)
value_inside t l {a} {e} h q = name_inside t a e (rw q at h)

pub member_inside : (t : List ℕ) (l : Line) {a e o k : ℕ} {word : Word} {n : ℕ} → name_in t l ≡ true → l ≡ Member a e o k word n → (a < e) × (e ≤ length t)
member_inside t l {a} {e} h q = name_inside t a e (rw q at h)

-- ---- a line that no answer can hold is refused

out_of_range : (signed : Bool) (p : ℕ) (z : ℤ) → p ≤ 64 → holdable z ≡ false → eqb (fitted_to signed p z).kind 0 ≡ false
out_of_range false p (pos n) h e =
    let m : 2 ^ p ≤ 2 ^ 64 = pow_mono {j = 64} h in
    let g : 2 ^ 64 ≤ n = ltb-false n (2 ^ 64) e in
    ap (λ (f : Fitted). eqb f.kind 0) (unsigned_above p n (omega arith))
out_of_range true p (pos n) h e =
    let m : 2 ^ (p - 1) ≤ 2 ^ 64 = pow_mono {j = 64} (omega arith) in
    let g : 2 ^ 64 ≤ n = ltb-false n (2 ^ 64) e in
    ap (λ (f : Fitted). eqb f.kind 0) (signed_above p n (omega arith))
out_of_range false p (negsuc n) h e = refl
out_of_range true p (negsuc n) h e =
    let m : 2 ^ (p - 1) ≤ 2 ^ 63 = pow_mono {j = 63} (omega arith) in
    let g : 2 ^ 63 ≤ n = ltb-false n (2 ^ 63) e in
    ap (λ (f : Fitted). eqb f.kind 0) (signed_below p n (omega arith))

and_false : (a : Bool) → (a && false) ≡ false
and_false true = refl
and_false false = refl

value_refused : (s : SoFar) (ts : List Datatype) (x : List ℕ) (z : ℤ) → EachWellFormed ts → holdable z ≡ false → on_newest (with_value x z) s ts ≡ none
value_refused s [] x z w e = refl
value_refused s (leaf (atomic l) ∷ ts) x z w e = refl
value_refused s (leaf (enumeration l ss) ∷ ts) x z w e = rw (out_of_range l.signed l.precision z w.0.base.most e, and_false) refl
value_refused s (leaf (real l) ∷ ts) x z w e = refl
value_refused s (compound u ms ∷ ts) x z w e = refl
value_refused s (array u ds T ∷ ts) x z w e = refl

array_refused : (s : SoFar) (o : Option Datatype) (base : ℕ) (ds : List ℕ) → readable (array_line base ds) ≡ false → (o >>= array_of ds >>= add_type s) ≡ none
array_refused s none base ds e = refl
array_refused s (some T) base ds e = rw e refl

unreadable : (s : SoFar) (x : said.Line) → EachWellFormed s.types → readable x ≡ false → judged_after s x ≡ none
unreadable s (atomic_line l) w e = absurd (false≢true (sym e))
unreadable s (enum_line base) w e = absurd (false≢true (sym e))
unreadable s (value_line x z) w e = value_refused s s.types x z w e
unreadable s (compound_line z) w e = absurd (false≢true (sym e))
unreadable s (member_line x offset k word) w e = absurd (false≢true (sym e))
unreadable s (array_line base ds) w e = array_refused s (type_numbered base s.types) base ds e
unreadable s (real_line z o) w e = absurd (false≢true (sym e))

judged_alike : (s : SoFar) (o : Option said.Line) → EachWellFormed s.types → ((o >>= λ x. when (readable x) x) >>= judged_after s) ≡ (o >>= judged_after s)
judged_alike s none w = refl
judged_alike s (some x) w = go (readable x) refl
  where
    go : (b : Bool) → readable x ≡ b → (when b x >>= judged_after s) ≡ judged_after s x
    go true e = refl
    go false e = sym (unreadable s x w e)

-- ---- what an answer says

same_line : (o p : Option said.Line) (m n : ℕ) → as_reading o m ≡ as_reading p n → o ≡ p
same_line none none m n e = refl
same_line none (some y) m n e = let z : ◌≡◌ {A = ℕ} 0 1 = cc in absurd (omega arith)
same_line (some x) none m n e = let z : ◌≡◌ {A = ℕ} 0 1 = cc in absurd (omega arith)
same_line (some x) (some y) m n e = let z : x ≡ y = cc in ap some z

same_next : {x : said.Line} (o p : Option said.Line) (m n : ℕ) → as_reading o m ≡ as_reading p n → o ≡ some x → m ≡ n
same_next none p m n e g = nothing g
same_next (some x) none m n e g = let z : ◌≡◌ {A = ℕ} 0 1 = cc in absurd (omega arith)
same_next (some x) (some y) m n e g = cc

no_line : (o : Option said.Line) (m : ℕ) → as_reading o m ≡ unread → o ≡ none
no_line none m e = refl
no_line (some x) m e = let z : ◌≡◌ {A = ℕ} 0 1 = cc in absurd (omega arith)

-- ---- a text has at least one piece

split_some : (c : ℕ) (bs : List ℕ) → is_nil (split c bs) ≡ false
unfolding split
split_some c [] = refl
split_some c (b ∷ bs) = go (eqb b c) (split c bs)
  where
    go : (t : Bool) (ps : List (List ℕ)) → is_nil (cond t ([] ∷ ps) (before b ps)) ≡ false
    go true ps = refl
    go false [] = refl
    go false (p ∷ ps) = refl

some_nil : (l : List ℕ) → 0 < length l → is_nil l ≡ false
some_nil [] h = absurd (omega arith)
some_nil (b ∷ bs) h = refl

-- ---- the line at a place

-- what becomes of the lines from a place on, where the line there was read as r and judged
pub record Turn (t : List ℕ) (at k : ℕ) (s : SoFar) (r : code.Option ReadLine) : Type 0 where
  pub refused : read_judged t r s ≡ none → lines_from k s (split newline (drop at t)) ≡ faulty k
  pub goes_on : (u : SoFar) → read_judged t r s ≡ some u → lines_from k s (split newline (drop at t)) ≡ lines_from (suc k) u (split newline (drop (next_of r) t))
  pub further : (u : SoFar) → read_judged t r s ≡ some u → at < next_of r
  pub inside : (u : SoFar) → read_judged t r s ≡ some u → next_of r ≤ length t

module _ (t : List ℕ) (at k : ℕ) (s : SoFar) (formed : EachWellFormed s.types) (below : at < length t) (r : code.Option ReadLine) (told : reading t r ≡ line_reading t at) where
  ended_line : newline_at t (line_end t at) ≡ true → as_reading (says t r) (next_of r) ≡ as_reading (line_of (line_at t at) >>= λ x. when (readable x) x) (line_end t at + 1)
  unfolding reading_to
  ended_line h = told ∙ rw h refl

  cut_line : newline_at t (line_end t at) ≡ false → says t r ≡ none
  unfolding reading_to
  cut_line h = no_line (says t r) (next_of r) (told ∙ rw h refl)

  -- the line has its byte 10
  as_judged : newline_at t (line_end t at) ≡ true → read_judged t r s ≡ judge s (line_at t at)
  unfolding judge
  as_judged h =
      ap (λ (o : Option said.Line). o >>= judged_after s) (same_line (says t r) (line_of (line_at t at) >>= λ x. when (readable x) x) (next_of r) (line_end t at + 1) (ended_line h))
      ∙ judged_alike s (line_of (line_at t at)) formed

  more : newline_at t (line_end t at) ≡ true → lines_after t (line_end t at) ≡ split newline (drop (line_end t at + 1) t)
  unfolding lines_after
  more h = rw (lt-ltb (line_end t at) (length t) (byte_inside t (line_end t at) newline (omega arith) h)) refl

  next_is : {x : said.Line} → newline_at t (line_end t at) ≡ true → says t r ≡ some x → next_of r ≡ line_end t at + 1
  next_is h g = same_next (says t r) (line_of (line_at t at) >>= λ x. when (readable x) x) (next_of r) (line_end t at + 1) (ended_line h) g

  said_some : {u : SoFar} → read_judged t r s ≡ some u → (x : said.Line) × (says t r ≡ some x)
  said_some g = go (says t r) refl g
    where
      go : {u : SoFar} (o : Option said.Line) → says t r ≡ o → (o >>= judged_after s) ≡ some u → (x : said.Line) × (says t r ≡ some x)
      go none h f = nothing f
      go (some x) h f = (x, h)

  -- the lines from here on, by the line here
  lines_ended : newline_at t (line_end t at) ≡ true
      → lines_from k s (split newline (drop at t)) ≡ on_some (λ u. lines_from (suc k) u (split newline (drop (line_end t at + 1) t))) (faulty k) (judge s (line_at t at))
  unfolding lines_from
  lines_ended h = rw (lines_at t at, more h, split_some newline (drop (line_end t at + 1) t)) refl

  lines_cut : newline_at t (line_end t at) ≡ false → lines_from k s (split newline (drop at t)) ≡ faulty k
  unfolding lines_from lines_after
  lines_cut h = rw (lines_at t at, le-ltb (line_end t at) (length t) past, some_nil (line_at t at) (omega (arith, past))) refl
    where
      past : length t ≤ line_end t at
      past = go (ltb (line_end t at) (length t)) refl
        where
          go : (b : Bool) → ltb (line_end t at) (length t) ≡ b → length t ≤ line_end t at
          go true x = absurd (false≢true (sym h ∙ line_end_byte t at (ltb-true (line_end t at) (length t) x)))
          go false x = ltb-false (line_end t at) (length t) x

  pub turn : Turn t at k s r
  turn = go (newline_at t (line_end t at)) refl
    where
      go : (b : Bool) → newline_at t (line_end t at) ≡ b → Turn t at k s r
      go true h =
          record {
            refused = λ g. lines_ended h ∙ rw (sym (as_judged h) ∙ g) refl;
            goes_on = λ u g.
                lines_ended h ∙ rw (sym (as_judged h) ∙ g) (ap (λ (p : ℕ). lines_from (suc k) u (split newline (drop p t))) (sym (next_is h (said_some g).1)));
            further = λ u g. let n = next_is h (said_some g).1 in omega arith;
            inside = λ u g.
                let n = next_is h (said_some g).1 in
                let l = byte_inside t (line_end t at) newline (omega arith) h in
                omega arith;
          }
      go false h =
          record {
            refused = λ g. lines_cut h;
            goes_on = λ u g. nothing (sym (ap (λ (o : Option said.Line). o >>= judged_after s) (cut_line h)) ∙ g);
            further = λ u g. nothing (sym (ap (λ (o : Option said.Line). o >>= judged_after s) (cut_line h)) ∙ g);
            inside = λ u g. nothing (sym (ap (λ (o : Option said.Line). o >>= judged_after s) (cut_line h)) ∙ g);
          }
