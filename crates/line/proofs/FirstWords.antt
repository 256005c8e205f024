-- What a line says by its first word. Assumes nothing.
use borrow.Author.Rules.{rules}
use mathlib.Core.Path.{◌≡◌, refl, sym, ap, ◌∙◌}
use mathlib.Core.Bool.{Bool, true, false, cond}
use mathlib.Core.List.{List}
use mathlib.Core.Option.{Option, none, some}
use Rattle.std.specs.Prelude.{None, option_map}
use Rattle.std.specs.Prelude as std
use Prim.Native.Nat.{ℕ}
use Rattle.text.specs.Field.{◌>>=◌}
use Rattle.text.specs.Place.{field_at, field_end, line_end, fields_after, same_bytes}
use Rattle.text.proofs.Places.{fields_at}
use Rattle.line.specs.Line as said
use Rattle.line.specs.Line.{Fields, column, line_kind, line_of}
use Rattle.line.specs.Read.{Reading, reading_to, columns_reading, kind_reading, line_reading, plain_line, Reads}
use Rattle.line.specs.Read.Reading.{faulty}
use Rattle.line.specs.declared.Line.{Line}
use Rattle.line.specs.declared.ReadLine.{ReadLine}
use Rattle.line.proofs.Readings.{line_end_lem, reading_none}

-- ---- the first word

module _ (s : List ℕ) (at q : ℕ) (x : Reading) (end : q ≡ field_end s at) where
  kind_line : (k : Option (Fields → Option said.Line)) → kind_reading s (field_end s at) k ≡ reading_to s (line_end s at) (k >>= λ p. p (fields_after s (field_end s at)))
  unfolding kind_reading columns_reading
  kind_line none = reading_none s (line_end s at)
  kind_line (some p) = ap (λ (e : ℕ). reading_to s e (p (fields_after s (field_end s at)))) (sym (line_end_lem s at))

  pub line_is : x ≡ kind_reading s q (line_kind (field_at s at)) → x ≡ line_reading s at
  unfolding line_of column
  line_is h =
      h ∙ ap (λ (e : ℕ). kind_reading s e (line_kind (field_at s at))) end
      ∙ kind_line (line_kind (field_at s at))
      ∙ ap (λ (fs : Fields). reading_to s (line_end s at) (column line_kind (λ p gs. p gs) fs)) (sym (fields_at s at))

module _ (s : List ℕ) (q : ℕ) (x : Reading) where
  module _ (f w : List ℕ) (b : Bool) (same : b ≡ same_bytes f w) (p : Fields → Option said.Line) (o : Option (Fields → Option said.Line)) where
    pub kind_is : b ≡ true → x ≡ columns_reading s q p → x ≡ kind_reading s q (cond (same_bytes f w) (some p) o)
    unfolding kind_reading
    kind_is h is = simp (← same, h) is

    pub kind_not : b ≡ false → x ≡ kind_reading s q o → x ≡ kind_reading s q (cond (same_bytes f w) (some p) o)
    unfolding kind_reading
    kind_not h is = simp (← same, h) is

  pub no_kind : x ≡ faulty → x ≡ kind_reading s q none
  unfolding kind_reading
  no_kind h = h

-- ---- an answer

module _ (s : List ℕ) (x : Reading) where
  pub reads_same : (r : std.Option ReadLine) (y : Reading) → Reads s r y → y ≡ x → Reads s r x
  reads_same r y h e = record { tells = h.tells ∙ e; within = h.within }

  pub reads_plain : (r : std.Option ReadLine) (l : std.Option Line) (y : Reading) → r ≡ option_map plain_line l → Reads s (option_map plain_line l) y → y ≡ x → Reads s r x
  reads_plain r l y e h g = rw e (record { tells = h.tells ∙ g; within = h.within })

  pub reads_none : (r : std.Option ReadLine) → r ≡ None → faulty ≡ x → Reads s r x
  reads_none r e h = rw e (record { tells = h; within = refl })

pub ruleset kind_laws = (rules, line_is, kind_is, kind_not, no_kind, reads_same, reads_plain, reads_none)
