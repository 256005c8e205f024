-- Texts that are written piece by piece. Assumes nothing.
use mathlib.Core.Path.{◌≡◌, sym, ap, ◌∙◌}
use mathlib.Core.Bool.{Bool, true, false}
use mathlib.Core.List.{List, ◌++◌, map}
use Prim.Native.Nat.{ℕ, ◌+◌, ◌-◌, ◌≤◌, ◌<◌}
use native.Mathlib.Numerals.{add-one}
use native.Mathlib.Omega.{arith}
use borrow.Author.Rules.{rules}
use borrow.Author.Tests.{eq-eqb, ne_eqb}
use lib.ListN.{length, get_or, set, length-append, length-map, get_or-map}
use lib.Seq.{paste, paste-suc}
use Rattle.text.specs.Text.{bytes}
use Rattle.text.specs.Field.{decimal_of}
use Rattle.text.specs.Written.{Wrote}
use Rattle.text.proofs.Written.{wrote, wrote_none, wrote_then}
use Rattle.listing.specs.Output.{refused_line}
use Rattle.reader.specs.Lines.{line_numbered}
use Rattle.reader.proofs.Lines.{number_length}
use Rattle.listing.specs.Note.{shown, is_ended, ending, line_note, note_of}
use Rattle.listing.proofs.Lengths.{word_digits}

-- what `put_bytes` and `put_decimal` ensure: the bytes r from byte `at` on, up to byte `end`
abbrev Put : List ℕ → ℕ → List ℕ → List ℕ → ℕ → Type 0
Put before at r after end = (end ≡ at + length r) × (after ≡ paste before at r (length r))

-- r stands at the start, and s is put behind it
onward : {d e f : List ℕ} {m n : ℕ} (r s : List ℕ) → length r + length s ≤ length d → Wrote d 0 r e m → Put e m s f n → Wrote d 0 (r ++ s) f n
onward {d} {e} {m = m} r s room w p = wrote_then d 0 (omega arith) w (wrote e m (omega (arith, w.ends, w.same)) p)

-- ---- the line of a refusal

pub refused_wrote : {d e f g h i : List ℕ} {j k l m n : ℕ} (number line : ℕ) → number < 4294967296 → line < 4294967296 → 30 ≤ length d
    → Put d 0 (bytes "refused\t") e j → Put e j (decimal_of number) f k → Put f k (bytes "\t") g l → Put g l (decimal_of line) h m → Put h m (bytes "\n") i n
    → Wrote d 0 (refused_line number line) i n
unfolding refused_line
refused_wrote {d} number line a b room p q r s t =
    let x : length (decimal_of number) ≤ 10 = word_digits number a in
    let y : length (decimal_of line) ≤ 10 = word_digits line b in
    let one : List ℕ = bytes "refused\t" in
    let two : List ℕ = one ++ decimal_of number in
    let three : List ℕ = two ++ bytes "\t" in
    let four : List ℕ = three ++ decimal_of line in
    let u : length two ≡ 8 + length (decimal_of number) = length-append one (decimal_of number) in
    let v : length three ≡ 9 + length (decimal_of number) = length-append two (bytes "\t") ∙ omega arith in
    let w : length four ≡ 9 + length (decimal_of number) + length (decimal_of line) = length-append three (decimal_of line) ∙ omega arith in
    onward four (bytes "\n") (omega arith)
    (onward three (decimal_of line) (omega arith) (onward two (bytes "\t") (omega arith) (onward one (decimal_of number) (omega arith) (wrote d 0 (omega arith) p) q) r) s)
    t

-- ---- a line as it is shown

module _ (d₀ d : List ℕ) (at : ℕ) (w : List ℕ) (k : ℕ) (inv : d ≡ paste d₀ at (map shown w) k) where
  pub shown_next : (x : ℕ) → at + length w ≤ length d₀ → k < length w → x ≡ shown (get_or w k 0) → set d (at + k) x ≡ paste d₀ at (map shown w) (k + 1)
  shown_next x room h e =
      rw (inv, e, add-one, ← (get_or-map shown w k 0)) (paste-suc d₀ at (map shown w) k (shown 0) (omega arith) (omega (arith, length-map w shown)))

  pub shown_done : at + length w ≤ length d₀ → k ≡ length w → Wrote d₀ at (map shown w) d (at + length w)
  shown_done room e =
      let z : k ≡ length (map shown w) = e ∙ sym (length-map w shown) in
      wrote d₀ at (omega (arith, length-map w shown)) (ap (λ (n : ℕ). at + n) (sym (length-map w shown)), inv ∙ ap (paste d₀ at (map shown w)) z)

-- ---- a line's end

pub ending_none : (d : List ℕ) (at : ℕ) (e : Bool) → e ≡ true → Wrote d at (ending e) d at
ending_none d at e h = rw h (wrote_none d at)

pub ending_wrote : {d f : List ℕ} {n : ℕ} (at : ℕ) (e : Bool) → e ≡ false → at + 39 ≤ length d → Put d at (bytes "\nthe sheet ends there, without byte 10\n") f n → Wrote d at (ending e) f n
ending_wrote {d} at e h room p = rw h (wrote d at room p)

pub ruleset ending_laws = (rules, ending_none, ending_wrote)

-- ---- line k with its text

pub line_wrote : {d e f g h i : List ℕ} {j l m n o : ℕ} (k : ℕ) (line : List ℕ) {ended : Bool} → k < 4294967296 → length line + 100 ≤ length d
    → Put d 0 (bytes "line ") e j → Put e j (decimal_of k) f l → Put f l (bytes ": ") g m → Wrote g m (map shown line) h n → ended ≡ is_ended line → Wrote h n (ending ended) i o
    → Wrote d 0 (line_note k line) i o
unfolding line_note
line_wrote {d} k line a room p q r s e t =
    let x : length (decimal_of k) ≤ 10 = word_digits k a in
    let y : length (map shown line) ≡ length line = length-map line shown in
    let one : List ℕ = bytes "line " in
    let two : List ℕ = one ++ decimal_of k in
    let three : List ℕ = two ++ bytes ": " in
    let u : length two ≡ 5 + length (decimal_of k) = length-append one (decimal_of k) in
    let v : length three ≡ 7 + length (decimal_of k) = length-append two (bytes ": ") ∙ omega arith in
    let w : length (three ++ map shown line) ≡ 7 + length (decimal_of k) + length line = length-append three (map shown line) ∙ omega arith in
    wrote_then d 0 (omega arith)
    (wrote_then d 0 (omega arith) (onward two (bytes ": ") (omega arith) (onward one (decimal_of k) (omega arith) (wrote d 0 (omega arith) p) q) r) s)
    (rw e at t)

-- ---- what is said of a sheet

module _ (s : List ℕ) (k : ℕ) {d f : List ℕ} {n : ℕ} where
  pub note_long : k ≡ 0 → length s + 100 ≤ length d → Put d 0 (bytes "the sheet is longer than 16,384 bytes\n") f n → Wrote d 0 (note_of s k) f n
  unfolding note_of
  note_long z room p = rw (eq-eqb k 0 z) (wrote d 0 (omega arith) p)

  pub note_line : {line : List ℕ} → (k ≡ 0 → ⊥) → line ≡ line_numbered s (k - 1) → Wrote d 0 (line_note k line) f n → Wrote d 0 (note_of s k) f n
  unfolding note_of
  note_line z e w = rw (ne_eqb k 0 z, ← e) w

pub line_room : (s line out : List ℕ) (k : ℕ) → line ≡ line_numbered s k → length s + 100 ≤ length out → length line + 100 ≤ length out
line_room s line out k e room = omega (arith, ap length e, number_length k s)

pub ruleset note_laws = (rules, note_long, note_line, line_room)
