-- Document 02, 2026-04: what holds of the setter of the field, on every layout, an int's and a bits' alike. A field is an offset and a precision.
use Rattle.std.specs.Prelude.{◌≡◌, ℕ, ◌+◌, ◌*◌, ◌≤◌, max}
use Rattle.answer.specs.declared.Answer.TheVariants.{Done, Range}
use Rattle.layout.specs.declared.Layout.{Layout}
use Rattle.layout.specs.declared.Edited.{Edited}
use Rattle.layout.specs.Layout.{Valid}
use Rattle.layout.specs.Setters.{resized, bytes_for, set_field}

abbrev pub IsDone : Edited → Type 0
IsDone r = r.answer ≡ Done 0

-- "the least that holds it": s bytes hold n bits, and no fewer bytes do
pub record LeastHolding (n s : ℕ) : Type 0 where
  pub holds : n ≤ 8 * s
  pub least : (t : ℕ) → n ≤ 8 * t → s ≤ t

-- the layout keeps the rules, the precision is from 1 to 64, and the least size that holds the field is at most 8
pub record Takes (l : Layout) (o p : ℕ) : Type 0 where
  pub given : Valid l
  pub some : 1 ≤ p
  pub most : p ≤ 64
  pub room : bytes_for (o + p) ≤ 8

-- m is l with the field (o, p), whatever field l had
pub record HasField (l : Layout) (o p : ℕ) (m : Layout) : Type 0 where
  pub offset : m.offset.0 ≡ o
  pub precision : m.precision ≡ p
  -- the larger one of the given size and the least that holds the field
  pub size : m.size.0 ≡ max l.size.0 (bytes_for (o + p))
  -- all else is as it was
  pub others : m ≡ resized l m.size.0 m.offset.0 m.precision

pub record FieldLaws (l : Layout) (o p : ℕ) : Type 0 where
  -- the bytes that a field needs are the least that hold it
  pub bytes : LeastHolding (o + p) (bytes_for (o + p))
  -- done exactly when the layout takes the field; else RANGE, with the layout as it was given
  pub done : Takes l o p → IsDone (set_field l o p)
  pub takes : IsDone (set_field l o p) → Takes l o p
  pub refused : ¬ (Takes l o p) → set_field l o p ≡ record { answer = Range; layout = l }
  -- a bits layout takes what an int's takes: of valid layouts no part is asked for, the class neither
  pub alike : (k : Layout) → Valid l → Valid k → (set_field l o p).answer ≡ (set_field k o p).answer
  -- where it is done, offset and precision are exactly those asked for, and the size is the larger of the given one and the least that holds them
  pub exact : IsDone (set_field l o p) → HasField l o p (set_field l o p).layout
  -- to set the same field twice is to set it once
  pub twice : set_field (set_field l o p).layout o p ≡ set_field l o p

-- the first field set, and then the second
abbrev pub after_both : Layout → ℕ → ℕ → ℕ → ℕ → Edited
after_both l o₁ p₁ o₂ p₂ = set_field (set_field l o₁ p₁).layout o₂ p₂

pub record LastDecides (l : Layout) (o₁ p₁ o₂ p₂ : ℕ) : Type 0 where
  -- the last decides offset and precision, and the size is the largest of the given one and what each of the two needs
  pub last : (after_both l o₁ p₁ o₂ p₂).layout ≡ resized l (max (max l.size.0 (bytes_for (o₁ + p₁))) (bytes_for (o₂ + p₂))) o₂ p₂
  -- the second alone is done too, and all but the size is as it leaves it: the first field shows in the size alone
  pub alone : IsDone (set_field l o₂ p₂)
  pub in_size : (after_both l o₁ p₁ o₂ p₂).layout ≡ resized (set_field l o₂ p₂).layout (after_both l o₁ p₁ o₂ p₂).layout.size.0 o₂ p₂
  -- and not there either, unless the first needs more bytes than the second alone leaves
  pub only_larger : bytes_for (o₁ + p₁) ≤ (set_field l o₂ p₂).layout.size.0 → after_both l o₁ p₁ o₂ p₂ ≡ set_field l o₂ p₂

-- two fields one after the other, both done
abbrev pub TwoFields : Layout → ℕ → ℕ → ℕ → ℕ → Type 0
TwoFields l o₁ p₁ o₂ p₂ = IsDone (set_field l o₁ p₁) → IsDone (after_both l o₁ p₁ o₂ p₂) → LastDecides l o₁ p₁ o₂ p₂

pub record FirstShows (l : Layout) : Type 0 where
  pub both : (after_both l 0 40 0 8).layout.size.0 ≡ 5
  pub alone : (set_field l 0 8).layout.size.0 ≡ 1

-- from size 1, (0, 40) and then (0, 8) leaves size 5, and (0, 8) alone size 1
abbrev pub FromSizeOne : Layout → Type 0
FromSizeOne l = Valid l → l.size.0 ≡ 1 → FirstShows l
