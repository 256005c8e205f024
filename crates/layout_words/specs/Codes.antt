-- The setters with numbers for the layout: eight words are class, size, order, offset, precision, lsb, msb and sign.
use Rattle.std.specs.Prelude.{Bool, true, false, cond, ◌&&◌, List, [], ◌∷◌, ℕ, leb, eqb, get_or}
use Rattle.answer.specs.declared.Answer.TheVariants.{Range}
use Rattle.answer.specs.Answer.{number_of}
use Rattle.bits.specs.declared.Order.{Order}
use Rattle.bits.specs.declared.Order.TheVariants.{LE, BE}
use Rattle.layout.specs.declared.Class.{Class}
use Rattle.layout.specs.declared.Class.TheVariants.{Int, Bits}
use Rattle.layout.specs.declared.Pad.{Pad}
use Rattle.layout.specs.declared.Pad.TheVariants.{Zero, One, Keep}
use Rattle.layout.specs.declared.Layout.{Layout}
use Rattle.layout.specs.declared.Edited.{Edited}
use Rattle.layout.specs.Setters.{Edit, edit}

-- ---- a layout as words

abbrev pub class_code : Class → ℕ
class_code Int = 0
class_code Bits = 1

abbrev pub order_code : Order → ℕ
order_code LE = 0
order_code BE = 1

abbrev pub pad_code : Pad → ℕ
pad_code Zero = 0
pad_code One = 1
pad_code Keep = 2

abbrev pub sign_code : Bool → ℕ
sign_code false = 0
sign_code true = 1

abbrev pub layout_words : Layout → List ℕ
layout_words l =
    class_code l.class ∷ l.size.0 ∷ order_code l.order ∷ l.offset.0 ∷ l.precision ∷ pad_code l.lsb ∷ pad_code l.msb ∷ sign_code l.signed ∷ []

-- ---- words as a layout

-- what a number stands for, where it is a code
abbrev pub class_of : ℕ → Class
class_of n = cond (eqb n 0) Int Bits

abbrev pub order_of : ℕ → Order
order_of n = cond (eqb n 0) LE BE

abbrev pub pad_of : ℕ → Pad
pad_of n = cond (eqb n 0) Zero (cond (eqb n 1) One Keep)

abbrev pub sign_of : ℕ → Bool
sign_of n = eqb n 1

-- every word that must be a code is one
unfoldable pub is_coded : List ℕ → Bool
is_coded w = leb (get_or w 0 0) 1 && leb (get_or w 2 0) 1 && (leb (get_or w 5 0) 2 && leb (get_or w 6 0) 2) && leb (get_or w 7 0) 1

unfoldable pub layout_of : List ℕ → Layout
layout_of w =
    record {
      class = class_of (get_or w 0 0);
      size = record { 0 = get_or w 1 0 };
      order = order_of (get_or w 2 0);
      offset = record { 0 = get_or w 3 0 };
      precision = get_or w 4 0;
      lsb = pad_of (get_or w 5 0);
      msb = pad_of (get_or w 6 0);
      signed = sign_of (get_or w 7 0);
    }

-- ---- a setter's call

-- the number that it returns, and the layout's words after it
pub record Outcome : Type 0 where
  pub number : ℕ
  pub words : List ℕ

-- "9 RANGE" and the words w as they were where a word of them or the argument is no code; else what the setter answers, and its layout's words
unfoldable pub outcome : Bool → Edited → List ℕ → Outcome
outcome coded e w =
    cond coded
    (record { number = number_of e.answer; words = layout_words e.layout })
    (record { number = number_of Range; words = w })

-- the call e on the layout of the words w; `code` says whether the call's arguments are codes
abbrev pub setter_call : Bool → Edit → List ℕ → Outcome
setter_call code e w = outcome (code && is_coded w) (edit e (layout_of w)) w
