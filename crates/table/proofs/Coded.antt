-- The numbers that stand for a layout's words, each way. Assumes nothing.
use mathlib.Core.Path.{◌≡◌, refl}
use mathlib.Core.Bool.{Bool, true, false}
use mathlib.Core.List.{List}
use Prim.Native.Nat.{ℕ}
use Rattle.bits.specs.declared.Order.{Order}
use Rattle.bits.specs.declared.Order.TheVariants.{LE, BE}
use Rattle.layout.specs.declared.Class.{Class}
use Rattle.layout.specs.declared.Class.TheVariants.{Int, Bits}
use Rattle.layout.specs.declared.Pad.{Pad}
use Rattle.layout.specs.declared.Pad.TheVariants.{Zero, One, Keep}
use Rattle.layout.specs.declared.Layout.{Layout}
use Rattle.datatype.specs.declared.Word.{Word}
use Rattle.datatype.specs.declared.Word.TheVariants.{Silent, Clamp, Stop}
use Rattle.table.specs.Table.{order_of, pad_of, flag_of, class_of, word_of, type_word, layout_at}
use Rattle.table.specs.Words.{Reads}
use Rattle.table.specs.Records.{order_code, pad_code, flag_code, class_code, word_code}

pub order_back : (x : Order) → order_of (order_code x) ≡ x
order_back LE = refl
order_back BE = refl

pub pad_back : (x : Pad) → pad_of (pad_code x) ≡ x
pad_back Zero = refl
pad_back One = refl
pad_back Keep = refl

pub word_back : (x : Word) → word_of (word_code x) ≡ x
word_back Silent = refl
word_back Clamp = refl
word_back Stop = refl

pub flag_back : (x : Bool) → flag_of (flag_code x) ≡ x
flag_back true = refl
flag_back false = refl

pub class_back : (x : Class) → class_of (class_code x) ≡ x
class_back Int = refl
class_back Bits = refl

-- a layout from the words that were read
pub layout_read : (w : List ℕ) (i : ℕ) {a s b o p x y z : ℕ} {class : Class} {order : Order} {lsb msb : Pad} {signed : Bool}
    → Reads (type_word w i 0) a → class ≡ class_of a → Reads (type_word w i 1) s → Reads (type_word w i 2) b → order ≡ order_of b
    → Reads (type_word w i 3) o → Reads (type_word w i 4) p → Reads (type_word w i 5) x → lsb ≡ pad_of x → Reads (type_word w i 6) y → msb ≡ pad_of y
    → Reads (type_word w i 7) z → signed ≡ flag_of z
    → ◌≡◌ {A = Layout} (record { class = class; size = record { 0 = s }; order = order; offset = record { 0 = o }; precision = p; lsb = lsb; msb = msb; signed = signed }) (layout_at w i)
unfolding layout_at
layout_read w i ra ec rs rb eo ro rp rx el ry em rz es =
    rw (← ra.is, ← rs.is, ← rb.is, ← ro.is, ← rp.is, ← rx.is, ← ry.is, ← rz.is, ec, eo, el, em, es) refl
