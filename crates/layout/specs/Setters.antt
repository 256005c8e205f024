-- Document 01, "Setters", and document 02, 2026-04: each takes a layout and arguments, and gives the answer and the layout after it.
use Rattle.std.specs.Prelude.{Bool, true, false, cond, ◌&&◌, List, [], ◌∷◌, ℕ, ◌+◌, ◌-◌, ◌*◌, ◌/◌, min, leb}
use Rattle.answer.specs.declared.Answer.TheVariants.{Done, Range}
use Rattle.bits.specs.declared.Order.{Order}
use Rattle.layout.specs.declared.Class.{Class}
use Rattle.layout.specs.declared.Class.TheVariants.{Int, Bits}
use Rattle.layout.specs.declared.Pad.{Pad}
use Rattle.layout.specs.declared.Layout.{Layout}
use Rattle.layout.specs.declared.Edited.{Edited}
use Rattle.layout.specs.Layout.{valid}

-- "9 RANGE: setter's argument or result outside its rule, or the given layout already breaks it."
-- "A setter that refuses returns the layout it was given." So: where l is valid and its argument is allowed, the layout m; else RANGE and l.
abbrev pub edited : Layout → Bool → Layout → Edited
edited l allowed m = cond (valid l && allowed) (record { answer = Done 0; layout = m }) (record { answer = Range; layout = l })

-- l with another size, offset and precision
abbrev pub resized : Layout → ℕ → ℕ → ℕ → Layout
resized l s o p =
    record { class = l.class; size = record { 0 = s }; order = l.order; offset = record { 0 = o }; precision = p; lsb = l.lsb; msb = l.msb; signed = l.signed }

-- the bytes that n bits need: n / 8 rounded up
abbrev pub bytes_for : ℕ → ℕ
bytes_for n = (n + 7) / 8

-- "size s': 1..8. p' = min(p, 8s'), o' = min(o, 8s' − p')."
unfoldable pub set_size : Layout → ℕ → Edited
set_size l s = edited l (leb 1 s && leb s 8) (resized l s (min l.offset.0 (8 * s - min l.precision (8 * s))) (min l.precision (8 * s)))

-- Document 02, 2026-04, with o and p for the new offset and precision: "grows size only if o' + p' passes 8 × size, to the least that holds it"
abbrev pub size_with_field : Layout → ℕ → ℕ → ℕ
size_with_field l o p = cond (leb (o + p) (8 * l.size.0)) l.size.0 (bytes_for (o + p))

-- "o' from 0 and p' from 1 to 64", "RANGE if size would pass 8"
abbrev pub field_allowed : Layout → ℕ → ℕ → Bool
field_allowed l o p = leb 1 p && leb p 64 && leb (size_with_field l o p) 8

-- "one call takes both .. leaves exactly these"
unfoldable pub set_field : Layout → ℕ → ℕ → Edited
set_field l o p = edited l (field_allowed l o p) (resized l (size_with_field l o p) o p)

-- "Order, pads and sign change only themselves; sign on a bits layout is refused."
unfoldable pub set_order : Layout → Order → Edited
set_order l order =
    edited l true
    (record { class = l.class; size = l.size; order = order; offset = l.offset; precision = l.precision; lsb = l.lsb; msb = l.msb; signed = l.signed })

unfoldable pub set_pads : Layout → Pad → Pad → Edited
set_pads l lsb msb =
    edited l true
    (record { class = l.class; size = l.size; order = l.order; offset = l.offset; precision = l.precision; lsb = lsb; msb = msb; signed = l.signed })

abbrev pub is_int : Class → Bool
is_int Int = true
is_int Bits = false

unfoldable pub set_sign : Layout → Bool → Edited
set_sign l signed =
    edited l (is_int l.class)
    (record { class = l.class; size = l.size; order = l.order; offset = l.offset; precision = l.precision; lsb = l.lsb; msb = l.msb; signed = signed })

-- ---- a sequence of setter calls

-- one call of a setter, with its arguments
pub data Edit : Type 0 where
  size : ℕ → Edit
  field : ℕ → ℕ → Edit  -- offset, then precision
  order : Order → Edit
  pads : Pad → Pad → Edit
  sign : Bool → Edit

abbrev pub edit : Edit → Layout → Edited
edit (size s) l = set_size l s
edit (field o p) l = set_field l o p
edit (order o) l = set_order l o
edit (pads lsb msb) l = set_pads l lsb msb
edit (sign signed) l = set_sign l signed

-- the layout after a sequence of calls
abbrev pub edit_all : List Edit → Layout → Layout
edit_all [] l = l
edit_all (e ∷ es) l = edit_all es (edit e l).layout
