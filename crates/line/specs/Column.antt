-- The columns of a line, each read at the place where the field before it ended.
use Rattle.std.specs.Prelude.{Bool, false, cond, List, ℕ, ◌+◌, ◌-◌, ◌^◌, take, drop, ltb, ℤ, pos, negsuc, Option, Some, None}
use Rattle.std.proofs.Math.Option as math
use Rattle.layout.specs.declared.Class.{Class}
use Rattle.layout.specs.declared.Layout.{Layout}
use Rattle.number.specs.Parts.{signed_by}
use Rattle.text.specs.Field.{when, ◌>>=◌, number, enum_number}
use Rattle.text.specs.Place.{field_at, field_end, tab_at, newline_at, as_field}
use Rattle.text.specs.declared.Field.{Field}
use Rattle.text.specs.declared.Whole.{Whole}
use Rattle.line.specs.Line.{order, pad, layout}
use Rattle.line.specs.declared.Name.{Name}

-- from -2^63 up to 2^64 - 1
abbrev pub holdable : ℤ → Bool
holdable (pos n) = ltb n (2 ^ 64)
holdable (negsuc n) = ltb n (2 ^ 63)

-- the column behind a field that ended at q
unfoldable pub column_at : {A : Type 0} → (List ℕ → math.Option A) → List ℕ → ℕ → Option (Field A)
column_at read s q = cond (tab_at s q) (as_field (read (field_at s (q + 1))) (field_end s (q + 1))) None

-- the column behind a field that ended at q, if the line has one; else it is `absent`, and ends at q itself
unfoldable pub optional_at : {A : Type 0} → (List ℕ → math.Option A) → A → List ℕ → ℕ → Option (Field A)
optional_at read absent s q = cond (tab_at s q) (as_field (read (field_at s (q + 1))) (field_end s (q + 1))) (Some (record { value = absent; end = q }))

-- what is made of a column
unfoldable pub on_found : {A R : Type 0} → Option (Field A) → (A → ℕ → R) → R → R
on_found (Some f) k bad = k f.value f.end
on_found None k bad = bad

-- an enum's number that an answer can hold
unfoldable pub whole_number : List ℕ → math.Option ℤ
whole_number f = enum_number f >>= λ z. when (holdable z) z

-- where the next line starts, if this one has its byte 10 at q
unfoldable pub next_at : List ℕ → ℕ → Option ℕ
next_at s q = cond (newline_at s q) (Some (q + 1)) None

-- ---- what the readers' answers mean

abbrev pub found_whole : Option (Field Whole) → Option (Field ℤ)
found_whole (Some f) = Some (record { value = signed_by f.value.negative f.value.distance; end = f.end })
found_whole None = None

abbrev pub found_name : List ℕ → Option Name → Option (Field (List ℕ))
found_name s (Some n) = Some (record { value = take (n.end - n.start) (drop n.start s); end = n.end })
found_name s None = None

-- ---- the columns of a layout

-- ⇥size⇥order⇥offset⇥precision⇥lsb⇥msb, as an unsigned layout
unfoldable pub layout_at : Class → List ℕ → ℕ → Option (Field Layout)
layout_at class s q =
    on_found (column_at number s q)
    (λ size a. on_found (column_at order s a)
    (λ o b. on_found (column_at number s b)
    (λ offset c. on_found (column_at number s c)
    (λ precision d. on_found (column_at pad s d)
    (λ lsb e. on_found (column_at pad s e)
    (λ msb n. Some (record { value = layout class size o offset precision lsb msb false; end = n }))
    None) None) None) None) None) None

-- l with another sign
abbrev pub signed_as : Layout → Bool → Layout
signed_as l b =
    record { class = l.class; size = l.size; order = l.order; offset = l.offset; precision = l.precision; lsb = l.lsb; msb = l.msb; signed = b }
