-- `obeying::handling_at` meets its contract. The invariant: the leaf obeys what the leaf at byte `at` of type k obeys, to the depth that is left. Assumes nothing.
use mathlib.Core.Path.{◌≡◌}
use mathlib.Core.List.{List}
use Prim.Native.Nat.{ℕ, ◌-◌}
use Rattle.datatype.specs.Handling.{asked, word_at, handling_at}
use Rattle.table.specs.Table.{decode, type_at}
use Rattle.obeying.proofs.handling_at.Given as goal

abbrev pub invariant-loop : goal.invariant-loop
invariant-loop l = (t : List ℕ) → handling_at l.handling (type_at l.half t l.type_number) l.byte ≡ asked (word_at (decode (64 - l.counter) l.half t l.k) l.at) l.obeyed
