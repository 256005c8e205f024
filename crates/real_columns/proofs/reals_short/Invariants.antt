-- `real_columns::reals_short` meets its contract. The loop's invariant: the first i numbers are made, and those from i on as they were. Assumes nothing.
use Rattle.std.proofs.Common.{ℕ, ◌+◌, ◌-◌, ◌*◌, ◌/◌, ◌^◌, ◌≤◌}
use lib.Bits.{bit_and}
use Rattle.column_steps.proofs.Making.{Made}
use Rattle.real_columns.specs.Short.{short_real}
use Rattle.real_columns.proofs.reals_short.Given as goal

abbrev pub made : ℕ → ℕ → ℕ → ℕ → ℕ → ℕ → ℕ → ℕ
made first all shift mask up ones x = short_real first all (bit_and (x / 2 ^ shift) mask) * 2 ^ up + ones

abbrev pub invariant-loop-i : goal.invariant-loop-i
invariant-loop-i l = Made (made l.first l.all l.shift l.mask l.up l.ones) l.initial.t l.t l.i
