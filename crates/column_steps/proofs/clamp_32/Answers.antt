-- `column_steps::clamp_32` meets its contract. Assumes nothing.
use Rattle.std.proofs.Common.{rules}
use Rattle.column_steps.proofs.Making.{clamp_high, clamp_low, clamp_none}
use Rattle.column_steps.proofs.clamp_32.Goals as goal

ruleset laws = (rules, clamp_high, clamp_low, clamp_none)

pub returns-then-high-b : goal.returns-then-high-b
returns-then-high-b c = search laws

pub returns-then-b-low : goal.returns-then-b-low
returns-then-b-low c = search laws

pub returns-else-b-low : goal.returns-else-b-low
returns-else-b-low c = search laws
