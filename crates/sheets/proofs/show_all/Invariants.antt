use Rattle.std.proofs.Common.{length, ◌-◌}
use Rattle.sheets.proofs.show_all.Given as goal

abbrev pub decreases-loop-at : goal.decreases-loop-at
decreases-loop-at g l = length l.initial.names - l.at
