-- `record_compare::put_record` meets its contract. The loop's invariant: the lines of the first k entries are written. Assumes nothing.
use Rattle.text.specs.Written.{Wrote}
use Rattle.comparing.specs.Comparing.{record_text}
use Rattle.record_compare.proofs.put_record.Given as goal

abbrev pub invariant-loop-k : goal.invariant-loop-k
invariant-loop-k l = Wrote l.initial.list l.at (record_text l.index l.first l.second l.plan l.k l.first_sheet l.first_half l.second_sheet l.second_half) l.list l.next
